-- The symbols of the context rule of a nonterminal, as they are read, and the parts of them before its place and after it.
-- Assumes nothing.
use Prim.Native.Nat.{ℕ, ◌+◌, ◌-◌, ◌<◌}
use native.Mathlib.Numerals.{add-one}
use native.Mathlib.Omega.{arith}
use mathlib.Core.List.{List}
use mathlib.Core.Path.{◌≡◌, ap, sym, ◌∙◌}
use lib.Seq.{length-take-le}
use lib.ListN.{length, take, drop}
use Rattle.std.proofs.lemmas.List.{take_rest}
use Rattle.entries.specs.Table.{rule_in, place_in}
use Rattle.handout.specs.declared.tabled.Tabled.{Tabled}
use Rattle.handout.specs.Listing.{right_of}
use Rattle.handout.specs.TreeListing.{Inner, front_of, back_of}
use Rattle.handout.proofs.ContextRules.{place_within}

module _ (t : Tabled) (A : ℕ) {k i : ℕ} {symbols : List ℕ} (rule : k ≡ rule_in t.table.now A) (read : symbols ≡ right_of t k)
    (place : i ≡ place_in t.table.now A) where
  are : symbols ≡ right_of t (rule_in t.table.now A)
  are = read ∙ ap (right_of t) rule

  pub within_symbols : Inner t A → i < length symbols
  within_symbols inner = omega (arith, place_within t inner, ap length are)

  pub front_length : Inner t A → i ≡ length (take i symbols)
  front_length inner = sym (length-take-le i symbols (omega (arith, within_symbols inner)))

  pub front_is : take i symbols ≡ front_of t A
  front_is = rw (place, are)

  pub back_is : take (length symbols - (i + 1)) (drop (i + 1) symbols) ≡ back_of t A
  back_is = take_rest symbols (i + 1) ∙ rw (add-one i, place, are)
