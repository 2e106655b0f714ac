-- Every handout of a night is proper: its derivation is one of its sentence, the target is in it and is the lowest rule that none
-- before has used, no tree of the start that uses the target is smaller, and both together are at most 4,096 numbers.
-- The marks say which rules the handouts so far have used, no more and no less (`Tells`): clear marks say so of none, and a call
-- sets the zero marks of exactly the rules in its derivation. So the lowest rule with a zero mark is the lowest that is new.
-- Assumes nothing.
use Prim.Native.Nat.{ℕ, ◌+◌, ◌≤◌, ◌<◌}
use native.Mathlib.Omega.{arith}
use mathlib.Core.Path.{◌≡◌, refl, sym, ◌∙◌, subst}
use mathlib.Core.Logic.{◌⊎◌, inl, inr}
use mathlib.Core.List.{List, ◌∷◌}
use lib.ListN.{length, get_or, take}
use Rattle.grammar.specs.Words.{Grammar, R, layout, reads}
use Rattle.grammar.specs.Tree.{Tree, sentence, derivation, ◌∈◌}
use Rattle.grammar.specs.Terms.{measure, limit}
use Rattle.grammar.specs.Least.{TreeOf}
use Rattle.grammar.specs.Refusals.{Accepted}
use Rattle.grammar.proofs.Leftmosts.{tree_derives}
use Rattle.grammar.proofs.SizeIsLength.{size_is_length}
use Rattle.grammar.proofs.Unique.{total_unique}
use Rattle.grammar.proofs.Totals.{total_smallest, tree_of_total, tree_of_uses}
use Rattle.grammar.proofs.LayoutExact.{reads_unique}
use Rattle.marks.proofs.MarksSettle.{ToSet, mark_cases}
use Rattle.handout.specs.Next.{NextPromise, AllUnused, Lent}
use Rattle.handout.specs.Given.{Handed}
use Rattle.handout.specs.Night.{Handout, handout, Night, clear, later, UsedIn, Proper, AllProper, none_yet, and_then}
use Rattle.handout.specs.declared.NextAnswer.TheVariants.{Next}
use Rattle.handout.proofs.NextExact.{next_writes}

-- the tree of a rule of an accepted grammar keeps within the limit
pub tree_of_limit : {g : Grammar} {r : ℕ} {t : Tree g g.start} → Accepted limit g → r < R g → TreeOf measure g r t →
    length (sentence t) + length (derivation t) ≤ limit
tree_of_limit {r = r} {t = t} a l o =
    let fits = a.fit r l in
    omega (arith, total_unique (tree_of_total measure o) fits.is, fits.within, size_is_length t)

-- the marks of g's rules say which rules are used
abbrev pub Tells : Grammar → List Handout → List ℕ → Type 0
Tells g hs marks = (i : ℕ) → i < R g → (UsedIn hs i → ¬ (get_or marks i 0 ≡ 0)) × (¬ (get_or marks i 0 ≡ 0) → UsedIn hs i)

-- one call more
module _ {words table : List ℕ} {before after : Lent} {r n m : ℕ} {g : Grammar} (h : Handed words table before after r n m g)
    (hs : List Handout) (tells : Tells g hs before.marks) where
  lists : take m after.rules ≡ derivation h.t
  lists = h.rules.front

  tells_next : Tells g (handout r (take n after.tokens) (take m after.rules) ∷ hs) after.marks
  tells_next i l = go (mark_cases (derivation h.t) before.marks i h.marks (omega (arith, h.wanted.marked)))
    where
      go : (ToSet (derivation h.t) before.marks i × (get_or after.marks i 0 ≡ 1)) ⊎
          ((¬ ToSet (derivation h.t) before.marks i) × (get_or after.marks i 0 ≡ get_or before.marks i 0)) →
          ((i ∈ take m after.rules) ⊎ UsedIn hs i → ¬ (get_or after.marks i 0 ≡ 0)) ×
          (¬ (get_or after.marks i 0 ≡ 0) → (i ∈ take m after.rules) ⊎ UsedIn hs i)
      go (inl (set, one)) = (λ u e. omega arith, λ n. inl (rw lists set.0))
      go (inr (not_set, kept)) = (used, λ n. inr ((tells i l).1 (λ e. n (kept ∙ e))))
        where
          used : (i ∈ take m after.rules) ⊎ UsedIn hs i → ¬ (get_or after.marks i 0 ≡ 0)
          used (inl k) e = not_set (rw lists at k, sym kept ∙ e)
          used (inr k) e = (tells i l).0 k (sym kept ∙ e)

  proper_next : Proper g hs r (take n after.tokens) (take m after.rules)
  proper_next =
      let low = h.wanted.target in
      let rule = low.such.rule in
      let tree = h.wanted.tree in
      let size = size_is_length h.t in
      rw (h.tokens.front, lists) (record {
        rule = rule;
        derives = tree_derives h.t;
        uses = tree_of_uses measure tree;
        new = λ u. (tells r rule).0 u low.such.zero;
        lowest = λ k l. (tells k (omega arith)).1 (λ e. omega (arith, low.lowest k (record { rule = omega arith; zero = e })));
        least = λ u uses. omega (arith, total_smallest measure (tree_of_total measure tree) u uses);
        limit = tree_of_limit h.wanted.accepted rule tree;
      })

-- the grammar of the words is the one that the night runs over
handed : {words table : List ℕ} {before after : Lent} {r n m : ℕ} {g : Grammar} → layout words ≡ reads g →
    NextPromise words table before (Next r n m) after → Handed words table before after r n m g
handed {words} {table} {before} {after} {r} {n} {m} e p =
    let (k, read, h) = next_writes p r n m refl in
    subst (λ (j : Grammar). Handed words table before after r n m j) (reads_unique words read e) h

pub night_tells : {words table marks : List ℕ} {hs : List Handout} {g : Grammar} → layout words ≡ reads g →
    Night words table hs marks → AllProper g hs × Tells g hs marks
night_tells {words} {g = g} e (clear {marks = marks} read z) =
    let unused : AllUnused g marks = subst (λ (h : Grammar). AllUnused h marks) (reads_unique words read e) z in
    (none_yet, λ i l. (λ u. absurd u, λ n. absurd (n (unused i l))))
night_tells e (later {handed = hs} night p) =
    let h = handed e p in
    let (proper, tells) = night_tells e night in
    (and_then (proper_next h hs tells) proper, tells_next h hs tells)

-- EACH
pub night_proper : {words table marks : List ℕ} {hs : List Handout} {g : Grammar} → layout words ≡ reads g →
    Night words table hs marks → AllProper g hs
night_proper e night = (night_tells e night).0
