-- What the lister writes, one part after the other: runs of stores, and listings and sizes of symbols in order. Assumes nothing.
use Prim.Native.Nat.{ℕ, ◌+◌, ◌≤◌, ◌<◌}
use native.Mathlib.Numerals.{add-one}
use native.Mathlib.Omega.{arith}
use mathlib.Core.List.{List, [], ◌∷◌, ◌++◌, append_assoc, append-nil}
use mathlib.Core.Path.{◌≡◌, refl, ap, sym, ◌∙◌}
use lib.ListN.{length, get_or, take, drop, length-append, take-append-drop}
use lib.Seq.{take-suc}
use Rattle.answers.proofs.Stores.{sets_append}
use Rattle.grammar.specs.Words.{Grammar}
use Rattle.grammar.specs.Tree.{Forest, nil, leaf, child, sentence, sentences, derivation, derivations}
use Rattle.grammar.specs.Terms.{measure}
use Rattle.grammar.specs.Least.{ChosenForest}
use Rattle.handout.specs.declared.tabled.Tabled.{Tabled}
use Rattle.handout.specs.declared.listing.Listing.{Listing}
use Rattle.handout.specs.Listing.{size_by, sizes_by, SymbolListing, of_terminal, of_nonterminal, SymbolsListing, Wrote}

-- one after the other
module _ {us vs us' vs' : List ℕ} {p q r : Listing} where
  pub and_then : Wrote us vs p q → Wrote us' vs' q r → Wrote (us ++ us') (vs ++ vs') p r
  and_then h k = record {
    more_tokens = omega (arith, h.more_tokens, k.more_tokens, length-append us us');
    more_rules = omega (arith, h.more_rules, k.more_rules, length-append vs vs');
    sentence = k.sentence ∙ rw (h.sentence, h.more_tokens) (sym (sets_append us us' p.sentence.now p.tokens));
    derivation = k.derivation ∙ rw (h.derivation, h.more_rules) (sym (sets_append vs vs' p.derivation.now p.rules));
  }

pub nothing : (p : Listing) → Wrote [] [] p p
nothing p = record { more_tokens = omega arith; more_rules = omega arith; sentence = refl; derivation = refl }

-- the symbols of w listed, and then one more
module _ {g : Grammar} where
  pub one_more : {w : List ℕ} (f : Forest g w) {s : ℕ} {us vs : List ℕ} → ChosenForest measure g f → SymbolListing g s us vs →
      SymbolsListing g (w ++ s ∷ []) (sentences f ++ us) (derivations f ++ vs)
  one_more nil h (of_terminal p) = record { forest = leaf p nil; chosen = h; tokens = refl; rules = refl }
  one_more nil h (of_nonterminal t d) = record {
    forest = child t nil;
    chosen = (d, h);
    tokens = sym (append-nil (sentence t));
    rules = sym (append-nil (derivation t));
  }
  one_more (leaf {s} p f) h d =
      let m = one_more f h d in
      record { forest = leaf p m.forest; chosen = m.chosen; tokens = ap (λ l. s ∷ l) m.tokens; rules = m.rules }
  one_more (child t f) h d =
      let m = one_more f h.1 d in
      record {
        forest = child t m.forest;
        chosen = (h.0, m.chosen);
        tokens = append_assoc (sentence t) _ _ ∙ ap (λ l. sentence t ++ l) m.tokens;
        rules = append_assoc (derivation t) _ _ ∙ ap (λ l. derivation t ++ l) m.rules;
      }

-- the sizes of symbols
module _ (t : Tabled) where
  pub sizes_append : (u v : List ℕ) → sizes_by t (u ++ v) ≡ sizes_by t u + sizes_by t v
  unfolding sizes_by
  sizes_append [] v = omega arith
  sizes_append (s ∷ u) v = omega (arith, sizes_append u v)

  -- one symbol more
  pub sizes_more : (w : List ℕ) (i : ℕ) → i < length w →
      sizes_by t (take (i + 1) w) ≡ sizes_by t (take i w) + size_by t (get_or w i 0)
  unfolding sizes_by
  sizes_more w i h = rw (add-one i, take-suc w i 0 h) (omega (arith, sizes_append (take i w) (get_or w i 0 ∷ [])))

  -- and it is among them all
  pub sizes_within : (w : List ℕ) (i : ℕ) → i < length w → sizes_by t (take i w) + size_by t (get_or w i 0) ≤ sizes_by t w
  sizes_within w i h =
      let whole = ap (sizes_by t) (take-append-drop (i + 1) w) in
      omega (arith, whole, sizes_append (take (i + 1) w) (drop (i + 1) w), sizes_more w i h)
