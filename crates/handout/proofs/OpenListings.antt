-- The listing of a tree put at an open leaf: what lies before the leaf, the tree's, what lies after the leaf. Assumes nothing.
use Prim.Native.Nat.{ℕ, suc, ◌<◌}
use native.Mathlib.Omega.{arith}
use mathlib.Core.List.{List, ◌∷◌, ◌++◌, append_assoc, append-nil}
use mathlib.Core.Path.{◌≡◌, refl, ap, sym, ◌∙◌}
use lib.ListN.{length, take, drop}
use Rattle.grammar.specs.Words.{Grammar}
use Rattle.grammar.specs.Tree.{Tree, node, nil, leaf, child, Gap, here, past_leaf, past_child, Open, root, down}
use Rattle.grammar.specs.Tree.{fill, plug, sentence, sentences, derivation, derivations}
use Rattle.grammar.specs.Terms.{measure}
use Rattle.grammar.specs.Least.{ChosenGap}
use Rattle.grammar.proofs.SameListing.{same_forest}
use Rattle.handout.specs.Listing.{SymbolsListing}
use Rattle.handout.specs.TreeListing.{before, after, gap_tokens, gap_rules, tokens_on, rules_on}

-- two layers around something are one
around : (a b c d e : List ℕ) → a ++ ((b ++ (c ++ d)) ++ e) ≡ (a ++ b) ++ (c ++ (d ++ e))
around a b c d e = simp append_assoc

module _ {g : Grammar} where
  fill_tokens : {w : List ℕ} {i A : ℕ} (a : Gap g w i A) (t : Tree g A) →
      sentences (fill a t) ≡ gap_tokens before a ++ (sentence t ++ gap_tokens after a)
  unfolding fill
  fill_tokens (here p f) t = refl
  fill_tokens (past_leaf {s} p a) t = ap (λ l. s ∷ l) (fill_tokens a t)
  fill_tokens (past_child u a) t = ap (λ l. sentence u ++ l) (fill_tokens a t) ∙ sym (append_assoc (sentence u) _ _)

  fill_rules : {w : List ℕ} {i A : ℕ} (a : Gap g w i A) (t : Tree g A) →
      derivations (fill a t) ≡ gap_rules before a ++ (derivation t ++ gap_rules after a)
  unfolding fill
  fill_rules (here p f) t = refl
  fill_rules (past_leaf p a) t = fill_rules a t
  fill_rules (past_child u a) t = ap (λ l. derivation u ++ l) (fill_rules a t) ∙ sym (append_assoc (derivation u) _ _)

  -- PLUG: the sentence and the derivation of a tree at an open leaf
  pub plug_tokens : {A : ℕ} (x : Open g A) (t : Tree g A) →
      sentence (plug x t) ≡ tokens_on before x ++ (sentence t ++ tokens_on after x)
  unfolding plug
  plug_tokens root t = sym (append-nil (sentence t))
  plug_tokens (down k r x a) t =
      plug_tokens x (node k r (fill a t)) ∙ ap (λ l. tokens_on before x ++ (l ++ tokens_on after x)) (fill_tokens a t)
      ∙ around (tokens_on before x) (gap_tokens before a) (sentence t) (gap_tokens after a) (tokens_on after x)

  pub plug_rules : {A : ℕ} (x : Open g A) (t : Tree g A) →
      derivation (plug x t) ≡ rules_on before x ++ (derivation t ++ rules_on after x)
  unfolding plug
  plug_rules root t = sym (append-nil (derivation t))
  plug_rules (down k r x a) t =
      plug_rules x (node k r (fill a t)) ∙ ap (λ l. rules_on before x ++ ((k ∷ l) ++ rules_on after x)) (fill_rules a t)
      ∙ around (rules_on before x) (k ∷ gap_rules before a) (derivation t) (gap_rules after a) (rules_on after x)

  -- the symbols before and after an open leaf, opened by chosen rules, are listed as what lies there
  pub before_listed : {w : List ℕ} {i A : ℕ} (a : Gap g w i A) → ChosenGap measure g a →
      SymbolsListing g (take i w) (gap_tokens before a) (gap_rules before a)
  before_listed (here p f) h = record { forest = nil; chosen = tt; tokens = refl; rules = refl }
  before_listed (past_leaf {s} p a) h =
      let m = before_listed a h in
      record { forest = leaf p m.forest; chosen = m.chosen; tokens = ap (λ l. s ∷ l) m.tokens; rules = m.rules }
  before_listed (past_child t a) h =
      let m = before_listed a h.1 in
      record {
        forest = child t m.forest;
        chosen = (h.0, m.chosen);
        tokens = ap (λ l. sentence t ++ l) m.tokens;
        rules = ap (λ l. derivation t ++ l) m.rules;
      }

  pub after_listed : {w : List ℕ} {i A : ℕ} (a : Gap g w i A) → ChosenGap measure g a →
      SymbolsListing g (drop (suc i) w) (gap_tokens after a) (gap_rules after a)
  after_listed (here p f) h = record { forest = f; chosen = h; tokens = refl; rules = refl }
  after_listed (past_leaf p a) h = after_listed a h
  after_listed (past_child t a) h = after_listed a h.1

  -- the place is one of the right side
  pub gap_within : {w : List ℕ} {i A : ℕ} → Gap g w i A → i < length w
  gap_within (here p f) = omega arith
  gap_within (past_leaf p a) = omega (arith, gap_within a)
  gap_within (past_child t a) = omega (arith, gap_within a)

  -- symbols are listed in one way
  pub listed_same : {w us vs us' vs' : List ℕ} → SymbolsListing g w us vs → SymbolsListing g w us' vs' → (us ≡ us') × (vs ≡ vs')
  listed_same h k =
      let same = same_forest measure h.forest refl k.forest h.chosen k.chosen in
      (h.tokens ∙ same.sentences_same ∙ sym k.tokens, h.rules ∙ same.derivations_same ∙ sym k.rules)
