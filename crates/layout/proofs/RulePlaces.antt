-- Where a grammar's rules stand in its words: they follow the head in a row, so before rule k stand the head and the words of the
-- rules below k. Assumes nothing.
use mathlib.Core.Path.{◌≡◌, refl, ap, sym, ◌∙◌}
use mathlib.Core.List.{List, [], ◌∷◌, ◌++◌, append_assoc}
use mathlib.Core.Option.{some}
use Prim.Native.Nat.{ℕ, zero, suc, ◌+◌, ◌≤◌, ◌<◌}
use native.Mathlib.Omega.{arith}
use native.Mathlib.Numerals.{add-one}
use lib.ListN.{length, get_or, get_elem?, take, drop, length-append}
use lib.Seq.{take-length, get_or-append_seam, get_or-append-add, drop-append-add, take-append_seam, get_or-take, get_or-drop}
use Rattle.grammar.specs.Words.{Grammar, Rule, ◌⟶◌, R, reads, layout, rule_words, rules_words, place_of}
use Rattle.grammar.proofs.LayoutExact.{layout_exact}

rules_words_append : (rs ss : List Rule) → rules_words (rs ++ ss) ≡ rules_words rs ++ rules_words ss
rules_words_append [] ss = refl
rules_words_append (ρ ∷ rs) ss = rw (rules_words_append rs ss, append_assoc)

-- a rule parts the rules
parted : (rs : List Rule) (k : ℕ) (ρ : Rule) → get_elem? rs k ≡ some ρ → rs ≡ take k rs ++ ρ ∷ drop (suc k) rs
parted [] k ρ e = absurd (let z : ◌≡◌ {A = ℕ} 0 1 = cc in omega arith)
parted (σ ∷ rs) zero ρ e = let q : σ ≡ ρ = cc in rw q
parted (σ ∷ rs) (suc k) ρ e = ap (σ ∷◌) (parted rs k ρ e)

taken : (rs : List Rule) (k : ℕ) (ρ : Rule) → get_elem? rs k ≡ some ρ → take (suc k) rs ≡ take k rs ++ ρ ∷ []
taken [] k ρ e = absurd (let z : ◌≡◌ {A = ℕ} 0 1 = cc in omega arith)
taken (σ ∷ rs) zero ρ e = let q : σ ≡ ρ = cc in rw q
taken (σ ∷ rs) (suc k) ρ e = ap (σ ∷◌) (taken rs k ρ e)

-- a rule between other words: what stands at its index, and after
module _ (us : List ℕ) (A : ℕ) (w vs : List ℕ) where
  abbrev around : List ℕ
  around = us ++ (rule_words (A ⟶ w) ++ vs)

  left_there : get_or around (length us) 0 ≡ A
  left_there = get_or-append_seam us A (length w ∷ (w ++ vs)) 0

  count_there : get_or around (length us + 1) 0 ≡ length w
  count_there = get_or-append-add us (rule_words (A ⟶ w) ++ vs) 1 0

  symbols_there : take (length w) (drop (length us + 2) around) ≡ w
  symbols_there = ap (take (length w)) (drop-append-add us (rule_words (A ⟶ w) ++ vs) 2) ∙ take-append_seam w vs

  whole_there : length us + 2 + length w ≤ length around
  whole_there = omega (arith, length-append us (rule_words (A ⟶ w) ++ vs), length-append w vs)

-- all words before rule k, and after it
abbrev before : Grammar → ℕ → List ℕ
before g k = g.N ∷ g.T ∷ g.start ∷ rules_words (take k g.rules)

abbrev after : Grammar → ℕ → List ℕ
after g k = rules_words (drop (suc k) g.rules)

module _ (ws : List ℕ) (g : Grammar) (e : layout ws ≡ reads g) where
  module _ (k A : ℕ) (w : List ℕ) (stands : get_elem? g.rules k ≡ some (A ⟶ w)) where
    pub next_place : place_of g k + 2 + length w ≡ place_of g (k + 1)
    next_place =
        let split = rules_words_append (take k g.rules) ((A ⟶ w) ∷ []) in
        rw (add-one k, taken g.rules k (A ⟶ w) stands, split, length-append, length-append) (omega arith)

    place_is : place_of g k ≡ length (before g k)
    place_is = omega arith

    parts : ws ≡ around (before g k) A w (after g k)
    parts =
        let at_rule = ap rules_words (parted g.rules k (A ⟶ w) stands) in
        let split = rules_words_append (take k g.rules) ((A ⟶ w) ∷ drop (suc k) g.rules) in
        ((layout_exact ws g).0 e).1 ∙ ap (λ (us : List ℕ). g.N ∷ g.T ∷ g.start ∷ us) (at_rule ∙ split)

    pub left_stands : get_or ws (place_of g k) 0 ≡ A
    left_stands = rw (parts, place_is) (left_there (before g k) A w (after g k))

    pub count_stands : get_or ws (place_of g k + 1) 0 ≡ length w
    count_stands = rw (parts, place_is) (count_there (before g k) A w (after g k))

    pub symbols_stand : take (length w) (drop (place_of g k + 2) ws) ≡ w
    symbols_stand = rw (parts, place_is) (symbols_there (before g k) A w (after g k))

    pub symbol_stands : (i : ℕ) → i < length w → get_or ws (place_of g k + 2 + i) 0 ≡ get_or w i 0
    symbol_stands i h =
        let first = place_of g k + 2 in
        let apart = sym (get_or-drop first ws i 0) ∙ sym (get_or-take (length w) (drop first ws) i 0 h) in
        apart ∙ ap (λ (us : List ℕ). get_or us i 0) symbols_stand

    pub rule_within : place_of g k + 2 + length w ≤ length ws
    rule_within = rw (parts, place_is) (whole_there (before g k) A w (after g k))

  -- past the last rule the words end
  pub places_end : place_of g (R g) ≡ length ws
  places_end = rw (take-length g.rules, ((layout_exact ws g).0 e).1) (omega arith)
