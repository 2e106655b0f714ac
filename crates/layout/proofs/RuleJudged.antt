-- One rule, part by part: where the layout faults it, and that it goes on behind it where the rule is fit.
-- Assumes nothing.
use mathlib.Core.Path.{◌≡◌, refl, ap, ap₂, ◌∙◌}
use mathlib.Core.List.{List, [], ◌∷◌}
use Prim.Native.Nat.{ℕ, zero, suc, ◌+◌, ◌-◌, ◌≤◌, ◌<◌}
use native.Mathlib.Omega.{arith}
use lib.Dec.{ltb, leb}
use lib.ListN.{length, get_or, drop, length-drop, drop_of_length-le}
use lib.Seq.{drop-cons, drop-drop, get_or-drop}
use borrow.Author.Tests.{lt-ltb, le-ltb, le-leb, lt-leb}
use Rattle.grammar.specs.Words.{Rule, Judged, reads, faults, test, Body, body, no_symbol, with_symbol, with_left}
use Rattle.grammar.specs.Words.{lefts, counts, symbols}
use Rattle.layout.specs.Walk.{count_at}
use Rattle.layout.specs.JudgeParts.{Part, number_of, number_after, more, rights, Symbols, SymbolsEnd, Ruled, RuleEnds}
use Rattle.std.specs.Prelude.{Ok, Err}

number_no_symbol : (r : Judged (List Rule)) → number_after (no_symbol r) ≡ number_of r
number_no_symbol (reads rs) = refl
number_no_symbol (faults p) = refl

number_with_symbol : (s : ℕ) (r : Judged Body) → number_after (with_symbol s r) ≡ number_after r
number_with_symbol s (reads (body w rs)) = refl
number_with_symbol s (faults p) = refl

number_with_left : (A : ℕ) (r : Judged Body) → number_of (with_left A r) ≡ more 1 (number_after r)
number_with_left A (reads (body w rs)) = let e : suc (length rs) ≡ 1 + length rs = omega arith in ap reads e
number_with_left A (faults p) = refl

module _ (N T room : ℕ) where
  -- the meaning of a right side, symbol by symbol
  rights_more : (s : ℕ) (ws : List ℕ) (k p : ℕ) →
      rights (s ∷ ws) (suc k) p room N T ≡ test (ltb s (N + T)) p (with_symbol s (rights ws k (suc p) room N T))
  unfolding rights symbols
  rights_more s ws zero p = refl
  rights_more s ws (suc k) p = refl

  counts-rights : (k : ℕ) (ws : List ℕ) (p : ℕ) → counts (k ∷ ws) p room N T ≡ test (leb k 32) p (rights ws k (suc p) room N T)
  unfolding rights counts
  counts-rights zero ws p = refl
  counts-rights (suc k) ws p = refl

  -- the first i symbols are fit, and the next is not or is missing
  rights_unfit : (ws : List ℕ) (k i p : ℕ) → i < k → i ≤ length ws → ((j : ℕ) → j < i → get_or ws j 0 < N + T) →
      (i < length ws → N + T ≤ get_or ws i 0) → rights ws k p room N T ≡ faults (p + i)
  unfolding rights symbols
  rights_unfit ws zero i p l m fit unfit = absurd (omega arith)
  rights_unfit [] (suc k) i p l m fit unfit = let e : p ≡ p + i = omega arith in ap faults e
  rights_unfit (s ∷ ws) (suc k) zero p l m fit unfit =
      let e : p ≡ p + 0 = omega arith in
      rw (rights_more s ws k p, le-ltb s (N + T) (unfit (omega arith))) (ap faults e)
  rights_unfit (s ∷ ws) (suc k) (suc i) p l m fit unfit =
      let e : suc p + i ≡ p + suc i = omega arith in
      let fit' : (j : ℕ) → j < i → get_or ws j 0 < N + T = λ j h. fit (suc j) (omega arith) in
      let later = rights_unfit ws k i (suc p) (omega arith) (omega arith) fit' (λ h. unfit (omega arith)) in
      rw (rights_more s ws k p, lt-ltb s (N + T) (fit 0 (omega arith)), later) (ap faults e)

  -- all k symbols are fit
  rights_fit : (ws : List ℕ) (k p : ℕ) → k ≤ length ws → ((j : ℕ) → j < k → get_or ws j 0 < N + T) →
      number_after (rights ws k p room N T) ≡ number_of (lefts (drop k ws) (p + k) room N T)
  unfolding rights
  rights_fit ws zero p m fit =
      let e : p ≡ p + 0 = omega arith in
      number_no_symbol (lefts ws p room N T) ∙ ap (λ (q : ℕ). number_of (lefts ws q room N T)) e
  rights_fit [] (suc k) p m fit = absurd (omega arith)
  rights_fit (s ∷ ws) (suc k) p m fit =
      let e : suc p + k ≡ p + suc k = omega arith in
      let later = rights_fit ws k (suc p) (omega arith) (λ j h. fit (suc j) (omega arith)) in
      rw (rights_more s ws k p, lt-ltb s (N + T) (fit 0 (omega arith)))
      (number_with_symbol s (rights ws k (suc p) room N T) ∙ later ∙ ap (λ (q : ℕ). number_of (lefts (drop k ws) q room N T)) e)

-- the same of the words from an index on
module _ (ws : List ℕ) (N T : ℕ) where
  pub symbols_unfit : (first k place : ℕ) → first ≤ place → place < first + k → place ≤ length ws →
      ((j : ℕ) → first ≤ j → j < place → get_or ws j 0 < N + T) → (place < length ws → N + T ≤ get_or ws place 0) →
      (room : ℕ) → rights (drop first ws) k first room N T ≡ faults place
  symbols_unfit first k place a b l fit unfit room =
      let e : first + (place - first) ≡ place = omega arith in
      rights_unfit N T room (drop first ws) k (place - first) first (omega arith) (rw length-drop (omega arith))
      (λ j h. rw get_or-drop (fit (first + j) (omega arith) (omega arith)))
      (λ h. rw (get_or-drop, e) (unfit (omega (arith, length-drop first ws))))
      ∙ ap faults e

  pub symbols_fit : (first k : ℕ) → first + k ≤ length ws → ((j : ℕ) → first ≤ j → j < first + k → get_or ws j 0 < N + T) →
      (room : ℕ) →
      number_after (rights (drop first ws) k first room N T) ≡ number_of (lefts (drop (first + k) ws) (first + k) room N T)
  symbols_fit first k l fit room =
      rights_fit N T room (drop first ws) k first (rw length-drop (omega arith))
      (λ j h. rw get_or-drop (fit (first + j) (omega arith) (omega arith)))
      ∙ ap (λ (us : List ℕ). number_of (lefts us (first + k) room N T)) (drop-drop k first ws)

  -- a left side that is no nonterminal
  pub left_unfit : (at : ℕ) → at < length ws → N ≤ get_or ws at 0 → (room : ℕ) → lefts (drop at ws) at (suc room) N T ≡ faults at
  unfolding lefts
  left_unfit at l h room = rw (drop-cons ws at 0 l, le-ltb (get_or ws at 0) N h)

  -- the words end in place of a count
  pub count_missing : (at : ℕ) → at < length ws → length ws < at + 2 → get_or ws at 0 < N → (room : ℕ) →
      lefts (drop at ws) at (suc room) N T ≡ faults (length ws)
  unfolding lefts
  count_missing at l m h room =
      let e : suc at ≡ length ws = omega arith in
      rw (drop-cons ws at 0 l, lt-ltb (get_or ws at 0) N h, drop_of_length-le ws {i = suc at} (omega arith)) (ap faults e)

  two_words : (at : ℕ) → at + 2 ≤ length ws → drop at ws ≡ get_or ws at 0 ∷ get_or ws (at + 1) 0 ∷ drop (at + 2) ws
  two_words at l =
      let e : suc at ≡ at + 1 = omega arith in
      let f : suc (suc at) ≡ at + 2 = omega arith in
      drop-cons ws at 0 (omega arith)
      ∙ ap (get_or ws at 0 ∷◌) (drop-cons ws (suc at) 0 (omega arith) ∙ ap₂ (λ (i j : ℕ). get_or ws i 0 ∷ drop j ws) e f)

  -- a count above 32
  pub count_unfit : (at : ℕ) → at + 2 ≤ length ws → get_or ws at 0 < N → 32 < get_or ws (at + 1) 0 → (room : ℕ) →
      lefts (drop at ws) at (suc room) N T ≡ faults (at + 1)
  unfolding lefts
  count_unfit at l h large room =
      let k = get_or ws (at + 1) 0 in
      let e : suc at ≡ at + 1 = omega arith in
      let counted = counts-rights N T room k (drop (at + 2) ws) (suc at) in
      rw (two_words at l, lt-ltb (get_or ws at 0) N h, counted, lt-leb k 32 large) (ap faults e)

  -- a left side and a count that are fit
  rule_goes_on : (at k : ℕ) → at + 2 ≤ length ws → get_or ws at 0 < N → k ≡ get_or ws (at + 1) 0 → k ≤ 32 → (room : ℕ) →
      lefts (drop at ws) at (suc room) N T ≡ with_left (get_or ws at 0) (rights (drop (at + 2) ws) k (at + 2) room N T)
  unfolding lefts
  rule_goes_on at k l h q few room =
      let e : suc (suc at) ≡ at + 2 = omega arith in
      let counted = counts-rights N T room k (drop (at + 2) ws) (suc at) in
      rw (two_words at l, lt-ltb (get_or ws at 0) N h, ← q, counted, le-leb k 32 few)
      (ap (λ (p : ℕ). with_left (get_or ws at 0) (rights (drop (at + 2) ws) k p room N T)) e)

  -- so the rule is what its symbols are
  pub rule_judged : (at k : ℕ) → at + 2 ≤ length ws → get_or ws at 0 < N → k ≡ get_or ws (at + 1) 0 → k ≤ 32 →
      (r : Part) → Symbols ws N T (at + 2) k r → Ruled ws N T at r
  rule_judged at k l h q few (Ok next) s = λ room.
      ap number_of (rule_goes_on at k l h q few room)
      ∙ number_with_left (get_or ws at 0) (rights (drop (at + 2) ws) k (at + 2) room N T)
      ∙ ap (more 1) (s room)
  rule_judged at k l h q few (Err e) s = λ room. rule_goes_on at k l h q few room ∙ ap (with_left (get_or ws at 0)) (s room)

-- and it ends where they do
pub rule_ends : (ws : List ℕ) (at k : ℕ) → k ≡ count_at ws at → k ≤ 32 → (r : Part) → SymbolsEnd ws (at + 2) k r → RuleEnds ws at r
rule_ends ws at k e few (Ok next) s = (omega (arith, s.0), s.1, omega (arith, s.0))
rule_ends ws at k e few (Err f) s = tt
