-- What all promises over a grammar begin with. Row 4 asks what grammar the words are (`OfWords`), rows 5, 6 and 7 judge it
-- (`OfAccepted`): words are refused in one way only, and what is refused is no accepted grammar. So each promise settles as soon
-- as its own rows do. Assumes nothing.
use Prim.Native.Nat.{ℕ}
use native.Mathlib.Omega.{arith}
use mathlib.Core.Path.{◌≡◌, refl, sym, ap, subst, ◌∙◌}
use mathlib.Core.Logic.{◌⊎◌, inl, inr}
use mathlib.Core.List.{List}
use Rattle.answers.specs.GrammarRefusals.{GrammarRefusal}
use Rattle.answers.specs.GrammarRefusals as row
use Rattle.grammar.specs.Words.{Grammar, layout, reads, faults}
use Rattle.grammar.specs.Refusals.{Lowest, NoTree, AllTrees, Unreached, AllReached, Oversize, AllFit, Accepted}
use Rattle.grammar.specs.Rows.{GrammarRefused, row_4, row_5, row_6, row_7}
use Rattle.grammar.proofs.LayoutExact.{rule_below, reads_unique}
use Rattle.grammar.proofs.Unique.{lowest_unique, total_unique}
use Rattle.answers.proofs.Gates.{Gate, stop, go, Settles, gate_settles}

-- words break at one place, and are no grammar then
faults_unique : (ws : List ℕ) {p q : ℕ} → layout ws ≡ faults p → layout ws ≡ faults q → p ≡ q
faults_unique ws a b = cc

reads_or_faults : (ws : List ℕ) {g : Grammar} {p : ℕ} → layout ws ≡ reads g → layout ws ≡ faults p → ⊥
reads_or_faults ws a b = let z : ◌≡◌ {A = ℕ} 0 1 = cc in omega arith

-- 4: a fault, with its outcome, or a grammar and an outcome of its rows
pub data OfWords {Out : Type 0} (words : List ℕ) (broken : ℕ → Out) (Rows : Grammar → Out → Type 0) : Out → Type 0 where
  fault : {p : ℕ} → layout words ≡ faults p → OfWords words broken Rows (broken p)
  grammar : {g : Grammar} {o : Out} → layout words ≡ reads g → Rows g o → OfWords words broken Rows o

pub words_settle : {Out : Type 0} (words : List ℕ) (broken : ℕ → Out) (Rows : Grammar → Out → Type 0) →
    ((g : Grammar) → Settles (Rows g)) → Settles (OfWords words broken Rows)
words_settle words broken Rows rows _ _ (fault e) (fault e') = ap broken (faults_unique words e e')
words_settle words broken Rows rows _ o' (fault e) (grammar e' b) = absurd (reads_or_faults words e' e)
words_settle words broken Rows rows o _ (grammar e a) (fault e') = absurd (reads_or_faults words e e')
words_settle words broken Rows rows o o' (grammar {g = g} e a) (grammar e' b) =
    rows g o o' a (subst (λ (k : Grammar). Rows k o') (reads_unique words e' e) b)

-- a Total above the limit and one within it are not the same rule's
pub not_fit : {limit : ℕ} (g : Grammar) (r : ℕ) → Lowest (Oversize limit g) r → AllFit limit g → ⊥
not_fit g r low fit =
    let o = low.such in
    let f = fit r (rule_below g.rules r _ o.is.rule.rule.stands) in
    omega (arith, total_unique o.is f.is, o.above, f.within)

-- what rows 4 to 7 come to: a refusal, or none
abbrev Verdict : Type 0
Verdict = GrammarRefusal ⊎ Unit {0}

module _ (limit : ℕ) (words : List ℕ) where
  -- rows 5, 6 and 7 as gates
  abbrev Judged : Grammar → Verdict → Type 0
  Judged g =
      Gate (Lowest (NoTree g)) (AllTrees g) (λ A. inl (row.no_tree A))
      (Gate (Lowest (Unreached g)) (AllReached g) (λ A. inl (row.unreached A))
      (Gate (Lowest (Oversize limit g)) (AllFit limit g) (λ r. inl (row.oversize r))
      (λ v. v ≡ inr tt)))

  judged_settles : (g : Grammar) → Settles (Judged g)
  judged_settles g =
      gate_settles (λ A. inl (row.no_tree A)) (λ x y. lowest_unique) (λ x a b. a.such.none (b x a.such.nonterminal))
      (gate_settles (λ A. inl (row.unreached A)) (λ x y. lowest_unique) (λ x a b. a.such.never (b x a.such.nonterminal))
      (gate_settles (λ r. inl (row.oversize r)) (λ x y. lowest_unique) (not_fit g)
      (λ v v' a b. a ∙ sym b)))

  -- and row 4 before them
  abbrev InOrder : Verdict → Type 0
  InOrder = OfWords words (λ p. inl (row.broken_layout p)) Judged

  in_order : {x : GrammarRefusal} → GrammarRefused limit words x → InOrder (inl x)
  in_order (row_4 e) = fault e
  in_order (row_5 e low) = grammar e (stop low)
  in_order (row_6 e t low) = grammar e (go t (stop low))
  in_order (row_7 e t u low) = grammar e (go t (go u (stop low)))

  passed : {g : Grammar} → layout words ≡ reads g → Accepted limit g → InOrder (inr tt)
  passed e a = grammar e (go a.trees (go a.reached (go a.fit refl)))

  one_verdict : Settles InOrder
  one_verdict = words_settle words (λ p. inl (row.broken_layout p)) Judged judged_settles

  -- ONE WAY ONLY
  pub refused_unique : {x y : GrammarRefusal} → GrammarRefused limit words x → GrammarRefused limit words y → x ≡ y
  refused_unique {x} {y} a b = let same = one_verdict (inl x) (inl y) (in_order a) (in_order b) in cc

  pub refused_or_accepted : {x : GrammarRefusal} {g : Grammar} → GrammarRefused limit words x → layout words ≡ reads g →
      Accepted limit g → ⊥
  refused_or_accepted {x} a e ok =
      let same = one_verdict (inl x) (inr tt) (in_order a) (passed e ok) in
      let z : ◌≡◌ {A = ℕ} 0 1 = cc in omega arith

-- a refusal by rows 4 to 7, with its outcome, or an accepted grammar and an outcome of its rows
pub data OfAccepted {Out : Type 0} (limit : ℕ) (words : List ℕ) (refuse : GrammarRefusal → Out) (Rows : Grammar → Out → Type 0) :
    Out → Type 0 where
  refused : {x : GrammarRefusal} → GrammarRefused limit words x → OfAccepted limit words refuse Rows (refuse x)
  accepted : {g : Grammar} {o : Out} → layout words ≡ reads g → Accepted limit g → Rows g o → OfAccepted limit words refuse Rows o

pub accepted_settle : {Out : Type 0} (limit : ℕ) (words : List ℕ) (refuse : GrammarRefusal → Out) (Rows : Grammar → Out → Type 0) →
    ((g : Grammar) → Settles (Rows g)) → Settles (OfAccepted limit words refuse Rows)
accepted_settle limit words refuse Rows rows _ _ (refused a) (refused b) = ap refuse (refused_unique limit words a b)
accepted_settle limit words refuse Rows rows _ o' (refused a) (accepted e ok b) = absurd (refused_or_accepted limit words a e ok)
accepted_settle limit words refuse Rows rows o _ (accepted e ok a) (refused b) = absurd (refused_or_accepted limit words b e ok)
accepted_settle limit words refuse Rows rows o o' (accepted {g = g} e ok a) (accepted e' ok' b) =
    rows g o o' a (subst (λ (k : Grammar). Rows k o') (reads_unique words e' e) b)
