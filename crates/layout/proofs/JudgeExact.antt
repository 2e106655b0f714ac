-- What the judge's answer says of the words, in terms of grammars and their words: a fault is at the first offending word or at
-- the end, and four numbers are those of the grammar whose words they are. Assumes nothing.
use mathlib.Core.Path.{◌≡◌, refl, ap, sym, ◌∙◌}
use mathlib.Core.Logic.{◌↔◌}
use mathlib.Core.List.{List}
use Prim.Native.Nat.{ℕ}
use native.Mathlib.Omega.{arith}
use Rattle.grammar.specs.Words.{Grammar, R, Judged, reads, faults, layout, FaultAt}
use Rattle.layout.specs.Judge.{shape, fault, answer_of, WordsOf}
use Rattle.std.specs.Prelude.{Result, Ok, Err}
use Rattle.layout.specs.declared.judge.Shape.{Shape}
use Rattle.layout.specs.declared.judge.Fault.{Fault}
use Rattle.grammar.proofs.LayoutExact.{layout_exact}
use Rattle.grammar.proofs.FirstOffence.{layout-faults_exact}

-- what an answer carries
abbrev carried : Result Shape Fault → Shape
carried (Ok s) = s
carried (Err e) = shape 0 0 0 0

abbrev faulted : Result Shape Fault → ℕ
faulted (Ok s) = 0
faulted (Err e) = e.place

answer-faults : (j : Judged Grammar) (p : ℕ) → answer_of j ≡ Err (fault p) → j ≡ faults p
answer-faults (reads g) p e = absurd (let z : ◌≡◌ {A = ℕ} 0 1 = cc in omega arith)
answer-faults (faults q) p e = ap faults (ap faulted e)

answer-reads : (j : Judged Grammar) (N T S n : ℕ) → answer_of j ≡ Ok (shape N T S n) →
    (g : Grammar) × (j ≡ reads g) × (g.N ≡ N) × (g.T ≡ T) × (g.start ≡ S) × (R g ≡ n)
answer-reads (reads g) N T S n e =
    let same = ap carried e in (
      g,
      refl,
      ap (λ (s : Shape). s.nonterminals) same,
      ap (λ (s : Shape). s.terminals) same,
      ap (λ (s : Shape). s.start) same,
      ap (λ (s : Shape). s.rules) same,
    )
answer-reads (faults q) N T S n e = absurd (let z : ◌≡◌ {A = ℕ} 0 1 = cc in omega arith)

module _ (ws : List ℕ) {r : Result Shape Fault} (promise : r ≡ answer_of (layout ws)) where
  -- EXACT: the answer is a fault at p exactly where the words break first
  pub judge_fault_exact : (p : ℕ) → (r ≡ Err (fault p)) ↔ FaultAt ws p
  judge_fault_exact p =
      let exact = layout-faults_exact ws p in
      (λ e. exact.0 (answer-faults (layout ws) p (sym promise ∙ e)), λ f. promise ∙ ap answer_of (exact.1 f))

  -- EXACT: the answer is four numbers exactly where the words are those of a grammar that has them
  pub judge_grammar_exact : (N T S n : ℕ) → (r ≡ Ok (shape N T S n)) ↔ WordsOf ws N T S n
  judge_grammar_exact N T S n = (to, from)
    where
      to : r ≡ Ok (shape N T S n) → WordsOf ws N T S n
      to e =
          let h = answer-reads (layout ws) N T S n (sym promise ∙ e) in
          let k = (layout_exact ws h.0).0 h.1 in
          record { grammar = h.0; ok = k.0; are = k.1; nonterminals = h.2; terminals = h.3; start = h.4; rules = h.5 }

      from : WordsOf ws N T S n → r ≡ Ok (shape N T S n)
      from h =
          promise ∙ ap answer_of ((layout_exact ws h.grammar).1 (h.ok, h.are))
          ∙ cc (h.nonterminals, h.terminals, h.start, h.rules)
