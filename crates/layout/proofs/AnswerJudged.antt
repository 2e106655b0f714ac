-- From the number of rules to the judge's answer. Assumes nothing.
use mathlib.Core.Path.{◌≡◌, refl, ap, sym, ◌∙◌}
use mathlib.Core.List.{List}
use Prim.Native.Nat.{ℕ}
use native.Mathlib.Omega.{arith}
use lib.ListN.{get_or, drop}
use denote.Ref.{Bor}
use Rattle.std.specs.Prelude.{Result, Ok, Err, OnOk}
use Rattle.grammar.specs.Words.{Grammar, Rule, Judged, reads, faults, with_head, lefts, layout}
use Rattle.layout.specs.Judge.{fault, answer_of, no_places, places_of}
use Rattle.answers.specs.Buffers.{over}
use Rattle.layout.specs.JudgeParts.{Part, shaped, number_of, RulesNumbered, PlacesTold}
use Rattle.layout.specs.Heads.{HeadOf, Headed}
use Rattle.layout.specs.declared.judge.Fault.{Fault}
use Rattle.layout.specs.declared.head.Head.{Head}
use Rattle.layout.proofs.RulesByNumber.{starts_are_places}

-- what the parts of the judge answer, of how many rules there are
abbrev part_of : Judged ℕ → Part
part_of (reads n) = Ok n
part_of (faults p) = Err (fault p)

module _ (ws : List ℕ) where
  shaped_whole : (r : Judged (List Rule)) →
      shaped ws (part_of (number_of r)) ≡ answer_of (with_head (get_or ws 0 0) (get_or ws 1 0) (get_or ws 2 0) r)
  shaped_whole (reads rs) = refl
  shaped_whole (faults p) = refl

  numbered : (N T : ℕ) (r : Part) → RulesNumbered ws N T 3 r → part_of (number_of (lefts (drop 3 ws) 3 256 N T)) ≡ r
  numbered N T (Ok n) h = ap part_of h
  numbered N T (Err e) h = ap part_of h

  -- and where the rules stand is noted, in an array of 0
  pub rules_noted : (before after : List ℕ) (r : Part) → PlacesTold ws before r after → before ≡ no_places →
      shaped ws r ≡ answer_of (layout ws) → OnOk r (after ≡ places_of (layout ws))
  rules_noted before after (Err e) h clear a = tt
  rules_noted before after (Ok k) h clear a = go (layout ws) refl a
    where
      go : (j : Judged Grammar) → layout ws ≡ j → shaped ws (Ok k) ≡ answer_of j → after ≡ places_of j
      go (reads g) is a = h ∙ ap (λ (x : List ℕ). over x before) (starts_are_places ws g is) ∙ ap (over _) clear
      go (faults p) is a = absurd (let z : ◌≡◌ {A = ℕ} 0 1 = cc in omega arith)

pub rules_shaped : (words : Bor (List ℕ)) (h : Head) (r : Part) → HeadOf words h → RulesNumbered words.now h.nonterminals h.terminals 3 r →
    shaped words.now r ≡ answer_of (layout words.now)
rules_shaped words h r head n =
    let ws = words.now in
    let judged = rw (head.nonterminals, head.terminals) at head.judged in
    let counted = numbered ws (get_or ws 0 0) (get_or ws 1 0) r (rw (head.nonterminals, head.terminals) at n) in
    rw judged (ap (shaped ws) (sym counted) ∙ shaped_whole ws (lefts (drop 3 ws) 3 256 (get_or ws 0 0) (get_or ws 1 0)))

pub head_passed : (words : Bor (List ℕ)) (r : Result Head Fault) (h : Head) → Headed words r → r ≡ Ok h → HeadOf words h
head_passed words r h judged e = rw e at judged
