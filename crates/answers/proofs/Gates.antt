-- Rows judged in order. A gate either stops with an answer or lets the rest decide; if what stops is one thing only, and nothing
-- both stops and goes on, then the outcome is settled as soon as that of the rest is. A promise that is a list of rows in order
-- is a row of gates, so that settling it takes one fact for each row rather than one for each two rows. Assumes nothing.
use mathlib.Core.Path.{◌≡◌, ap}

pub data Gate {X Out : Type 0} (Stop : X → Type 0) (Go : Type 0) (answer : X → Out) (Rest : Out → Type 0) : Out → Type 0 where
  stop : {x : X} → Stop x → Gate Stop Go answer Rest (answer x)
  go : {o : Out} → Go → Rest o → Gate Stop Go answer Rest o

-- any two outcomes that P allows coincide
abbrev pub Settles : {Out : Type 0} → (Out → Type 0) → Type 0
Settles {Out} P = (o o' : Out) → P o → P o' → o ≡ o'

pub gate_settles : {X Out : Type 0} {Stop : X → Type 0} {Go : Type 0} (answer : X → Out) {Rest : Out → Type 0} →
    ((x y : X) → Stop x → Stop y → x ≡ y) → ((x : X) → Stop x → Go → ⊥) → Settles Rest → Settles (Gate Stop Go answer Rest)
gate_settles answer one apart rest _ _ (stop {x = x} a) (stop {x = y} b) = ap answer (one x y a b)
gate_settles answer one apart rest _ _ (stop {x = x} a) (go b c) = absurd (apart x a b)
gate_settles answer one apart rest _ _ (go a b) (stop {x = y} c) = absurd (apart y c a)
gate_settles answer one apart rest o o' (go a b) (go c d) = rest o o' b d
