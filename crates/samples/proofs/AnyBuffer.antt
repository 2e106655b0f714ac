-- The refusals of `tables` other than 3 look at the words alone: one that is given of one buffer is given of every buffer, and
-- `next` gives it too. So a sample that is proved of a buffer of no words holds of all. Assumes nothing.
use Prim.Native.Nat.{ℕ, ◌≤◌}
use native.Mathlib.Omega.{arith}
use mathlib.Core.Path.{◌≡◌}
use mathlib.Core.List.{List}
use Rattle.tables.specs.Promise as tables
use Rattle.tables.specs.Promise.{Tables}
use Rattle.tables.specs.declared.TableAnswer.{TableAnswer}
use Rattle.tables.specs.declared.TableAnswer.TheVariants as table-answer
use Rattle.handout.specs.Next as next
use Rattle.handout.specs.declared.NextAnswer.TheVariants as next-answer
use Rattle.samples.specs.Row.{refusal_of, Holds}

-- an answer as `next` gives it
same_refusal : {n n' p p' : ℕ} → table-answer.Refused n p ≡ table-answer.Refused n' p' →
    next-answer.Refused n p ≡ next-answer.Refused n' p'
same_refusal {n} {n'} {p} {p'} e = let a : n ≡ n' = cc in let b : p ≡ p' = cc in cc

pub refused_of_any : {words one after : List ℕ} {a : TableAnswer} {number place : ℕ} → Tables words one a after →
    a ≡ table-answer.Refused number place → 4 ≤ number → Holds (refusal_of words number place)
refused_of_any (tables.row_4_7 x) same l =
    (λ before. rw (← same) (tables.row_4_7 x), λ table before. rw (← same_refusal same) (next.row_4_7 x))
refused_of_any {number = number} (tables.row_3 e a short) same l =
    let three : ◌≡◌ {A = ℕ} 3 number = cc in absurd (omega arith)
refused_of_any (tables.row_done e a room is) same l = absurd (let z : ◌≡◌ {A = ℕ} 0 1 = cc in omega arith)
