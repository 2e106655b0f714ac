-- Figures of the numbers below n are settled one at a time, until no offer is left. So leasts are settled (a rule over settled
-- nonterminals offers its size to its left side) and contexts (a rule of a settled nonterminal offers what it comes to there to
-- each nonterminal among its symbols). What a figure has to be is `Figure`, what an offer is is `Offer`; asked is that each
-- number makes a smallest offer or none, and that the smallest of all offers is right: the figure of the number to which it is
-- made.
-- A list `todo` holds the numbers that are not settled. Of the offers to these take the smallest, settle its number by it, and
-- take the number out of the list. The list shrinks, so this ends, and it ends only where no offer is made to a number of the
-- list. What that says of the numbers left over is shown where the law is used: of leasts that they are stuck, of contexts that
-- the others are closed.
-- Assumes nothing.
use Prim.Native.Nat.{ℕ, ◌<◌}
use native.Mathlib.Decide.{ℕ_discrete}
use mathlib.Core.Path.{◌≡◌}
use mathlib.Core.Logic.{◌⊎◌, inl, inr}
use mathlib.Core.List.{List}
use lib.Dec.{eqb}
use lib.ListN.{length}
use borrow.Author.Tests.{eq-eqb, ne_eqb}
use Rattle.grammar.specs.Tree.{◌∈◌}
use Rattle.grammar.specs.Measure.{Cost}
use Rattle.grammar.specs.Certificates.{either}
use Rattle.grammar.proofs.BySize.{by_size}
use Rattle.grammar.proofs.Search.{member?, Without, without, Smallest, NoOffer, Best, smallest}

-- figures with one more settled
pub put : {X : Type 0} → ℕ → X → (ℕ → X) → ℕ → X
put A m v B = either (eqb B A) m (v B)

pub put_here : {X : Type 0} (A B : ℕ) (m : X) (v : ℕ → X) → B ≡ A → put A m v B ≡ m
unfolding put
put_here A B m v e = rw (eq-eqb B A e)

pub put_there : {X : Type 0} (A B : ℕ) (m : X) (v : ℕ → X) → ¬ (B ≡ A) → put A m v B ≡ v B
unfolding put
put_there A B m v n = rw (ne_eqb B A n)

module _ (c : Cost) (n : ℕ) (first : List ℕ) (Figure : ℕ → c.C → Type 0) where
  open c use {C}

  -- of the numbers below n all but those of todo, which are among the first, have their figures
  pub record Settled (todo : List ℕ) : Type 0 where
    pub figures : ℕ → C
    pub among : (A : ℕ) → A ∈ todo → A ∈ first
    pub right : (A : ℕ) → A < n → ¬ (A ∈ todo) → Figure A (figures A)

  module _ (Offer : (todo : List ℕ) → Settled todo → (k A : ℕ) → C → Type 0) (m : ℕ) where
    -- k offers x to a number that is not settled
    pub record Made (todo : List ℕ) (state : Settled todo) (k : ℕ) (x : C) : Type 0 where
      pub to : ℕ
      pub unsettled : to ∈ todo
      pub offer : Offer todo state k to x

    -- where the settling ends
    pub record Halt : Type 0 where
      pub todo : List ℕ
      pub state : Settled todo
      pub no_offer : NoOffer c (Made todo state) m

    -- each k makes a smallest offer or none, and the smallest of all is right
    pub record Fair : Type 0 where
      pub best : (todo : List ℕ) (state : Settled todo) (k : ℕ) → Best c (Made todo state k)
      pub meets : (todo : List ℕ) (state : Settled todo) (s : Smallest c (Made todo state) m) → Figure s.offers.to s.cost

    settle_one : {todo rest : List ℕ} {A : ℕ} {x : C} → Settled todo → Figure A x → Without A todo rest → Settled rest
    settle_one {todo} {A = A} {x = x} state is z = record {
      figures = put A x state.figures;
      among = λ B b. state.among B (z.still B b);
      right = λ B lt n. go B lt (ℕ_discrete B A) (z.others B n);
    }
      where
        go : (B : ℕ) → B < n → Dec (B ≡ A) → (B ≡ A) ⊎ (¬ (B ∈ todo)) → Figure B (put A x state.figures B)
        go B lt (yes e) h = rw (put_here A B x state.figures e, e) is
        go B lt (no d) (inl e) = absurd (d e)
        go B lt (no d) (inr k) = rw (put_there A B x state.figures d) (state.right B lt k)

    abbrev States : Type 0
    States = (todo : List ℕ) × Settled todo

    -- SETTLED: from any first figures, right for what is not among the first, to a state without an offer
    pub settles : Fair → Settled first → Halt
    settles fair state = by_size (λ (z : States). length z.0) (λ z. Halt) step (first, state)
      where
        step : (z : States) → ((y : States) → length y.0 < length z.0 → Halt) → Halt
        step z again = go (smallest c (Made z.0 z.1) (fair.best z.0 z.1) m)
          where
            go : Smallest c (Made z.0 z.1) m ⊎ NoOffer c (Made z.0 z.1) m → Halt
            go (inl s) =
                let (rest, out) = without s.offers.to z.0 s.offers.unsettled in
                again (rest, settle_one z.1 (fair.meets z.0 z.1 s) out) out.shorter
            go (inr none) = record { todo = z.0; state = z.1; no_offer = none }

    -- in the end each number has its figure or is left over
    pub settled_or_left : (h : Halt) (A : ℕ) → A < n → Figure A (h.state.figures A) ⊎ A ∈ h.todo
    settled_or_left h A lt = go (member? A h.todo)
      where
        go : Dec (A ∈ h.todo) → Figure A (h.state.figures A) ⊎ A ∈ h.todo
        go (yes left) = inr left
        go (no settled) = inl (h.state.right A lt settled)
