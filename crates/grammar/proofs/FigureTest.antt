-- Figures for a grammar, tested by computing: one pass over the rules and their places, and one over the nonterminals. Figures
-- that pass are document 01's least, chosen rule, context, context rule, place and total: the test is that of FigureCertificate,
-- with comparisons for its statements. Assumes nothing.
use Prim.Native.Nat.{ℕ, zero, suc, ◌+◌, ◌≤◌, ◌<◌}
use native.Mathlib.Omega.{arith}
use native.Mathlib.Decide.{dec_lt}
use mathlib.Core.Path.{◌≡◌, refl, sym, ap, ◌∙◌}
use mathlib.Core.Logic.{◌⊎◌, inl, inr}
use mathlib.Core.Bool.{Bool, true, false, ◌&&◌, ◌||◌, So, and-eq-true_iff}
use mathlib.Core.List.{List, [], ◌∷◌}
use mathlib.Core.Option.{Option, some, none}
use lib.Dec.{ltb, leb, eqb}
use lib.ListN.{get_elem?}
use borrow.Author.Tests.{ltb-true, leb-true, eqb-true}
use Rattle.grammar.specs.Words.{Grammar, Rule, ◌⟶◌, RuleAt, InBounds}
use Rattle.grammar.specs.Measure.{Cost, numbers}
use Rattle.grammar.specs.Terms.{measure}
use Rattle.grammar.specs.Certificates.{Holds}
use Rattle.grammar.specs.Certificates.{Figures, AreFigures, size_by, beside_by, Attains, Leads}
use Rattle.grammar.specs.Certificates.{FigureCertificate}
use Rattle.grammar.specs.FigureTests.{firstly, every, each, there}
use Rattle.grammar.specs.FigureTests.{place_test, rule_test, chosen_test, choice_test, chosen_passes, choice_passes}
use Rattle.grammar.specs.FigureTests.{figures_by?, figures?}
use Rattle.grammar.proofs.FigureCertificate.{figure_certificate}

firstly_holds : (x y : ℕ) (b : Bool) → So (firstly x y b) → (x < y) ⊎ ((x ≡ y) × So b)
firstly_holds x y b t = go (ltb x y) refl t
  where
    go : (c : Bool) → ltb x y ≡ c → So (c || (eqb x y && b)) → (x < y) ⊎ ((x ≡ y) × So b)
    go true h t = inl (ltb-true x y h)
    go false h t = let z = (and-eq-true_iff (eqb x y) b).0 t in inr (eqb-true x y z.0, z.1)

firstly_below : (x y : ℕ) (b : Bool) → So (firstly x y b) → x ≤ y
firstly_below x y b t = go (firstly_holds x y b t)
  where
    go : (x < y) ⊎ ((x ≡ y) × So b) → x ≤ y
    go (inl l) = omega arith
    go (inr z) = omega (arith, z.0)

firstly_equal : (x y : ℕ) (b : Bool) → So (firstly x y b) → x ≡ y → So b
firstly_equal x y b t e = go (firstly_holds x y b t)
  where
    go : (x < y) ⊎ ((x ≡ y) × So b) → So b
    go (inl l) = absurd (omega arith)
    go (inr z) = z.1

every_at : {X : Type 0} (f : ℕ → X → Bool) (xs : List X) → So (every f xs) →
    (i : ℕ) (x : X) → get_elem? xs i ≡ some x → So (f i x)
every_at f [] t i x e = absurd (let z : ◌≡◌ {A = ℕ} 0 1 = cc in omega arith)
every_at f (y ∷ xs) t zero x e =
    let same : y ≡ x = cc in rw same at ((and-eq-true_iff (f 0 y) (every (λ i. f (suc i)) xs)).0 t).0
every_at f (y ∷ xs) t (suc i) x e =
    every_at (λ i. f (suc i)) xs ((and-eq-true_iff (f 0 y) (every (λ i. f (suc i)) xs)).0 t).1 i x e

pub each_at : (f : ℕ → Bool) (n : ℕ) → So (each f n) → (k : ℕ) → k < n → So (f k)
each_at f zero t k l = absurd (omega arith)
each_at f (suc n) t k l = let z = (and-eq-true_iff (f n) (each f n)).0 t in go (dec_lt k n) (each_at f n z.1 k) z.0
  where
    go : Dec (k < n) → (k < n → So (f k)) → So (f n) → So (f k)
    go (yes h) again last = again h
    go (no h) again last = let e : k ≡ n = omega arith in rw e last

there_holds : {X : Type 0} (f : X → Bool) (o : Option X) → So (there f o) → (x : X) × (o ≡ some x) × So (f x)
there_holds f none t = absurd (let z : ◌≡◌ {A = ℕ} 0 1 = cc in omega arith)
there_holds f (some x) t = (x, refl, t)

otherwise : (a b : Bool) → So (a || b) → ¬ So a → So b
otherwise true b t n = absurd (n refl)
otherwise false b t n = t

-- of figures that are numbers
module _ (tok : ℕ → ℕ) (g : Grammar) (F : Figures (numbers tok)) where
  open F use {least, chosen, context, rule, place, total}

  abbrev c : Cost
  c = numbers tok

  abbrev size : List ℕ → ℕ
  size = size_by c g F

  abbrev beside : List ℕ → ℕ → ℕ
  beside = beside_by c g F

  abbrev both_pass : ℕ → Bool
  both_pass A = chosen_passes tok g F A && choice_passes tok g F A

  module _ (passes : So (figures_by? tok g F)) where
    at_start : context g.start ≡ 0
    at_start = eqb-true _ 0 ((and-eq-true_iff (eqb (context g.start) 0) _).0 passes).0

    both : So (every (rule_test tok g F) g.rules) × So (each both_pass g.N)
    both = (and-eq-true_iff _ _).0 ((and-eq-true_iff (eqb (context g.start) 0) _).0 passes).1

    choices_pass : (A : ℕ) → A < g.N → So (chosen_passes tok g F A) × So (choice_passes tok g F A)
    choices_pass A lt =
        (and-eq-true_iff (chosen_passes tok g F A) _).0 (each_at both_pass g.N both.1 A lt)

    rule_passes : (k B : ℕ) (w : List ℕ) → RuleAt g k B w → So (rule_test tok g F k (B ⟶ w))
    rule_passes k B w r = every_at (rule_test tok g F) g.rules both.0 k (B ⟶ w) r.stands

    size_passes : (k B : ℕ) (w : List ℕ) → RuleAt g k B w → So (firstly (least B) (size w) (leb (chosen B) k))
    size_passes k B w r = ((and-eq-true_iff (firstly (least B) (size w) (leb (chosen B) k)) _).0 (rule_passes k B w r)).0

    others_pass : (k B : ℕ) (w : List ℕ) → RuleAt g k B w → (total k ≡ context B + size w) × So (every (place_test tok g F k B w) w)
    others_pass k B w r =
        let z = ((and-eq-true_iff (firstly (least B) (size w) (leb (chosen B) k)) _).0 (rule_passes k B w r)).1 in
        let y = (and-eq-true_iff (eqb (total k) (context B + size w)) _).0 z in
        (eqb-true (total k) _ y.0, y.1)

    place_passes : (k B : ℕ) (w : List ℕ) (i A : ℕ) → RuleAt g k B w → Holds w i A → A < g.N →
        So (firstly (context A) (context B + beside w i) (firstly (rule A) k (leb (place A) i)))
    place_passes k B w i A r h lt =
        let t = every_at (place_test tok g F k B w) w (others_pass k B w r).1 i A h in
        otherwise (leb g.N A) _ t (λ e. omega (arith, leb-true g.N A e))

    chosen_attains : (A : ℕ) → A < g.N → Attains c g F A (chosen A)
    chosen_attains A lt = go (there_holds (chosen_test tok g F A) (get_elem? g.rules (chosen A)) (choices_pass A lt).0)
      where
        go : (ρ : Rule) × (get_elem? g.rules (chosen A) ≡ some ρ) × So (chosen_test tok g F A ρ) → Attains c g F A (chosen A)
        go (B ⟶ w, e, t) =
            let z = (and-eq-true_iff (eqb B A) (eqb (least A) (size w))).0 t in
            let same : B ≡ A = eqb-true B A z.0 in
            (w, record { stands = rw same at e; left = lt }, eqb-true (least A) (size w) z.1)

    choice_attains : (A : ℕ) → A < g.N → ¬ (A ≡ g.start) → Leads c g F A (rule A) (place A)
    choice_attains A lt other =
        let t = otherwise (eqb A g.start) _ (choices_pass A lt).1 (λ e. other (eqb-true A g.start e)) in
        go (there_holds (choice_test tok g F A) (get_elem? g.rules (rule A)) t)
      where
        go : (ρ : Rule) × (get_elem? g.rules (rule A) ≡ some ρ) × So (choice_test tok g F A ρ) → Leads c g F A (rule A) (place A)
        go (B ⟶ w, e, t) =
            let z = (and-eq-true_iff (ltb B g.N) _).0 t in
            let y = (and-eq-true_iff (there (eqb A) (get_elem? w (place A))) _).0 z.1 in
            let (s, h, same) = there_holds (eqb A) (get_elem? w (place A)) y.0 in
            let at : RuleAt g (rule A) B w = record { stands = e; left = ltb-true B g.N z.0 } in
            (B, w, at, h ∙ ap some (sym (eqb-true A s same)), eqb-true (context A) _ y.1)

    order : (A j h : ℕ) → (rule A < j) ⊎ ((rule A ≡ j) × So (leb (place A) h)) → (rule A < j) ⊎ ((rule A ≡ j) × (place A ≤ h))
    order A j h (inl l) = inl l
    order A j h (inr z) = inr (z.0, leb-true (place A) h z.1)

    -- SOUND: figures that pass have the certificate, so they are what it certifies
    pub certified_by : FigureCertificate c g F
    certified_by = record {
      least_below = λ k A w r. firstly_below (least A) (size w) (leb (chosen A) k) (size_passes k A w r);
      chosen_attains = chosen_attains;
      chosen_lowest = λ k A w r e. leb-true (chosen A) k (firstly_equal (least A) (size w) _ (size_passes k A w r) e);
      context-start = at_start;
      context_below = λ k B w i A r h lt. firstly_below (context A) _ _ (place_passes k B w i A r h lt);
      choice_attains = choice_attains;
      choice_first = λ k B w i A r h lt d e.
          let t = firstly_equal (context A) _ _ (place_passes k B w i A r h lt) e in
          order A k i (firstly_holds (rule A) k (leb (place A) i) t);
      totals = λ r A w at. (others_pass r A w at).0;
    }

-- AT DOCUMENT 01's MEASURE
module _ (g : Grammar) (F : Figures measure) (passes : So (figures? g F)) where
  pub figures_certified : FigureCertificate measure g F
  figures_certified = certified_by (λ s. 1) g F passes

  pub figures : InBounds g → AreFigures measure g F
  figures ok = (figure_certificate measure g F ok).0 figures_certified
