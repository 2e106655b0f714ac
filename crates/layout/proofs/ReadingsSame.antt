-- Two readings of the same words are the same: what a reading says of itself is settled by its words. Assumes nothing.
use mathlib.Core.Path.{◌≡◌, ap, sym, ◌∙◌}
use mathlib.Core.List.{List, [], ◌∷◌}
use mathlib.Core.HLevel.{is_prop→PathP}
use Prim.Native.Nat.{ℕ}
use lib.ListN.{get_or}
use denote.Ref.{Bor}
use Rattle.std.specs.Prelude.{Result, Ok, Err}
use Rattle.std.proofs.Props.{props}
use Rattle.grammar.specs.Words.{Grammar, Judged, reads, faults, layout}
use Rattle.layout.specs.Judge.{shape, fault, answer_of, numbers_of, places_of, placed, placed_of}
use Rattle.layout.specs.Read.{ReadOf, placed_in}
use Rattle.layout.specs.declared.judge.Fault.{Fault}
use Rattle.layout.specs.declared.reading.Reading.{Reading}

-- a list of four numbers settles each
same_number : (i : ℕ) {us vs : List ℕ} → us ≡ vs → get_or us i 0 ≡ get_or vs i 0
same_number i e = ap (λ (x : List ℕ). get_or x i 0) e

pub same_reading : (v w : Reading) → v.words ≡ w.words → v ≡ w
same_reading v w p = λ i. record {
  words = p i;
  places = places i;
  nonterminals = n i;
  terminals = t i;
  start = s i;
  rules = k i;
  numbers = is_prop→PathP (λ j. numbers_of (layout (p j).now) ≡ n j ∷ t j ∷ s j ∷ k j ∷ []) (λ j. hlevel props) v.numbers w.numbers i;
  stand = is_prop→PathP (λ j. places j ≡ places_of (layout (p j).now)) (λ j. hlevel props) v.stand w.stand i;
}
  where
    words : layout v.words.now ≡ layout w.words.now
    words = ap (λ (x : Bor (List ℕ)). layout x.now) p

    numbers : v.nonterminals ∷ v.terminals ∷ v.start ∷ v.rules ∷ [] ≡ w.nonterminals ∷ w.terminals ∷ w.start ∷ w.rules ∷ []
    numbers = sym v.numbers ∙ ap numbers_of words ∙ w.numbers

    places : v.places ≡ w.places
    places = v.stand ∙ ap places_of words ∙ sym w.stand

    n : v.nonterminals ≡ w.nonterminals
    n = same_number 0 numbers

    t : v.terminals ≡ w.terminals
    t = same_number 1 numbers

    s : v.start ≡ w.start
    s = same_number 2 numbers

    k : v.rules ≡ w.rules
    k = same_number 3 numbers

-- a reading is of a grammar's words
no_fault : (v : Reading) (p : ℕ) → ¬ (layout v.words.now ≡ faults p)
no_fault v p e = absurd (let z : ◌≡◌ {A = List ℕ} [] (v.nonterminals ∷ v.terminals ∷ v.start ∷ v.rules ∷ []) = sym (ap numbers_of e) ∙ v.numbers in cc)

-- words break at one place
pub same_fault : (ws : List ℕ) {e f : Fault} → layout ws ≡ faults e.place → layout ws ≡ faults f.place → e ≡ f
same_fault ws {e = e} {f = f} p q = let same : e.place ≡ f.place = cc in ap fault same

pub reading_settles : (words : Bor (List ℕ)) {r s : Result Reading Fault} → ReadOf words r → ReadOf words s → r ≡ s
reading_settles words {r = Ok v} {s = Ok w} p q = ap Ok (same_reading v w (p ∙ sym q))
reading_settles words {r = Ok v} {s = Err f} p q = absurd (no_fault v f.place (rw p q))
reading_settles words {r = Err e} {s = Ok w} p q = absurd (no_fault w e.place (rw q p))
reading_settles words {r = Err e} {s = Err f} p q = ap Err (same_fault words.now p q)

-- what a reading of words says: the judge's answer, and where the rules stand
pub reading_answers : (words : Bor (List ℕ)) (v : Reading) → ReadOf words (Ok v) →
    (Ok (shape v.nonterminals v.terminals v.start v.rules) ≡ answer_of (layout words.now)) × (v.places ≡ places_of (layout words.now))
reading_answers words v same = rw (← same) (go (layout v.words.now) v.numbers, v.stand)
  where
    go : (j : Judged Grammar) → numbers_of j ≡ v.nonterminals ∷ v.terminals ∷ v.start ∷ v.rules ∷ [] →
        Ok (shape v.nonterminals v.terminals v.start v.rules) ≡ answer_of j
    go (reads g) e = cc e
    go (faults p) e = absurd (let z : ◌≡◌ {A = List ℕ} [] (v.nonterminals ∷ v.terminals ∷ v.start ∷ v.rules ∷ []) = e in cc)

-- so without its words it is what `read` answers of them
pub reading_placed : (words : Bor (List ℕ)) (v : Reading) → ReadOf words (Ok v) → Ok (placed_in v) ≡ placed_of (layout words.now)
reading_placed words v same =
    let (shapes, places) = reading_answers words v same in
    go (layout words.now) shapes places
  where
    go : (j : Judged Grammar) → Ok (shape v.nonterminals v.terminals v.start v.rules) ≡ answer_of j → v.places ≡ places_of j →
        Ok (placed_in v) ≡ placed_of j
    go (reads g) e places = cc (e, places)
    go (faults p) e places = cc e

-- and of the words of a grammar the grammar's numbers, with where its rules stand
pub reading_of_grammar : (words : Bor (List ℕ)) (v : Reading) → v.words ≡ words → {g : Grammar} → layout words.now ≡ reads g →
    placed_in v ≡ placed g
reading_of_grammar words v same {g} e = cc (reading_placed words v same ∙ ap placed_of e)
