-- What an answer of `layout::read` says of the words: where they break, or what grammar they are and where its rules stand.
-- Assumes nothing.
use mathlib.Core.Path.{◌≡◌, refl, ap, ◌∙◌}
use mathlib.Core.List.{List, [], ◌∷◌}
use Prim.Native.Nat.{ℕ, ◌≤◌, ◌<◌}
use native.Mathlib.Omega.{arith}
use lib.ListN.{get_or}
use Rattle.grammar.specs.Words.{Grammar, R, Judged, place_of, layout, reads, faults}
use Rattle.layout.specs.Judge.{numbers_of, no_places, places_of}
use Rattle.layout.specs.declared.reading.Reading.{Reading}
use Rattle.grammar.proofs.LayoutExact.{in_bounds}
use Rattle.layout.proofs.RulesByNumber.{place_in_front}
use Rattle.layout.specs.View.{View, Begun}

-- the places of words that are known to be a grammar are its rules'
begin_of : (ws : List ℕ) {places : List ℕ} {g : Grammar} → layout ws ≡ reads g → places ≡ places_of (layout ws) →
    (k : ℕ) → k < R g → get_or places k 0 ≡ place_of g k
begin_of ws {places} {g} is e k l = ap (λ (x : List ℕ). get_or x k 0) (e ∙ ap places_of is) ∙ place_in_front g no_places k l

pub places_of_lem : (ws : List ℕ) {places : List ℕ} {g : Grammar} → layout ws ≡ reads g → places ≡ places_of (layout ws) →
    View ws places g.N (R g) g
places_of_lem ws is e = record { is = is; begin = begin_of ws is e; nonterminals = refl; all_rules = refl }

-- what a reading says of itself
pub begun_of : (v : Reading) → Begun v.words.now v.places v.nonterminals v.start v.rules
begun_of v = go (layout v.words.now) refl v.numbers
  where
    go : (j : Judged Grammar) → layout v.words.now ≡ j → numbers_of j ≡ v.nonterminals ∷ v.terminals ∷ v.start ∷ v.rules ∷ [] →
        Begun v.words.now v.places v.nonterminals v.start v.rules
    go (reads g) is e =
        record {
          grammar = g;
          view = record {
            is = is;
            begin = begin_of v.words.now is v.stand;
            nonterminals = cc e;
            all_rules = cc e;
          };
          first = cc e;
        }
    go (faults p) is e = absurd (let z : ◌≡◌ {A = ℕ} 0 1 = cc in omega arith)

-- a grammar's bounds
pub view_few : {ws places : List ℕ} {n rules : ℕ} {g : Grammar} → View ws places n rules g → (n ≤ 128) × (rules ≤ 256)
view_few {ws} v =
    let ok = in_bounds ws v.is in
    let n = v.nonterminals in
    let r = v.all_rules in
    (omega (arith, ok.nonterminals), omega (arith, ok.at_most_256))
