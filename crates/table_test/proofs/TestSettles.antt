-- The promises of `test` and of `tested_reading` settle their answers: for each words and each table there is exactly one outcome that
-- each allows, and each answer is given exactly when it should be. Words are refused by one of rows 4 to 7 or are an accepted grammar,
-- and then the table is its own or not. Assumes nothing.
use Prim.Native.Nat.{ℕ}
use mathlib.Core.Path.{◌≡◌, refl, sym, ap, ◌∙◌}
use mathlib.Core.Logic.{◌⊎◌, inl, inr, ◌↔◌}
use mathlib.Core.List.{List}
use denote.Ref.{Bor}
use Rattle.std.specs.Prelude.{Option, Some, None}
use Rattle.answers.specs.GrammarRefusals.{GrammarRefusal}
use Rattle.grammar.specs.Words.{Grammar, R, layout, reads, Are}
use Rattle.grammar.specs.Refusals.{Accepted}
use Rattle.grammar.specs.Rows.{GrammarRefused}
use Rattle.grammar.specs.Terms.{limit}
use Rattle.grammar.proofs.LayoutExact.{reads_unique, in_bounds}
use Rattle.grammar.proofs.FirstRows.{refused_or_accepted}
use Rattle.grammar.proofs.FirstRowsMet.{refused?}
use Rattle.layout.specs.Judge.{places_of, placed}
use Rattle.layout.specs.Read.{placed_in}
use Rattle.layout.specs.declared.judge.Placed.{Placed}
use Rattle.layout.specs.declared.reading.Reading.{Reading}
use Rattle.layout.proofs.ReadingsSame.{same_reading, reading_of_grammar}
use Rattle.entries.specs.Table.{HasTable, Own}
use Rattle.entries.proofs.TableExists.{tabled?}
use Rattle.table_test.specs.Promise.{TestPromise, Tested, its, not_its}
use Rattle.layout.proofs.ReadingMade.{reading_of}

-- the numbers of the grammar whose table it is
abbrev pub OwnWith : List ℕ → ℕ → ℕ → ℕ → Grammar → Type 0
OwnWith table n s k g = (n ≡ g.N) × (s ≡ g.start) × (k ≡ R g) × Own table g

own? : (ws table : List ℕ) → Dec (Are ws (Own table))
own? ws table = of_words (refused? limit ws)
  where
    of_table : (g : Grammar) → layout ws ≡ reads g → Accepted limit g → Dec (HasTable g table) → Dec (Are ws (Own table))
    of_table g e ok (yes h) = yes (g, e, (ok, h))
    of_table g e ok (no n) = no (λ (h, e', own). n (rw (reads_unique ws e' e) at own.1))

    of_words : ((x : GrammarRefusal) × GrammarRefused limit ws x) ⊎ Are ws (Accepted limit) → Dec (Are ws (Own table))
    of_words (inl (x, r)) = no (λ (g, e, own). refused_or_accepted limit ws r e own.0)
    of_words (inr (g, e, ok)) = of_table g e ok (tabled? table g (in_bounds ws e) ok)

-- TEST
module _ (ws table : List ℕ) where
  -- AT MOST ONE
  pub test_settles : {r s : Option Placed} → TestPromise ws table r → TestPromise ws table s → r ≡ s
  test_settles {r = Some p} {s = Some q} (g, e, (is, own)) (h, e', (is', own')) =
      ap Some (is ∙ ap placed (reads_unique ws e e') ∙ sym is')
  test_settles {r = Some p} {s = None} (g, e, (is, own)) n = absurd (n (g, e, own))
  test_settles {r = None} {s = Some q} n (g, e, (is, own)) = absurd (n (g, e, own))
  test_settles {r = None} {s = None} n m = refl

  -- AT LEAST ONE
  pub test_met : (r : Option Placed) × TestPromise ws table r
  test_met = go (own? ws table)
    where
      go : Dec (Are ws (Own table)) → (r : Option Placed) × TestPromise ws table r
      go (yes (g, e, own)) = (Some (placed g), (g, e, (refl, own)))
      go (no n) = (None, n)

  -- EXACTLY WHEN, of each answer
  abbrev pub Told : Option Placed → ℕ → ℕ → ℕ → Type 0
  Told r n s k = (p : Placed) × (r ≡ Some p) × (p.shape.nonterminals ≡ n) × (p.shape.start ≡ s) × (p.shape.rules ≡ k)

  only_told : {p : Placed} → TestPromise ws table (Some p) →
      Are ws (OwnWith table p.shape.nonterminals p.shape.start p.shape.rules)
  only_told (g, e, (is, own)) = rw is (g, e, (refl, refl, refl, own))

  module _ {r : Option Placed} (t : TestPromise ws table r) where
    pub test_its : (n s k : ℕ) → Told r n s k ↔ Are ws (OwnWith table n s k)
    test_its n s k = (to, from)
      where
        to : Told r n s k → Are ws (OwnWith table n s k)
        to (p, e, x, y, z) = rw (x, y, z) at (only_told (rw e at t))

        from : Are ws (OwnWith table n s k) → Told r n s k
        from (g, e, (x, y, z, own)) = (placed g, test_settles t (g, e, (refl, own)), sym x, sym y, sym z)

    pub test_not_its : (r ≡ None) ↔ ¬ Are ws (Own table)
    test_not_its = (λ e. rw e at t, λ n. test_settles t n)

    -- where the rules stand is told with them
    pub test_places : (p : Placed) → r ≡ Some p → p.places ≡ places_of (layout ws)
    test_places p e = places (rw e at t)
      where
        places : TestPromise ws table (Some p) → p.places ≡ places_of (layout ws)
        places (g, read, (is, own)) = rw (is, read) refl

-- TESTED
module _ (words : Bor (List ℕ)) (table : List ℕ) where
  pub tested_settles : {r s : Option Reading} → Tested words table r → Tested words table s → r ≡ s
  tested_settles (its {v = v} e own is) (its {v = w} e' own' is') = ap Some (same_reading v w (is ∙ sym is'))
  tested_settles (its {g = g} e own is) (not_its n) = absurd (n (g, e, own))
  tested_settles (not_its n) (its {g = g} e own is) = absurd (n (g, e, own))
  tested_settles (not_its n) (not_its n') = refl

  pub tested_met : (r : Option Reading) × Tested words table r
  tested_met = go (own? words.now table)
    where
      go : Dec (Are words.now (Own table)) → (r : Option Reading) × Tested words table r
      go (yes (g, e, own)) = (Some (reading_of words g e), its e own refl)
      go (no n) = (None, not_its n)

  abbrev pub Numbered : Option Reading → ℕ → ℕ → ℕ → Type 0
  Numbered r n s k = (v : Reading) × (r ≡ Some v) × (v.nonterminals ≡ n) × (v.start ≡ s) × (v.rules ≡ k)

  read_words : {v : Reading} → Tested words table (Some v) → v.words ≡ words
  read_words (its e own is) = is

  -- without the words it is what `test` answers of them
  pub tested_placed : (v : Reading) → Tested words table (Some v) → TestPromise words.now table (Some (placed_in v))
  tested_placed v (its e own is) = (_, e, (reading_of_grammar words v is e, own))

  only_not_its : Tested words table None → ¬ Are words.now (Own table)
  only_not_its (not_its n) = n

  module _ {r : Option Reading} (t : Tested words table r) where
    pub tested_its : (n s k : ℕ) → Numbered r n s k ↔ Are words.now (OwnWith table n s k)
    tested_its n s k = (to, from)
      where
        to : Numbered r n s k → Are words.now (OwnWith table n s k)
        to (v, e, x, y, z) = rw (x, y, z) at (only_told words.now table (tested_placed v (rw e at t)))

        from : Are words.now (OwnWith table n s k) → Numbered r n s k
        from (g, e, (x, y, z, own)) =
            (reading_of words g e, tested_settles t (its e own refl), sym x, sym y, sym z)

    pub tested_not_its : (r ≡ None) ↔ ¬ Are words.now (Own table)
    tested_not_its = (λ e. only_not_its (rw e at t), λ n. tested_settles t (not_its n))

    -- a reading that is told is of these words, and where their rules stand is told with it
    pub tested_places : (v : Reading) → r ≡ Some v → (v.words ≡ words) × (v.places ≡ places_of (layout words.now))
    tested_places v e =
        let told = rw e at t in
        (read_words told, test_places words.now table (tested_placed v told) (placed_in v) refl)
