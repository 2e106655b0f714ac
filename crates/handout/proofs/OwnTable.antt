-- What a grammar with its table says of itself: the grammar that was read, that it is accepted, and that the table is its own. That is
-- told by a fact of which no more is kept than that it holds, so that it takes deciding to have it. Assumes nothing.
use mathlib.Core.Path.{◌≡◌, subst}
use mathlib.Core.Logic.{◌⊎◌, inl, inr}
use mathlib.Core.List.{List}
use Prim.Native.Nat.{ℕ}
use Rattle.std.proofs.lemmas.Grind.{not_there}
use Rattle.answers.specs.GrammarRefusals.{GrammarRefusal}
use Rattle.grammar.specs.Words.{Grammar, Are, layout, reads}
use Rattle.grammar.specs.Refusals.{Accepted}
use Rattle.grammar.specs.Rows.{GrammarRefused}
use Rattle.grammar.specs.Terms.{limit}
use Rattle.grammar.proofs.FirstRows.{refused_or_accepted}
use Rattle.grammar.proofs.FirstRowsMet.{refused?}
use Rattle.grammar.proofs.LayoutExact.{in_bounds, reads_unique}
use Rattle.layout.specs.Read.{ReadsAs}
use Rattle.layout.proofs.WordsRead.{begun_of}
use Rattle.entries.specs.Table.{HasTable, Own}
use Rattle.entries.proofs.Main.{tabled?}
use Rattle.handout.specs.declared.tabled.Tabled.{Tabled}
use Rattle.handout.specs.Listing.{grammar_of}

-- whether words are an accepted grammar's, and a table is its own
own? : (words table : List ℕ) → Dec (Are words (Own table))
own? words table = go (refused? limit words)
  where
    of_accepted : {g : Grammar} (e : layout words ≡ reads g) → Accepted limit g → Dec (HasTable g table) → Dec (Are words (Own table))
    of_accepted e a (yes h) = yes (_, e, (a, h))
    of_accepted e a (no n) = no (λ (k, f, o). n (subst (λ (j : Grammar). HasTable j table) (reads_unique words f e) o.1))

    go : ((x : GrammarRefusal) × GrammarRefused limit words x) ⊎ Are words (Accepted limit) → Dec (Are words (Own table))
    go (inl (x, r)) = no (λ (g, e, o). refused_or_accepted limit words r e o.0)
    go (inr (g, e, a)) = of_accepted e a (tabled? table g (in_bounds words e) a)

module _ (t : Tabled) where
  are_own : Are t.reading.now.words.now (Own t.table.now)
  are_own = go (own? t.reading.now.words.now t.table.now)
    where
      go : Dec (Are t.reading.now.words.now (Own t.table.now)) → Are t.reading.now.words.now (Own t.table.now)
      go (yes p) = p
      go (no n) = absurd (not_there t.own n)

  pub view_of : ReadsAs t.reading.now (grammar_of t)
  unfolding grammar_of
  view_of = (begun_of t.reading.now).view

  pub start_of : t.reading.now.start ≡ (grammar_of t).start
  unfolding grammar_of
  start_of = (begun_of t.reading.now).first

  own_of : Own t.table.now (grammar_of t)
  own_of =
      let (g, e, own) = are_own in
      subst (Own t.table.now) (reads_unique t.reading.now.words.now e view_of.is) own

  pub accepted_of : Accepted limit (grammar_of t)
  accepted_of = own_of.0

  pub has_table : HasTable (grammar_of t) t.table.now
  has_table = own_of.1
