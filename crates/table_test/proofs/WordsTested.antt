-- What `tested_reading` answers, from what the judge reads of the words and from what the pass says of the grammar of a reading.
-- Assumes nothing.
use Prim.Native.Nat.{ℕ}
use mathlib.Core.Path.{◌≡◌, ap, sym, ◌∙◌}
use mathlib.Core.List.{List}
use denote.Ref.{Bor}
use Rattle.std.specs.Prelude.{Result, Ok, Err, Some, None}
use Rattle.std.specs.Result.{result_ok}
use Rattle.grammar.specs.Words.{Grammar, layout}
use Rattle.grammar.proofs.LayoutExact.{reads_unique}
use Rattle.entries.specs.Table.{Own}
use Rattle.layout.specs.Read.{ReadOf, ReadsAs}
use Rattle.layout.specs.declared.judge.Fault.{Fault}
use Rattle.layout.specs.declared.reading.Reading.{Reading}
use Rattle.layout.proofs.WordsRead.{begun_of}
use Rattle.table_test.specs.Promise.{Tested, its, not_its}

module _ {words : Bor (List ℕ)} where
  pub were_read : (r : Result Reading Fault) (v : Reading) → ReadOf words r → result_ok r ≡ Some v → v.words ≡ words
  were_read (Ok u) v is e = let same : u ≡ v = cc in ap (λ (x : Reading). x.words) (sym same) ∙ is
  were_read (Err f) v is e = cc

  module _ {table : List ℕ} where
    -- of words that are no grammar
    pub none_read : (r : Result Reading Fault) → ReadOf words r → result_ok r ≡ None → Tested words table None
    none_read (Ok u) is e = cc
    none_read (Err f) is e = not_its (λ (g, read, own). cc)

    module _ (v : Reading) (is : v.words ≡ words) where
      pub own_its : ((g : Grammar) → ReadsAs v g → Own table g) → Tested words table (Some v)
      own_its own =
          let begun = begun_of v in
          its (ap (λ (x : Bor (List ℕ)). layout x.now) (sym is) ∙ begun.view.is) (own begun.grammar begun.view) is

      pub other_not_its : ((g : Grammar) → ReadsAs v g → ¬ Own table g) → Tested words table None
      other_not_its other = not_its (λ (g, read, own).
          let begun = begun_of v in
          let same = reads_unique words.now read (ap (λ (x : Bor (List ℕ)). layout x.now) (sym is) ∙ begun.view.is) in
          other begun.grammar begun.view (rw same at own))
