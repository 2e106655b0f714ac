-- The outcome of `FoundLeasts::of` for a grammar's words: at the outset nothing has a least and every size is 0, and after the rounds
-- the arrays hold the figures of the promise. Assumes nothing.
use Prim.Native.Nat.{ℕ, ◌<◌}
use native.Mathlib.Omega.{arith}
use native.Mathlib.Decide.{dec_lt}
use mathlib.Core.Path.{◌≡◌, ◌∙◌}
use mathlib.Core.List.{List}
use lib.ListN.{length, get_or, replicate, get_or-replicate, length-replicate, get_or-eq_default}
use denote.Ref.{Bor}
use Rattle.grammar.specs.Words.{Grammar}
use Rattle.grammar.proofs.RuleNumbers.{rule_number}
use Rattle.layout.specs.Read.{ReadsAs}
use Rattle.layout.proofs.WordsRead.{begun_of}
use Rattle.figures.specs.Figures.{no_figure}
use Rattle.leasts.specs.LeastSteps.{LeastsSound}
use Rattle.leasts.specs.LeastRounding.{Rested, no_leasts, no_sizes}
use Rattle.leasts.specs.Promise.{FiguresOf, FiguresFound}
use Rattle.leasts.specs.declared.FoundLeasts.{FoundLeasts}
use Rattle.leasts.proofs.RestIsLeast.{rest_least, rest_past, rest_size}

-- an array filled with its default reads the same everywhere, past the end too
filled_at : (n d i : ℕ) → get_or (replicate n d) i d ≡ d
filled_at n d i = go (dec_lt i n)
  where
    go : Dec (i < n) → get_or (replicate n d) i d ≡ d
    go (yes h) = get_or-replicate n i d d h
    go (no h) = get_or-eq_default (replicate n d) d {n = i} (omega (arith, length-replicate {A = ℕ} n d))

pub none_sound : (g : Grammar) → LeastsSound g no_leasts
none_sound g A has = absurd (has (filled_at 128 no_figure A))

rested_figures : {g : Grammar} {leasts sizes : List ℕ} → length leasts ≡ 128 → length sizes ≡ 256 → Rested g leasts no_sizes sizes →
    FiguresOf g leasts sizes
rested_figures {g} {leasts} long sizes_long rest = record {
  long = long;
  least = rest_least g leasts rest.sound rest.quiet;
  no_least = rest_past g leasts rest.sound rest.quiet;
  sizes_long = sizes_long;
  size = λ k A w r. rest_size g leasts rest.sound rest.quiet (rest.sized k (rule_number r) A w r);
  no_size = λ k past. rest.past.same k past ∙ filled_at 256 0 k;
}

pub figures_found : {words : Bor (List ℕ)} (r : FoundLeasts) → r.reading.words ≡ words → length r.leasts ≡ 128 →
    length r.sizes ≡ 256 →
    ((g : Grammar) → ReadsAs r.reading g → LeastsSound g no_leasts → Rested g r.leasts no_sizes r.sizes) → FiguresFound words r
figures_found r same long sizes_long rests = record {
  same = same;
  figures =
      let p = begun_of r.reading in
      rw (← same) (p.grammar, p.view.is, rested_figures long sizes_long (rests p.grammar p.view (none_sound p.grammar)));
}
