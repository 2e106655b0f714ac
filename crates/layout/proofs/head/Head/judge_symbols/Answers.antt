-- `layout::head::Head::judge_symbols` meets its contract: the layout faults the symbols at the first unfit index, and at the end of
-- words that end in them. Assumes nothing.
use mathlib.Core.Path.{refl}
use native.Mathlib.Omega.{arith}
use Rattle.layout.proofs.RuleJudged.{symbols_unfit, symbols_fit}
use Rattle.layout.proofs.head.Head.judge_symbols.Goals as goal

pub returns-then-len-first : goal.returns-then-len-first
returns-then-len-first c =
    let a = c.args in
    let u = c.first_unfit.ensures in
    let unfit = symbols_unfit a.self.words.now a.self.nonterminals a.self.terminals a.first a.count c.first_unfit.result in
    record {
      symbols = unfit (omega arith) (omega arith) (omega arith) u.fit (λ h. u.unfit (omega arith));
      symbols_end = tt;
    }

pub returns-then-place-end : goal.returns-then-place-end
returns-then-place-end c =
    let a = c.args in
    let u = c.first_unfit-place.ensures in
    let unfit = symbols_unfit a.self.words.now a.self.nonterminals a.self.terminals a.first a.count c.first_unfit-place.result in
    record {
      symbols = unfit (omega arith) (omega arith) (omega arith) u.fit (λ h. u.unfit (omega arith));
      symbols_end = tt;
    }

pub returns-else-place-end : goal.returns-else-place-end
returns-else-place-end c =
    let a = c.args in
    let u = c.first_unfit-place.ensures in
    let fit = symbols_fit a.self.words.now a.self.nonterminals a.self.terminals a.first a.count in
    record { symbols = fit (omega arith) (λ j h l. u.fit j h (omega arith)); symbols_end = (refl, omega arith) }
