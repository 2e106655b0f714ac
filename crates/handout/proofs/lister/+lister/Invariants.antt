-- `handout::lister::list_symbol`, `list_rule` and `list_symbols` meet their contracts. The measure: thrice the size by the table, and
-- for symbols 1 more, for a rule 2; a symbol is no larger than the symbols that it is one of, and a nonterminal's chosen rule is
-- smaller by 1 at least. The loop's invariant: the symbols so far are listed. Assumes nothing.
use Rattle.std.proofs.Common.{◌+◌, ◌*◌, take}
use Rattle.handout.specs.Listing.{size_by, sizes_by, right_of, SameParts, SymbolsListed}
use Rattle.handout.proofs.lister.+lister.Given as goal

abbrev pub decreases-list_symbol : goal.decreases-list_symbol
decreases-list_symbol l = 3 * size_by l.tabled.now l.s

abbrev pub decreases-list_rule : goal.decreases-list_rule
decreases-list_rule l = 3 * sizes_by l.tabled.now (right_of l.tabled.now l.rule) + 2

abbrev pub decreases-list_symbols : goal.decreases-list_symbols
decreases-list_symbols l = 3 * sizes_by l.tabled.now l.symbols.now + 1

abbrev pub invariant-list_symbols-loop-s : goal.invariant-list_symbols-loop-s
invariant-list_symbols-loop-s l =
    SameParts l.initial.out l.out × SymbolsListed l.tabled (take l.s-index l.symbols) l.initial.out l.out
