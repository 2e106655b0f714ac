-- `layout::head::Head::judge` meets its contract: each test that faults a word is one of the layout's.
-- Assumes nothing.
use mathlib.Core.Path.{refl}
use native.Mathlib.Omega.{arith}
use Rattle.layout.proofs.HeadJudged as head
use Rattle.layout.proofs.head.Head.judge.Goals as goal

pub returns-then-nonterminals-eq0 : goal.returns-then-nonterminals-eq0
returns-then-nonterminals-eq0 c =
    let ws = c.args.words.now in
    head.no_nonterminals ws (omega arith)

pub returns-then-nonterminals-gt-MOST_NONTERMINALS : goal.returns-then-nonterminals-gt-MOST_NONTERMINALS
returns-then-nonterminals-gt-MOST_NONTERMINALS c =
    let ws = c.args.words.now in
    head.many_nonterminals ws (omega arith)

pub returns-then-len-lt2 : goal.returns-then-len-lt2
returns-then-len-lt2 c =
    let ws = c.args.words.now in
    head.no_terminals ws (omega arith) (omega arith) (omega arith)

pub returns-then-terminals-gt-MOST_TERMINALS : goal.returns-then-terminals-gt-MOST_TERMINALS
returns-then-terminals-gt-MOST_TERMINALS c =
    let ws = c.args.words.now in
    head.many_terminals ws (omega arith) (omega arith) (omega arith)

pub returns-then-len-lt3 : goal.returns-then-len-lt3
returns-then-len-lt3 c =
    let ws = c.args.words.now in
    head.no_start ws (omega arith) (omega arith) (omega arith) (omega arith) (omega arith)

pub returns-then-nonterminals-word : goal.returns-then-nonterminals-word
returns-then-nonterminals-word c =
    let ws = c.args.words.now in
    head.start_unfit ws (omega arith) (omega arith) (omega arith) (omega arith) (omega arith)

pub returns : goal.returns
returns c =
    let ws = c.args.words.now in
    let n = c.word-nonterminals.ensures in
    let t = c.word-terminals.ensures in
    record {
      same = refl;
      nonterminals = n;
      terminals = t;
      judged = rw (n, t) (head.head_fit ws (omega arith) (omega arith) (omega arith) (omega arith) (omega arith));
    }
