-- What `Head::judge` promises the judge: of words whose first three are fit, N and T, and that the words are judged by the rules from
-- the fourth on. Nothing here is part of what the judge answers. Assumes nothing.
use Rattle.std.specs.Prelude.{◌≡◌, List, ℕ, get_or, drop, Result, Ok, Err}
use Rattle.std.specs.Borrow.{Bor}
use Rattle.grammar.specs.Words.{faults, with_head, lefts, layout}
use Rattle.layout.specs.declared.judge.Fault.{Fault}
use Rattle.layout.specs.declared.head.Head.{Head}

pub record HeadOf (words : Bor (List ℕ)) (h : Head) : Type 0 where
  pub same : h.words ≡ words
  pub nonterminals : h.nonterminals ≡ get_or words.now 0 0
  pub terminals : h.terminals ≡ get_or words.now 1 0
  pub judged :
      layout words.now ≡ with_head h.nonterminals h.terminals (get_or words.now 2 0) (lefts (drop 3 words.now) 3 256 h.nonterminals h.terminals)

abbrev pub Headed : Bor (List ℕ) → Result Head Fault → Type 0
Headed words (Ok h) = HeadOf words h
Headed words (Err e) = layout words.now ≡ faults e.place
