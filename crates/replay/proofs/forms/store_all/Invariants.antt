-- `replay::forms::store_all` meets its contract. The loop's invariant: the symbols so far are tokens, and stored.
-- Assumes nothing.
use Rattle.std.proofs.Common.{ℕ, ◌≡◌, ◌≤◌, ◌<◌, get_or, take}
use Rattle.std.proofs.lemmas.List.Edits.{sets}
use Rattle.replay.proofs.forms.store_all.Given as goal

abbrev pub invariant-loop-i : goal.invariant-loop-i
invariant-loop-i l = record {
  tokens : (j : ℕ) → j < l.i → l.nonterminals ≤ get_or l.symbols j 0;
  stored : l.sentence ≡ sets l.initial.sentence l.from (take l.i l.symbols);
}
