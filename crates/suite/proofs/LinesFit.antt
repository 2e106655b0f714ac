-- No line is cut: the symbols and rule numbers of a tree are 16-bit words, in a night a sentence and its derivation are at most
-- 4,096 numbers, and so room for 24,594 octets is room for each line. Assumes nothing.
use Prim.Native.Nat.{ℕ, zero, suc, ◌+◌, ◌≤◌, ◌<◌}
use native.Mathlib.Omega.{arith}
use mathlib.Core.Path.{◌≡◌, refl}
use mathlib.Core.Logic.{inl, inr}
use mathlib.Core.List.{List, [], ◌∷◌, ◌++◌}
use lib.ListN.{length, take, drop}
use Rattle.grammar.specs.Words.{Grammar, layout, reads, All, InBounds}
use Rattle.grammar.specs.Tree.{Tree, Forest, node, nil, leaf, child, sentence, sentences, derivation, derivations}
use Rattle.grammar.proofs.LayoutExact.{in_bounds, rule_symbols}
use Rattle.grammar.proofs.RuleNumbers.{rule_number}
use Rattle.handout.specs.Next.{Lent, NextPromise}
use Rattle.handout.specs.Night.{Handout, handout, Night, later, GoesOn, Proper, AllProper, and_then}
use Rattle.handout.specs.declared.NextAnswer.{NextAnswer}
use Rattle.handout.specs.declared.NextAnswer.TheVariants.{Next}
use Rattle.handout.proofs.Main.{night_proper, next_writes}
use Rattle.lines.specs.Lines.{Words, most_line}
use Rattle.lines.proofs.Main.{sentence_few, end_few, with_room}
use Rattle.suite.specs.declared.Piece.{Piece}
use Rattle.suite.specs.Answered.{line_of, Answered}

-- WORDS of trees
words_none : Words []
words_none i = omega arith

words_first : (x : ℕ) (l : List ℕ) → x < 65536 → Words l → Words (x ∷ l)
words_first x l h k zero = h
words_first x l h k (suc i) = k i

words_both : (u v : List ℕ) → Words u → Words v → Words (u ++ v)
words_both [] v h k = k
words_both (x ∷ u) v h k = words_first x (u ++ v) (h 0) (words_both u v (λ j. h (suc j)) k)

module _ {g : Grammar} (ok : InBounds g) where
  mutual
    sentence_words : {A : ℕ} (t : Tree g A) → Words (sentence t)
    sentence_words (node k r f) = sentences_words f (rule_symbols ok r)

    sentences_words : {w : List ℕ} (f : Forest g w) → All (λ s. s < g.N + g.T) w → Words (sentences f)
    sentences_words nil h = words_none
    sentences_words (leaf {s} p f) h =
        words_first s (sentences f) (omega (arith, h.0, ok.nonterminals, ok.terminals)) (sentences_words f h.1)
    sentences_words (child t f) h = words_both (sentence t) (sentences f) (sentence_words t) (sentences_words f h.1)

  mutual
    derivation_words : {A : ℕ} (t : Tree g A) → Words (derivation t)
    derivation_words (node k r f) =
        words_first k (derivations f) (omega (arith, rule_number r, ok.at_most_256)) (derivations_words f)

    derivations_words : {w : List ℕ} (f : Forest g w) → Words (derivations f)
    derivations_words nil = words_none
    derivations_words (leaf p f) = derivations_words f
    derivations_words (child t f) =
        words_both (derivation t) (derivations f) (derivation_words t) (derivations_words f)

pub first_proper : {g : Grammar} {r : ℕ} {t ks : List ℕ} {hs : List Handout} → AllProper g (handout r t ks ∷ hs) → Proper g hs r t ks
first_proper (and_then p ps) = p

module _ {words table : List ℕ} {hs : List Handout} {g : Grammar} (e : layout words ≡ reads g) {before after : Lent}
    (night : Night words table hs before.marks) where
  line_few : {a : NextAnswer} → NextPromise words table before a after → GoesOn a → (count : ℕ) → count < 65536 →
      length (line_of a after count) ≤ most_line
  line_few p (inl is) count h = rw is (end_few count h)
  line_few {a} p (inr (r, n, m, is)) count h =
      let p' : NextPromise words table before (Next r n m) after = rw is at p in
      let proper = first_proper (night_proper e (later night p')) in
      let (k, read, handed) = next_writes p' r n m refl in
      let few = (in_bounds words e).at_most_256 in
      rw is
      (sentence_few r (take n after.tokens) (take m after.rules) (omega (arith, proper.rule))
      (rw handed.tokens.front (sentence_words (in_bounds words read) handed.t))
      (rw handed.rules.front (derivation_words (in_bounds words read) handed.t))
      proper.limit)

  -- WHOLE: the line stands in the text behind what waited, and nothing else of the text has changed
  pub whole_line : {text text' : List ℕ} {so then : Piece} (a : Answered words table before after text text' so then) →
      GoesOn a.answer → so.count < 65536 → so.length + most_line ≤ length text →
      let line = line_of a.answer after so.count in
      (then.length ≡ so.length + length line) ×
      (text' ≡ take so.length text ++ line ++ drop (so.length + length line) text)
  whole_line {so = so} a on few room =
      let l = line_few a.promise on so.count few in with_room a.line (omega arith)
