-- Words and octets whose last block is written over what was written before. Assumes nothing.
use Rattle.std.proofs.Common.{◌≡◌, ℕ, ◌+◌, ◌≤◌, List, ◌++◌, length, take, drop, arith}
use Rattle.std.proofs.lemmas.Grind.{common_steps, same_number_lists}
use borrow.Rule.Slice.PartMut.{put_mid}
use Rattle.packed.proofs.WordsAndOctets.{length-octets_of, length_words_of}
use Rattle.packed.proofs.WordsAndOctets.{words_of_take, words_of_drop, octets_of_take, octets_of_drop}

-- the buffer holds the first f of out, and then from a on the others are put over it
pub over_front : (out front behind block : List ℕ) (a f k : ℕ) → front ≡ take f out → block ≡ drop a out →
    a ≤ f → f ≤ length out → length out ≡ a + k → length (front ++ behind) ≡ a + k → put_mid a k (front ++ behind) block ≡ out
over_front out front behind block a f k e g h l m n = grind (arith, common_steps)

pub ruleset last_block =
    (common_steps, over_front, length-octets_of, length_words_of, words_of_take, words_of_drop, octets_of_take, octets_of_drop)
