-- The final statements of this crate, each by one citation. A reader who believes specs/Text and specs/Pieces and reads this page
-- is done. No contract can say what is read or written: these say what the pieces are, of every list of octets; that
-- `print_pieces` calls for them in order and writes only pieces so made is what its calls require. Assumes nothing.
use Prim.Native.Nat.{ℕ, ◌≤◌}
use mathlib.Core.Path.{◌≡◌}
use mathlib.Core.Bool.{true, false}
use mathlib.Core.List.{List}
use lib.ListN.{take}
use Rattle.grammar.specs.Words.{Grammar, layout, reads}
use Rattle.handout.specs.Night.{Handout, Over}
use Rattle.suite.specs.declared.Piece.{Piece}
use Rattle.suite.specs.Text.{Text}
use Rattle.suite.specs.Pieces.{Pieces}
use Rattle.suite.proofs.WholeText as WholeText
use Rattle.suite.proofs.TextSettled as TextSettled
use Rattle.suite.proofs.NightSettled as NightSettled
use Rattle.suite.proofs.LongFiles as LongFiles

-- THE TEXT. Each file has one text, and no other.
pub text_met : (file : List ℕ) → (out : List ℕ) × Text file out
text_met = TextSettled.text_met

pub text_settles : {file a b : List ℕ} → Text file a → Text file b → a ≡ b
text_settles = TextSettled.text_settles

-- WHAT IS READ. "The program reads at most 17,418 octets, so a longer file meets 2 (or 1, by its first octet)": the text of what is
-- read is the text of the whole file.
pub read_text : (file : List ℕ) {out : List ℕ} → Text (take 17418 file) out → Text file out
read_text = LongFiles.read_text

-- A NIGHT that is over has handed out the same whatever buffers its calls were lent, and whatever stands behind the table.
pub night_settles : {words : List ℕ} {g : Grammar} → layout words ≡ reads g → {table table' : List ℕ} {hs hs' : List Handout} →
    Over words table hs → Over words table' hs' → hs ≡ hs'
night_settles = NightSettled.night_settles

-- WHOLE TEXT. Once it is over, the pieces of successive calls of `first_piece` and `next_piece` for a file, joined, are its text.
pub whole_text : {file words table : List ℕ} {calls : ℕ} {out marks : List ℕ} {so : Piece} →
    Pieces file words table calls out marks so → so.over ≡ true → Text file out
whole_text = WholeText.whole_text

-- IN TIME. While it is not over there were no more calls of `next_piece` than sentences; and there are never more than 257.
pub calls_few : {file words table : List ℕ} {calls : ℕ} {out marks : List ℕ} {so : Piece} →
    Pieces file words table calls out marks so → (so.over ≡ false → calls ≤ so.count) × (calls ≤ 257)
calls_few = WholeText.calls_few
