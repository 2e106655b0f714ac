-- The round trips, from the promises alone: unpacking what `pack` wrote gives the words back, and packing what `unpack` gave
-- writes the same file. A file of words is unpacked to these words, and a good file is the file of its words. Assumes nothing.
use mathlib.Core.Path.{◌≡◌, refl}
use mathlib.Core.List.{List}
use Prim.Native.Nat.{ℕ, ◌≤◌}
use native.Mathlib.Omega.{arith}
use lib.ListN.{length, take}
use Rattle.packed.specs.declared.FileAnswer.{FileAnswer}
use Rattle.packed.specs.declared.FileAnswer.TheVariants.{Done}
use Rattle.packed.specs.File.{file_of, words_in, Octets, GoodFile}
use Rattle.answers.specs.Buffers.{over}
use Rattle.packed.specs.Promise.{Unpacked, Packed}
use Rattle.packed.specs.Promise.Unpacked.{all_words}
use Rattle.packed.specs.Promise.Packed.{whole-file}
use Rattle.packed.proofs.WordsAndOctets.{words_in_file_of}
use Rattle.packed.proofs.GoodFile.{passes, file_of_good, file_back}
use Rattle.packed.proofs.Settles.{unpack_settles, pack_settles}
use Rattle.packed.proofs.AfterAnswer.{after_unpack, after_pack}

-- the file of at most 8,707 words is unpacked to them
pub unpack_file_of : (ws room : List ℕ) → length ws ≤ 8707 → length ws ≤ length room →
    Unpacked (file_of ws) room (Done (length ws)) (over ws room)
unpack_file_of ws room g h =
    let p = passes (file_of ws) (file_of_good ws g) in
    let back = words_in_file_of ws in
    grind (arith, all_words)

-- the words of a good file are packed to it
pub pack_words_in : (file room : List ℕ) → Octets file → GoodFile file → length file ≤ length room →
    Packed (words_in file) room (Done (length file)) (over file room)
pack_words_in file room b g h = let back = file_back file b g in grind (arith, whole-file)

pub unpack_of_pack : {ws buf after : List ℕ} {n : ℕ} → Packed ws buf (Done n) after →
    {room then : List ℕ} {r : FileAnswer} → length ws ≤ length room → Unpacked (take n after) room r then →
    (r ≡ Done (length ws)) × (then ≡ over ws room)
unpack_of_pack {ws} p {room} h q =
    let d = after_pack p refl in
    unpack_settles (rw d.1.front at q) (unpack_file_of ws room d.0 h)

pub pack_of_unpack : {file buf after : List ℕ} {n : ℕ} → Octets file → Unpacked file buf (Done n) after →
    {room then : List ℕ} {r : FileAnswer} → length file ≤ length room → Packed (take n after) room r then →
    (r ≡ Done (length file)) × (then ≡ over file room)
pack_of_unpack {file} b p {room} h q =
    let d = after_unpack p refl in
    pack_settles (rw d.1.front at q) (pack_words_in file room b d.0 h)
