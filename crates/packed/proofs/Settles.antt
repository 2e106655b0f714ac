-- Any two outcomes that a promise allows for the same input coincide: the answer, and the whole of the lent buffer. Two different
-- rows exclude each other, since each says that those before it do not hold; the same row has one outcome. Assumes nothing.
use Rattle.std.proofs.Common.{◌≡◌, ℕ, List, arith}
use Rattle.packed.specs.declared.FileAnswer.{FileAnswer}
use Rattle.packed.specs.Promise.{Unpacked, Packed}

pub unpack_settles : {file words a b : List ℕ} {r s : FileAnswer} →
    Unpacked file words r a → Unpacked file words s b → (r ≡ s) × (a ≡ b)
unpack_settles p q = grind arith

pub pack_settles : {words file a b : List ℕ} {r s : FileAnswer} →
    Packed words file r a → Packed words file s b → (r ≡ s) × (a ≡ b)
pack_settles p q = grind arith
