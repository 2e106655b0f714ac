-- Values of two constructors are never equal, for the types whose clashes recur (the library has lists and truth values).
-- Wherever a case cannot be, the proofs cite these.
-- Assumes nothing.
use Prim.Native.Nat.{ℕ}
use native.Mathlib.Omega.{arith}
use mathlib.Core.Path.{◌≡◌, sym}
use mathlib.Core.Option.{some, none}
use Rattle.grammar.specs.Words.{reads, faults}

pub reads_not_faults : {A : Type 0} {x : A} {p : ℕ} → reads x ≡ faults p → ⊥
reads_not_faults e = let z : ◌≡◌ {A = ℕ} 0 1 = cc in omega arith

pub faults_not_reads : {A : Type 0} {x : A} {p : ℕ} → faults p ≡ reads x → ⊥
faults_not_reads e = reads_not_faults (sym e)

pub none_not_some : {A : Type 0} {x : A} → none ≡ some x → ⊥
none_not_some e = let z : ◌≡◌ {A = ℕ} 0 1 = cc in omega arith
