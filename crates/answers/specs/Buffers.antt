-- What a lent buffer holds after an answer. Document 01: "Buffers may be longer than needed; what lies past the written length
-- keeps its content."
-- Assumes nothing.
use Rattle.std.specs.Prelude.{ℕ, ◌≤◌, ◌≡◌, List, ◌++◌, length, take, drop}

-- the buffer with out written to its front
unfoldable pub over : List ℕ → List ℕ → List ℕ
over out buffer = out ++ drop (length out) buffer

-- What is known of a buffer with n numbers, out, written over it: n lies within it, they are its front, past them it keeps its
-- content, and so its length.
pub record Written (out buf : List ℕ) (n : ℕ) (after : List ℕ) : Type 0 where
  pub count : n ≡ length out
  pub within : n ≤ length after
  pub front : take n after ≡ out
  pub past : drop n after ≡ drop n buf
  pub same_length : length after ≡ length buf
