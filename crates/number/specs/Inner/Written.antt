-- Inner: no promise cites this file. Bytes written into a buffer.
use Rattle.std.specs.Prelude.{ℕ, ◌+◌, ◌≤◌, List, ◌≡◌, length}
use Rattle.std.proofs.lemmas.List.Edits.{sets}

-- the numbers that at most 3 bytes hold are below this
abbrev pub numbers : ℕ
numbers = 2097152

-- a buffer has room for bytes from a place on
pub record Room (buffer : List ℕ) (at : ℕ) (bytes : List ℕ) : Type 0 where
  pub fits : at + length bytes ≤ length buffer

-- the bytes were written into a buffer from a place on: the place after them, and the buffer afterwards
pub record Wrote (buffer : List ℕ) (at : ℕ) (bytes : List ℕ) (next : ℕ) (now : List ℕ) : Type 0 where
  pub place : next ≡ at + length bytes
  pub stored : now ≡ sets buffer at bytes
