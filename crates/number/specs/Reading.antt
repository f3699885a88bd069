-- What reading a record gives, and how its fields are read one after the other (document 01, 'Numbers of the calls').
use Rattle.std.specs.Prelude.{ℕ, ◌+◌, ◌<◌, Bool, List, ltb, leb, length, get_or, take, drop}
use Rattle.answer.specs.Numbers.{record_ends}
pub use Rattle.algebra.specs.Choice.{choose}

-- a content, or the number that a record is refused with
pub data Reading (A : Type 0) : Type 0 where
  Whole : A → Reading A
  Refused : ℕ → Reading A

-- a field of the record, and the place after it
abbrev pub Parsed : Type 0 → Type 0
Parsed A = Reading (A × ℕ)

-- front to back: after a field the next, from the place after it
abbrev pub then : {A B : Type 0} → Parsed A → (A → ℕ → Reading B) → Reading B
then (Whole r) k = k r.0 r.1
then (Refused n) k = Refused n

-- each field whole and then tested: refused with k if the test fails
unfoldable pub tested : {A : Type 0} → Parsed A → (A → Bool) → ℕ → Parsed A
tested r ok k = then r λ x next. choose (ok x) (Whole (x, next)) (Refused k)

-- a call on a record: refused with the record's number, else what it answers on the content
unfoldable pub after_reading : {A O : Type 0} → Reading A → (ℕ → O) → (A → O) → O
after_reading (Whole x) refusal answer = answer x
after_reading (Refused n) refusal answer = refusal n

-- the n bytes from a place on
abbrev pub part : List ℕ → ℕ → ℕ → List ℕ
part s at n = take n (drop at s)

-- n bytes; 10: record ends inside a field
unfoldable pub read_bytes : ℕ → List ℕ → ℕ → Parsed (List ℕ)
read_bytes n s at = choose (leb (at + n) (length s)) (Whole (part s at n, at + n)) (Refused record_ends)

-- one byte; 10: record ends inside a field
unfoldable pub read_byte : List ℕ → ℕ → Parsed ℕ
read_byte s at = choose (ltb at (length s)) (Whole (get_or s at 0, at + 1)) (Refused record_ends)

-- every element is a byte
unfoldable pub Bytes : List ℕ → Type 0
Bytes s = (i : ℕ) → get_or s i 0 < 256
