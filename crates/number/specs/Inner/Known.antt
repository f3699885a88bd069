-- Inner: no promise cites this file. Fields that are known to be read, and bytes that stand at a place.
use Rattle.std.specs.Prelude.{ℕ, ◌+◌, ◌≤◌, Bool, true, false, List, ◌≡◌, length}
use Rattle.number.specs.Reading.{Reading, Whole, Refused, part}

-- whether it was a content
abbrev pub is_whole : {A : Type 0} → Reading A → Bool
is_whole (Whole x) = true
is_whole (Refused k) = false

-- the bytes w stand in s from a place on
unfoldable pub Has : List ℕ → ℕ → List ℕ → Type 0
Has s at w = (at + length w ≤ length s) × (part s at (length w) ≡ w)
