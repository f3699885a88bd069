-- Bytes that stand for bits, and slices tested byte by byte (document 01, 'Pads': choices are one byte each, 0 or 1).
use Rattle.std.specs.Prelude.{Bool, false, ◌||◌, List, [], ◌∷◌, ℕ, ◌≤◌, ◌<◌, ltb, get_or}

-- some byte is above a limit
unfoldable pub any_above : ℕ → List ℕ → Bool
any_above limit [] = false
any_above limit (byte ∷ bytes) = ltb limit byte || any_above limit bytes

-- the bytes below a count are 0 or 1
abbrev pub AreBits : ℕ → List ℕ → Type 0
AreBits count bytes = (k : ℕ) → k < count → get_or bytes k 0 ≤ 1
