-- The line that the pair program prints, in bytes (document 01, 'Cases').
use Rattle.std.specs.Prelude.{List, [], ◌∷◌, ◌++◌, ℕ, zero, suc, ◌+◌, ◌/◌, ◌%◌, ltb, length, drop}
use Rattle.algebra.specs.Choice.{choose}
use Rattle.pairing.specs.Verdict.{Verdict, Refusal, TooLarge, Different, Checked}

-- a number in decimal digits, without leading zeros, for a number of at most n + 1 digits
unfoldable pub digits : ℕ → ℕ → List ℕ
digits zero x = (48 + x % 10) ∷ []
digits (suc n) x = choose (ltb x 10) ((48 + x) ∷ []) (digits n (x / 10) ++ ((48 + x % 10) ∷ []))

-- a number below 10^10 in decimal
abbrev pub decimal : ℕ → List ℕ
decimal x = digits 9 x

-- "refused ", "too large", "different dealing", "checked ", " held "
abbrev pub refused_text : List ℕ
refused_text = 114 ∷ 101 ∷ 102 ∷ 117 ∷ 115 ∷ 101 ∷ 100 ∷ 32 ∷ []

abbrev pub too_large_text : List ℕ
too_large_text = 116 ∷ 111 ∷ 111 ∷ 32 ∷ 108 ∷ 97 ∷ 114 ∷ 103 ∷ 101 ∷ []

abbrev pub different_text : List ℕ
different_text = 100 ∷ 105 ∷ 102 ∷ 102 ∷ 101 ∷ 114 ∷ 101 ∷ 110 ∷ 116 ∷ 32 ∷ 100 ∷ 101 ∷ 97 ∷ 108 ∷ 105 ∷ 110 ∷ 103 ∷ []

abbrev pub checked_text : List ℕ
checked_text = 99 ∷ 104 ∷ 101 ∷ 99 ∷ 107 ∷ 101 ∷ 100 ∷ 32 ∷ []

abbrev pub held_text : List ℕ
held_text = 32 ∷ 104 ∷ 101 ∷ 108 ∷ 100 ∷ 32 ∷ []

-- the line, without its end
unfoldable pub text : Verdict → List ℕ
text (Refusal k) = refused_text ++ decimal k
text TooLarge = too_large_text
text Different = different_text
text (Checked n held) = checked_text ++ (decimal n ++ (held_text ++ decimal held))

-- the buffer with the line over its front and the rest as it was, and the line's length
unfoldable pub printed : Verdict → List ℕ → List ℕ × ℕ
printed v out = (text v ++ drop (length (text v)) out, length (text v))
