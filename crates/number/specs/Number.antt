-- The number code of records (document 01, 'Key records'): groups of seven bits, lowest first, the top bit set on all bytes
-- but the last, in the shortest form, at most 3 bytes.
use Rattle.std.specs.Prelude.{ℕ, ◌+◌, ◌-◌, ◌*◌, ◌/◌, ◌%◌, List, [], ◌∷◌, ltb, eqb}
use Rattle.answer.specs.Numbers.{bad_number}
use Rattle.number.specs.Reading.{Whole, Refused, Parsed, then, choose, read_byte}

-- the writing of a number
unfoldable pub write_number : ℕ → List ℕ
write_number n =
    choose (ltb n 128) (n ∷ [])
    (choose (ltb n 16384) ((128 + n % 128) ∷ n / 128 ∷ [])
    ((128 + n % 128) ∷ (128 + n / 128 % 128) ∷ n / 16384 ∷ []))

-- how many bytes it takes: one for each group of seven bits
unfoldable pub number_length : ℕ → ℕ
number_length n = choose (ltb n 128) 1 (choose (ltb n 16384) 2 3)

-- the last byte of several: 11: number not shortest, where it is 00
unfoldable pub last_group : ℕ → ℕ → ℕ → Parsed ℕ
last_group b n next = choose (eqb b 0) (Refused bad_number) (Whole (n, next))

-- the reading of a number: the first byte without its top bit ends it; 11: its third byte's top bit set
unfoldable pub read_number : List ℕ → ℕ → Parsed ℕ
read_number s at =
    then (read_byte s at) λ a at1.
    choose (ltb a 128) (Whole (a, at1))
    (then (read_byte s at1) λ b at2.
    choose (ltb b 128) (last_group b (a - 128 + b * 128) at2)
    (then (read_byte s at2) λ c at3.
    choose (ltb c 128) (last_group c (a - 128 + (b - 128) * 128 + c * 16384) at3) (Refused bad_number)))
