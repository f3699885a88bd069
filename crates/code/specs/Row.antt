-- Row x of the code (document 01, 'Offline and online'; document 02, 7): its terms i = 0 to ℓ − 1, each with a place and a
-- coefficient.
use Rattle.std.specs.Prelude.{List, ℕ, ◌+◌, ◌*◌, ◌/◌, ◌%◌}
use Rattle.algebra.specs.Group.{Ring}
use Rattle.algebra.specs.Row.{Row}
use Rattle.aes128.specs.Cipher.{aes}
use Rattle.field.specs.Bytes.{columns_of, low_of, high_of}

-- encrypt, under the code key, the block of x (eight bytes LE) and i (eight bytes LE)
unfoldable pub term_block : List (List ℕ) → ℕ → ℕ → List (List ℕ)
term_block key x i = aes key (columns_of x i)

-- the N places are divided into ℓ strips of N / ℓ rounded down (document 02, 7)
abbrev pub strip : ℕ → ℕ → ℕ
strip N ℓ = N / ℓ

-- the place of term i of ℓ: i × strip + the word modulo strip (document 02, 7)
unfoldable pub place_of : ℕ → ℕ → ℕ → ℕ → ℕ
place_of N ℓ i word = i * strip N ℓ + word % strip N ℓ

-- the place of term i, from the first eight bytes LE of its block
unfoldable pub term_place : ℕ → ℕ → ℕ → List (List ℕ) → ℕ
term_place N ℓ i block = place_of N ℓ i (low_of block)

-- the row whose terms have these blocks; the coefficient is of the last eight bytes LE
unfoldable pub row_of_blocks : (R : Ring) → (ℕ → R.group.Of) → ℕ → ℕ → (ℕ → List (List ℕ)) → Row R
row_of_blocks R coefficient_of N ℓ blocks =
    record {
      terms = ℓ;
      place = λ i. term_place N ℓ i (blocks i);
      coefficient = λ i. coefficient_of (high_of (blocks i));
    }

-- row x under a code key
abbrev pub row_of : (R : Ring) → (ℕ → R.group.Of) → List (List ℕ) → ℕ → ℕ → ℕ → Row R
row_of R coefficient_of key N ℓ x = row_of_blocks R coefficient_of N ℓ (term_block key x)
