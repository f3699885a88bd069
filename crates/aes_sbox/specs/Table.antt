-- The S-box held as a table (document 01, 'What the unit contains', 'Our forms for each place'): its rule is the inverse in
-- the field of FIPS 197 followed by its affine step, at each of the 256 entries.
use Rattle.std.specs.Prelude.{◌≡◌, ◌⊎◌, List, ℕ, ◌<◌, get_or}
use Rattle.aes_sbox.specs.Byte.{mul_bytes, affine, s_box}

-- entry x is the affine step of y, where y is a byte and x · y = 1, or both are 00
pub record SBoxEntry (x entry : ℕ) : Type 0 where
  pub y : ℕ
  pub byte : y < 256
  pub inverse : (mul_bytes x y ≡ 1) ⊎ ((x ≡ 0) × (y ≡ 0))
  pub step : entry ≡ affine y

-- the table: its entry x follows the rule, and is what the cipher's definition takes for the S-box at x
pub record SBoxTable (t : List ℕ) : Type 0 where
  pub rule : (x : ℕ) → x < 256 → SBoxEntry x (get_or t x 0)
  pub entry : (x : ℕ) → x < 256 → get_or t x 0 ≡ s_box x
