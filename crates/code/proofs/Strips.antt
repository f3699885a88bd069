-- A term's place in its strip, for any word, and what a row reads.
use mathlib.Core.List.{List}
use mathlib.Core.Path.{◌≡◌, refl, sym, ap, ◌∙◌}
use Prim.Native.Nat.{ℕ, suc, ◌+◌, ◌*◌, ◌/◌, ◌%◌, ◌≤◌, ◌<◌}
use native.Mathlib.Nat.{mod-lt, mul-div-le, mul-le-mul_right, suc-mul, le-div_iff_mul-le, mul-add-div_right, div-eq_of_lt}
use native.Mathlib.Omega.{arith}
use Rattle.code.specs.Strips.{ReadsStrips, FullRows}
use Rattle.algebra.specs.Group.{Ring}
use Rattle.field.specs.Bytes.{low_of}
use Rattle.code.specs.Row.{strip, term_block, place_of, term_place, row_of_blocks}

module _ (N ℓ : ℕ) (full : ℓ ≤ N) where
  -- a strip has a place
  pub strip-some : 1 ≤ ℓ → 1 ≤ strip N ℓ
  strip-some some = (le-div_iff_mul-le {k = ℓ} {x = 1} {y = N} some).1 (omega arith)

  -- ℓ strips lie within the N places
  pub strips_within : ℓ * strip N ℓ ≤ N
  strips_within = mul-div-le N ℓ

  module _ (i : ℕ) (h : i < ℓ) where
    -- strip i ends where strip i + 1 begins, within all strips
    pub strip-end : i * strip N ℓ + strip N ℓ ≤ ℓ * strip N ℓ
    strip-end = let m : suc i * strip N ℓ ≤ ℓ * strip N ℓ = mul-le-mul_right (strip N ℓ) h in omega (arith, suc-mul i (strip N ℓ))

    pub rest_below : (word : ℕ) → word % strip N ℓ < strip N ℓ
    rest_below word = mod-lt word (strip-some (omega arith))

    pub place_in : (word : ℕ) → place_of N ℓ i word < i * strip N ℓ + strip N ℓ
    unfolding place_of
    place_in word = let r = rest_below word in omega arith

    pub place-within : (word : ℕ) → place_of N ℓ i word < N
    place-within word = omega (arith, place_in word, strip-end, strips_within)

    -- the strip of a place is its term's number
    pub place-strip : (word : ℕ) → place_of N ℓ i word / strip N ℓ ≡ i
    unfolding place_of
    place-strip word =
        mul-add-div_right (strip-some (omega arith)) i (word % strip N ℓ)
        ∙ ap (λ (n : ℕ). i + n) (div-eq_of_lt (rest_below word)) ∙ omega arith

-- a row whose terms have any blocks
pub blocks-full : (R : Ring) (coefficient_of : ℕ → R.group.Of) (N ℓ : ℕ) (blocks : ℕ → List (List ℕ)) → 1 ≤ ℓ → ℓ ≤ N
    → ReadsStrips N ℓ (row_of_blocks R coefficient_of N ℓ blocks)
unfolding row_of_blocks term_place place_of
blocks-full R coefficient_of N ℓ blocks some full =
    record {
      terms = refl;
      from = λ i h. omega arith;
      to = λ i h. omega (arith, place_in N ℓ full i h (word i), suc-mul i (strip N ℓ));
      top = λ i h. omega (arith, place_in N ℓ full i h (word i), strip-end N ℓ full i h);
      within = λ i h. place-within N ℓ full i h (word i);
      different = λ i j h k e. sym (place-strip N ℓ full i h (word i)) ∙ ap (λ (p : ℕ). p / strip N ℓ) e ∙ place-strip N ℓ full j k (word j);
    }
  where
    word : ℕ → ℕ
    word i = low_of (blocks i)

pub full-rows : FullRows
full-rows R coefficient_of key N ℓ x some full = blocks-full R coefficient_of N ℓ (term_block key x) some full
