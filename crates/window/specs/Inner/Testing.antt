-- Inner: no promise cites this file. The test of the words that a window's rows use, and lengths that fit a window.
use Rattle.std.specs.Prelude.{Bool, List, ◌≡◌, ℕ, ◌+◌, ◌*◌, ◌≤◌, length}
use Rattle.algebra.specs.Coding.{at}
use Rattle.algebra.specs.Every.{every}
use Rattle.algebra.specs.Field.{Field}
use Rattle.code.specs.declared.Shape.{Shape}
use Rattle.code.specs.Inner.Rows.{place_in}
use Rattle.window.specs.declared.Accumulated.{Accumulated}
use Rattle.window.specs.declared.Accumulated.TheVariants.{Noise, Scalar}
use Rattle.window.specs.declared.WindowRows.{WindowRows}

-- every word that row k of the window uses is an element
abbrev pub row_used : Field → List (List (List ℕ)) → Shape → WindowRows → List ℕ → ℕ → Bool
row_used F keys s r w k =
    every s.terms (λ i. F.scaled.group.is_element (at F.elements w (place_in keys s (r.window.first + k) i)))

-- every word that the rows use is
unfoldable pub elements_used : Field → List (List (List ℕ)) → Shape → WindowRows → List ℕ → Bool
elements_used F keys s r w = every r.window.count (λ k. row_used F keys s r w k)

-- a whole vector of values of a width, and a window that ends at 32768 (the largest n) or before
pub record Testing (width : ℕ) (s : Shape) (r : WindowRows) (vector : ℕ) : Type 0 where
  pub whole : vector ≡ s.places * width
  pub within : r.window.first + r.window.count ≤ 32768

-- and a buffer with room for the window
pub record Fitting (width : ℕ) (s : Shape) (r : WindowRows) (vector room : ℕ) : Type 0 where
  pub testing : Testing width s r vector
  pub enough : r.window.count * width ≤ room

-- an end's vectors
abbrev pub EndTesting : ℕ → Shape → WindowRows → Accumulated → Type 0
EndTesting width s r (Noise noise v) = Testing 1 s r (length noise.now) × Testing width s r (length v.now)
EndTesting width s r (Scalar w) = Testing width s r (length w.now)

-- and its buffers; at the scalar end there is none for u
abbrev pub EndFitting : ℕ → Shape → WindowRows → Accumulated → ℕ → ℕ → Type 0
EndFitting width s r (Noise noise v) u_room room = Fitting 1 s r (length noise.now) u_room × Fitting width s r (length v.now) room
EndFitting width s r (Scalar w) u_room room = Fitting width s r (length w.now) room
