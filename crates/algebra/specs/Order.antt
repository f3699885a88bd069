-- Terms added up two at a time, in any order and any bracketing.
use Rattle.std.specs.Prelude.{◌≡◌, ℕ, ◌+◌, eqb, ltb}
use Rattle.algebra.specs.Choice.{choose}

infix 68 ◌into◌
-- an order: one term by its number, or what one order gives added to what another gives
pub data Order : Type 0 where
  term : ℕ → Order
  ◌into◌ : Order → Order → Order

-- how often term i stands in it
unfoldable pub occurs : ℕ → Order → ℕ
occurs i (term j) = choose (eqb i j) 1 0
occurs i (a into b) = occurs i a + occurs i b

-- each of the terms below k stands in it once, and no other
abbrev pub Once : ℕ → Order → Type 0
Once k order = (i : ℕ) → occurs i order ≡ choose (ltb i k) 1 0
