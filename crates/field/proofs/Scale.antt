-- Scaling a block by a noise value, case by case.
use mathlib.Core.Path.{◌≡◌, refl}
use Prim.Native.Nat.{ℕ, zero, suc}
use Rattle.field.specs.declared.block.Block.{Block}
use Rattle.field.specs.Binary.{block_zero, block_scale}

pub scale_one : (u : ℕ) (b : Block) → u ≡ 1 → b ≡ block_scale u b
unfolding block_scale
scale_one u b e = rw e

pub scale-other : (u : ℕ) (b : Block) → (u ≡ 1 → ⊥) → block_zero ≡ block_scale u b
unfolding block_scale
scale-other zero b n = refl
scale-other (suc zero) b n = absurd (n refl)
scale-other (suc (suc u)) b n = refl
