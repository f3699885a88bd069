-- The choice law (document 01, 'Lists of calls at both ends', on pads), for any rule: the choice bit at x is u at x, and it
-- names pad 0 or 1 (document 01's messages 0 and 1).
use Rattle.std.specs.Prelude.{◌≡◌, List, ℕ, ◌+◌, ◌-◌, ◌*◌, ◌≤◌, ◌<◌, get_or, take, drop}
use Rattle.algebra.specs.Coding.{at}
use Rattle.field.specs.declared.block.Block.{Block}
use Rattle.field.specs.Binary.{block_add, block_scale}
use Rattle.pads.specs.Bytes.{block_bytes}
use Rattle.pads.specs.Pad.{Rule}
use Rattle.pads.specs.Calls.{noise_pads_by, scalar_pads_by}

-- the index is in the window of a first index and a count
abbrev pub InWindow : ℕ → ℕ → ℕ → Type 0
InWindow first count x = (first ≤ x) × (x < first + count)

-- the noise end's 16 bytes for index x, in the buffer of a call whose window begins at first
abbrev pub pad_at : List ℕ → ℕ → ℕ → List ℕ
pad_at pads first x = take 16 (drop (16 * (x - first)) pads)

-- the 16 bytes of pad u in the scalar end's 32 bytes for index x
abbrev pub one_of_two_at : List ℕ → ℕ → ℕ → ℕ → List ℕ
one_of_two_at pads first x u = take 16 (drop (32 * (x - first) + 16 * u) pads)

-- the bytes lent for index x are v and u at the noise end, and w and Δ at the scalar end, with w = Δu + v
pub record LentAt (vs choices : List ℕ) (first : ℕ) (ws delta : List ℕ) (first' x : ℕ) (v w Δ : Block) (u : ℕ) : Type 0 where
  pub v_lent : at block_bytes vs (x - first) ≡ v
  pub u_lent : get_or choices (x - first) 0 ≡ u
  pub w_lent : at block_bytes ws (x - first') ≡ w
  pub Δ-lent : at block_bytes delta 0 ≡ Δ
  pub correlated : w ≡ block_add (block_scale u Δ) v

-- take any accepted pad call of each end, and any index x in both windows: where the bytes lent for x are such, the noise
-- end's 16 bytes for x are those of pad u
abbrev pub Choice : Rule → Type 0
Choice rule =
    (first count : ℕ) (vs choices pads : List ℕ)
    → (noise_pads_by rule first count vs choices pads).number ≡ 0
    → (first' count' : ℕ) (ws delta pads' : List ℕ)
    → (scalar_pads_by rule first' count' ws delta pads').number ≡ 0
    → (x : ℕ) → InWindow first count x → InWindow first' count' x
    → (v w Δ : Block) (u : ℕ) → LentAt vs choices first ws delta first' x v w Δ u
    → pad_at (noise_pads_by rule first count vs choices pads).lent.pads first x
    ≡ one_of_two_at (scalar_pads_by rule first' count' ws delta pads').lent.pads first' x u
