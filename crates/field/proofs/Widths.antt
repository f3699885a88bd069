-- How many words an element takes, by the field's number, and an element of field 1 stored in its two.
use mathlib.Core.Bool.{Bool, true, false}
use mathlib.Core.List.{List}
use mathlib.Core.Path.{◌≡◌, sym}
use Prim.Native.Nat.{ℕ, ◌+◌, ◌*◌, ◌≤◌}
use native.Mathlib.Omega.{arith}
use lib.Dec.{eqb}
use lib.ListN.{length, set}
use Rattle.algebra.specs.Choice.{choose}
use Rattle.algebra.specs.Inner.Put.{put}
use Rattle.field.specs.declared.block.Block.{Block}
use Rattle.field.specs.Binary.{binary, block}
use Rattle.field.specs.Kind.{binary_kind, prime_kind, element_words}
use Rattle.algebra.proofs.Words.{put_two}

between : (field : ℕ) → (1 ≤ element_words field) × (element_words field ≤ 2)
between field = of (eqb field 1)
  where
    of : (b : Bool) → (1 ≤ (choose b binary_kind prime_kind).field.elements.width) × ((choose b binary_kind prime_kind).field.elements.width ≤ 2)
    of true = (omega arith, omega arith)
    of false = (omega arith, omega arith)

pub width-most : (field : ℕ) → element_words field ≤ 2
width-most field = (between field).1

pub put-block_is : (l : List ℕ) (i : ℕ) (b : Block) → i * 2 + 2 ≤ length l
    → set (set l (i * 2) b.low) (i * 2 + 1) b.high ≡ put binary.elements l i b
put-block_is l i b h = sym (put_two (λ b. b.low) (λ b. b.high) block l i b h)
