-- Accumulation in place, one value a turn: the state before the loop, after a turn and after the loop, for any group and
-- coding, then for the words of each field, and by the field's number.
use mathlib.Core.List.{List}
use mathlib.Core.Path.{◌≡◌, refl, ap, ◌∙◌}
use Prim.Native.Nat.{ℕ, ◌+◌, ◌*◌, ◌≤◌}
use native.Mathlib.Nat.{le_antisymm}
use native.Mathlib.Omega.{arith}
use lib.ListN.{length}
use Rattle.algebra.specs.Coding.{Coding, CodingLaws, at, flat, over}
use Rattle.algebra.specs.Inner.Put.{put}
use Rattle.algebra.specs.Group.{Group}
use Rattle.algebra.specs.Sum.{sum, accumulate}
use Rattle.algebra.proofs.Coding.{length-put, over-whole}
use Rattle.algebra.proofs.Loop.{loop_total-none, loop_values-none, loop_total, loop_values}
use Rattle.field.specs.Binary.{binary, bit_ring}
use Rattle.field.specs.Kind.{kind_of}

-- i values of b are accumulated: their total, and the list
pub record Accumulated (G : Group) (C : Coding G.Of) (b v : List ℕ) (t : G.Of) (i : ℕ) : Type 0 where
  pub total : t ≡ sum G i (at C b)
  pub values : v ≡ over C i (accumulate G (at C b)) b
  pub size : length v ≡ length b

module _ (G : Group) (C : Coding G.Of) (L : CodingLaws C) (b : List ℕ) where
  pub start : {t : G.Of} → t ≡ G.zero → Accumulated G C b b t 0
  start e = record { total = e ∙ loop_total-none G C L b; values = loop_values-none G C L b; size = refl }

  pub more : {v : List ℕ} {t x : G.Of} {i : ℕ} → Accumulated G C b v t i → i * C.width + C.width ≤ length v → x ≡ G.add t (at C v i)
      → Accumulated G C b (put C v i x) x (i + 1)
  more {v} {t} {x} {i} a h e =
      let k : i * C.width + C.width ≤ length b = omega arith in
      record {
        total = loop_total G C L b i v t x a.total a.values k e;
        values = loop_values G C L b i v t x a.total a.values k e;
        size = length-put C L v i x h ∙ a.size;
      }

  pub done : {v : List ℕ} {t : G.Of} {i n : ℕ} → Accumulated G C b v t i → i ≤ n → n ≤ i → length b ≡ n * C.width
      → v ≡ flat C n (accumulate G (at C b))
  done {v} {t} {i} {n} a h k e =
      a.values ∙ ap (λ (m : ℕ). over C m (accumulate G (at C b)) b) (le_antisymm {n = i} {m = n} h k) ∙ over-whole C L n (accumulate G (at C b)) b e

-- by the field's number
module _ (field : ℕ) (w : List ℕ) where
  pub noise-binary : field ≡ 1 → {next : List ℕ} → next ≡ flat binary.noise_values (length w) (accumulate bit_ring.group (at binary.noise_values w))
      → next ≡ flat (kind_of field).field.noise_values (length w) (accumulate (kind_of field).field.ring.group (at (kind_of field).field.noise_values w))
  noise-binary e q = rw e q
