-- w = Δu + v at each output of an admitted dealing, from the one argument over any ring and any group that it scales.
use mathlib.Core.Path.{◌≡◌}
use mathlib.Core.List.{List}
use mathlib.Core.Logic.{◌⊎◌, inl, inr}
use Prim.Native.Nat.{ℕ, ◌/◌, ◌^◌, ◌<◌}
use native.Mathlib.Omega.{arith}
use borrow.Author.Tests.{lt-ltb}
use lib.ListN.{get_or}
use Rattle.algebra.specs.Common.{Dealt}
use Rattle.algebra.specs.Expansion.{Correlated}
use Rattle.algebra.specs.Group.{Element}
use Rattle.field.proofs.BothKinds.{kind_laws, kind_facts}
use Rattle.field.specs.Bytes.{word_at}
use Rattle.field.specs.Kind.{kind_of}
use Rattle.prime.specs.Prime.{modulus}
use Rattle.field.specs.ByNumber.{element_of}
use Rattle.window.proofs.Rows.{row_within}
use Rattle.window.specs.Head.{places, row}
use Rattle.tree.specs.Child.{child}
use Rattle.tree.specs.Tree.{leaf_at}
use Rattle.dealing.specs.Admitted.{Admitted, NoiseAdmitted}
use Rattle.dealing.specs.Input.{Input, position}
use Rattle.dealing.specs.Vectors.{head, field, value, root, leaf, delta, mu, v0, w0, u, v, w}

-- an admitted noise value is an element
noise-element : (f : ℕ) (l : List ℕ) (i : ℕ) → (f ≡ 1) ⊎ (f ≡ 2) → NoiseAdmitted f (get_or l i 0)
    → Element (kind_of f).field.ring.group ((kind_of f).field.noise_values.read l i)
noise-element f l i (inl e) A = rw e (lt-ltb (get_or l i 0) 2 (omega (arith, A.binary e)))
noise-element f l i (inr e) A = rw e (lt-ltb (get_or l i 0) modulus (omega (arith, (A.prime e).1)))

-- Δ is an element
delta-element : (f low high : ℕ) → (f ≡ 1) ⊎ (f ≡ 2) → (f ≡ 2 → low < modulus)
    → Element (kind_of f).field.scaled.group ((kind_of f).field.elements.read (element_of f low high) 0)
delta-element f low high (inl e) A = rw e
delta-element f low high (inr e) A = rw e (lt-ltb low modulus (A e))

-- what an admitted input deals
dealt : (I : Input) → Admitted I → Dealt (field I).scaled
dealt I A =
    record {
      delta = delta I;
      trees = I.trees;
      position = position I;
      value = value I;
      leaf = leaf I;
      rising = A.rising;
      delta-element = delta-element I.field (word_at I.delta 0) (word_at I.delta 8) A.field (λ e. (A.scalar.prime e).1);
      value-element = λ i h. noise-element I.field I.values i A.field (A.noise i h);
      leaf-element = λ i j.
          (kind_laws I.field).leaf-element (leaf_at (2 ^ I.branch_bits) child (I.depth / I.branch_bits) (root I i) j);
    }

pub admitted-correlated : (I : Input) → Admitted I → (x : ℕ) → Correlated (field I).scaled (delta I) (u I x) (v I x) (w I x)
unfolding dealt mu v0 w0 u v w
admitted-correlated I A x =
    (kind_facts I.field).outputs (dealt I A) (places (head I)) (row (head I) x) (row_within (head I) A.terms.2 x)
