-- Accumulation in place, as a loop does it: a running total, stored over the value that was added.
use mathlib.Core.Path.{◌≡◌, sym, ap, ◌∙◌}
use mathlib.Core.List.{List}
use Prim.Native.Nat.{ℕ, suc, ◌+◌, ◌*◌, ◌≤◌}
use native.Mathlib.Omega.{arith}
use native.Mathlib.Numerals.{add-one}
use lib.ListN.{length}
use Rattle.algebra.specs.Group.{Group}
use Rattle.algebra.specs.Sum.{sum, accumulate}
use Rattle.algebra.specs.Coding.{Coding, CodingLaws, at, over}
use Rattle.algebra.specs.Inner.Put.{put}
use Rattle.algebra.proofs.Sum.{sum-none, sum-suc}
use Rattle.algebra.proofs.Coding.{over_none, over-one, at_over_past}

module _ (G : Group) (C : Coding G.Of) (L : CodingLaws C) (b : List ℕ) where
  -- before the first turn
  pub loop_total-none : G.zero ≡ sum G 0 (at C b)
  loop_total-none = sym (sum-none G (at C b))

  pub loop_values-none : b ≡ over C 0 (accumulate G (at C b)) b
  loop_values-none = sym (over_none C L (accumulate G (at C b)) b)

  -- the value that a turn reads is as it was at the start
  pub loop_reads : (i : ℕ) (v : List ℕ) → v ≡ over C i (accumulate G (at C b)) b → i * C.width + C.width ≤ length b → at C v i ≡ at C b i
  loop_reads i v e h = ap (λ (l : List ℕ). at C l i) e ∙ at_over_past C L i (accumulate G (at C b)) b i (omega arith) h

  -- one turn, as code counts
  pub loop_total : (i : ℕ) (v : List ℕ) (t x : G.Of) → t ≡ sum G i (at C b) → v ≡ over C i (accumulate G (at C b)) b
      → i * C.width + C.width ≤ length b → x ≡ G.add t (at C v i) → x ≡ sum G (i + 1) (at C b)
  loop_total i v t x e l h s =
      s ∙ cc (loop_reads i v l h) ∙ sym (ap (λ (k : ℕ). sum G k (at C b)) (add-one i) ∙ sum-suc G i (at C b))

  pub loop_values : (i : ℕ) (v : List ℕ) (t x : G.Of) → t ≡ sum G i (at C b) → v ≡ over C i (accumulate G (at C b)) b
      → i * C.width + C.width ≤ length b → x ≡ G.add t (at C v i) → put C v i x ≡ over C (i + 1) (accumulate G (at C b)) b
  unfolding accumulate
  loop_values i v t x e l h s =
      let y : x ≡ sum G (suc i) (at C b) = loop_total i v t x e l h s ∙ ap (λ (k : ℕ). sum G k (at C b)) (add-one i) in
      ap (λ (r : List ℕ). put C r i x) l ∙ ap (put C (over C i (accumulate G (at C b)) b) i) y
      ∙ sym (over-one C L i (accumulate G (at C b)) b)
