-- Accumulation has an inverse, place j less place j − 1: so accumulated vectors tell the vectors, and with them the correlation
-- and the noise (document 02, 12).
use mathlib.Core.Path.{◌≡◌, refl, sym, ap, ◌∙◌}
use mathlib.Core.Bool.{Bool, true, false}
use mathlib.Core.Logic.{⊎_elim}
use Prim.Native.Nat.{ℕ, zero, suc, ◌<◌}
use native.Mathlib.Nat.{eq-or-lt_of_le}
use native.Mathlib.Omega.{arith}
use lib.Dec.{eqb}
use borrow.Author.Tests.{eqb-true}
use Rattle.algebra.specs.Choice.{choose}
use Rattle.algebra.specs.Group.{Group, Element, GroupLaws, Ring, Scaled, RingLaws, ScaledLaws}
use Rattle.algebra.specs.Sum.{sum, accumulate}
use Rattle.algebra.specs.Expansion.{noise, Correlated}
use Rattle.algebra.specs.Common.{NoiseBelow}
use Rattle.algebra.proofs.Sum.{sum-element, sum-add, sum-scale}
use Rattle.algebra.proofs.Correlation.{noise-at, noise-elsewhere}
use Rattle.algebra.proofs.Rising.{rises, rising_is, rising_pairs}

module _ (G : Group) (L : GroupLaws G) where
  -- a summand may be cancelled
  pub add_cancel : (x a b : G.Of) → Element G x → Element G a → Element G b → G.add x a ≡ G.add x b → a ≡ b
  add_cancel x a b hx ha hb e = sym (back a ha) ∙ ap (G.add (G.sub G.zero x)) e ∙ back b hb
    where
      back : (c : G.Of) → Element G c → G.add (G.sub G.zero x) (G.add x c) ≡ c
      back c h =
          sym (L.add_assoc (G.sub G.zero x) x c)
          ∙ ap (λ (y : G.Of). G.add y c) (L.add_comm (G.sub G.zero x) x ∙ L.add-sub G.zero x L.zero-element hx)
          ∙ L.zero-add c h

  -- vectors of elements that accumulate to the same at the places below k are the same there
  pub accumulate_tells : (k : ℕ) (f g : ℕ → G.Of) → ((j : ℕ) → j < k → Element G (f j)) → ((j : ℕ) → j < k → Element G (g j))
      → ((j : ℕ) → j < k → accumulate G f j ≡ accumulate G g j) → (j : ℕ) → j < k → f j ≡ g j
  unfolding accumulate sum
  accumulate_tells k f g hf hg e j h =
      add_cancel (sum G j f) (f j) (g j) (sum-element G L j f) (hf j h) (hg j h)
      (e j h ∙ ap (λ (x : G.Of). G.add x (g j)) (sym (before j h)))
    where
      before : (i : ℕ) → i < k → sum G i f ≡ sum G i g
      before zero l = refl
      before (suc i) l = e i (omega arith)

module _ (R : Ring) (S : Scaled R) (RL : RingLaws R) (L : ScaledLaws R S) (Δ : S.group.Of) where
  -- Δu + v accumulates to Δ times the accumulated u, and the accumulated v
  accumulated : (u : ℕ → R.group.Of) (v : ℕ → S.group.Of) (j : ℕ) → ((i : ℕ) → i < suc j → Element R.group (u i))
      → accumulate S.group (λ i. S.group.add (S.scale (u i) Δ) (v i)) j
      ≡ S.group.add (S.scale (accumulate R.group u j) Δ) (accumulate S.group v j)
  unfolding accumulate
  accumulated u v j h =
      sum-add S.group L.group (suc j) (λ i. S.scale (u i) Δ) v
      ∙ ap (λ (x : S.group.Of). S.group.add x (sum S.group (suc j) v)) (sym (sum-scale R S L RL.group (suc j) u Δ h))

  -- the accumulated vectors are correlated at the places below k exactly if the vectors are
  pub correlation_tells : (k : ℕ) (u : ℕ → R.group.Of) (v w : ℕ → S.group.Of)
      → ((j : ℕ) → j < k → Element R.group (u j)) → ((j : ℕ) → j < k → Element S.group (w j))
      → ((j : ℕ) → j < k → Correlated S Δ (accumulate R.group u j) (accumulate S.group v j) (accumulate S.group w j))
      → (j : ℕ) → j < k → Correlated S Δ (u j) (v j) (w j)
  correlation_tells k u v w hu hw e =
      accumulate_tells S.group L.group k w (λ i. S.group.add (S.scale (u i) Δ) (v i)) hw
      (λ j h. L.group.add-element (S.scale (u j) Δ) (v j))
      (λ j h. e j h ∙ sym (accumulated u v j (λ i l. hu i (omega arith))))

-- noise values other than zero at rising positions below N are told by the noise
module _ (R : Ring) (N : ℕ) where
  fewer : (t : ℕ) (p : ℕ → ℕ) (y : ℕ → R.group.Of) → NoiseBelow R N (suc t) p y → NoiseBelow R N t p y
  fewer t p y A =
      record {
        rising = rising_is t p (λ i h. rises (suc t) p A.rising i (omega arith));
        below = λ i h. A.below i (omega arith);
        element = λ i h. A.element i (omega arith);
        nonzero = λ i h. A.nonzero i (omega arith);
      }

  -- the last position is above the others
  last-above : (t : ℕ) (p : ℕ → ℕ) (y : ℕ → R.group.Of) → NoiseBelow R N (suc t) p y → (i : ℕ) → i < t → p i < p t
  last-above t p y A i h = rising_pairs (suc t) p (rises (suc t) p A.rising) i t h (omega arith)

  -- past the last position the noise is zero
  past : (t : ℕ) (p : ℕ → ℕ) (y : ℕ → R.group.Of) → NoiseBelow R N (suc t) p y → (j : ℕ) → p t < j → noise R (suc t) p y j ≡ R.group.zero
  past t p y A j h =
      noise-elsewhere R (suc t) p y j
      (λ i k e. ⊎_elim (λ (q : i ≡ t). omega (arith, ap p q)) (λ (l : i < t). omega (arith, last-above t p y A i l))
      (eq-or-lt_of_le {n = i} {m = t} (omega arith)))

  -- so the last position is not below another's
  not-below : (t : ℕ) (p q : ℕ → ℕ) (y z : ℕ → R.group.Of) → NoiseBelow R N (suc t) p y → NoiseBelow R N (suc t) q z
      → ((j : ℕ) → j < N → noise R (suc t) p y j ≡ noise R (suc t) q z j) → p t < q t → ⊥
  not-below t p q y z A B e h =
      B.nonzero t (omega arith)
      (sym (noise-at R (suc t) q z (rises (suc t) q B.rising) t (omega arith)) ∙ sym (e (q t) (B.below t (omega arith))) ∙ past t p y A (q t) h)

  -- without the last noise value
  shorter : (t : ℕ) (p : ℕ → ℕ) (y : ℕ → R.group.Of) → NoiseBelow R N (suc t) p y → (j : ℕ) (b : Bool) → eqb (p t) j ≡ b
      → noise R t p y j ≡ choose b R.group.zero (noise R (suc t) p y j)
  unfolding noise
  shorter t p y A j true e =
      noise-elsewhere R t p y j
      (λ i k q. omega (arith, last-above t p y A i k, eqb-true (p t) j e))
  shorter t p y A j false e = rw e

  pub noise_tells : (t : ℕ) (p q : ℕ → ℕ) (y z : ℕ → R.group.Of) → NoiseBelow R N t p y → NoiseBelow R N t q z
      → ((j : ℕ) → j < N → noise R t p y j ≡ noise R t q z j) → (i : ℕ) → i < t → (p i ≡ q i) × (y i ≡ z i)
  noise_tells zero p q y z A B e i h = absurd (omega arith)
  noise_tells (suc t) p q y z A B e i h =
      ⊎_elim (λ (l : i ≡ t). rw l (place, value))
      (λ (l : i < t). noise_tells t p q y z (fewer t p y A) (fewer t q z B) rest i l)
      (eq-or-lt_of_le {n = i} {m = t} (omega arith))
    where
      place : p t ≡ q t
      place =
          let a : p t < q t → ⊥ = not-below t p q y z A B e in
          let b : q t < p t → ⊥ = not-below t q p z y B A (λ j l. sym (e j l)) in
          omega arith

      value : y t ≡ z t
      value =
          sym (noise-at R (suc t) p y (rises (suc t) p A.rising) t (omega arith))
          ∙ e (p t) (A.below t (omega arith))
          ∙ ap (noise R (suc t) q z) place
          ∙ noise-at R (suc t) q z (rises (suc t) q B.rising) t (omega arith)

      rest : (j : ℕ) → j < N → noise R t p y j ≡ noise R t q z j
      rest j l =
          shorter t p y A j (eqb (p t) j) refl
          ∙ ap (choose (eqb (p t) j) R.group.zero) (e j l)
          ∙ sym (shorter t q z B j (eqb (p t) j) (ap (λ (x : ℕ). eqb x j) (sym place)))
