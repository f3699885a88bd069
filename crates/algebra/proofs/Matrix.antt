-- A row's output of an accumulated vector is its row of the code matrix times the vector.
use mathlib.Core.Path.{◌≡◌, refl, sym, ap, ◌∙◌}
use mathlib.Core.Bool.{Bool, true, false}
use Prim.Native.Nat.{ℕ, ◌<◌}
use lib.Dec.{leb}
use Rattle.algebra.specs.Choice.{choose}
use Rattle.algebra.specs.Group.{Element, Ring, Scaled, RingLaws, ScaledLaws}
use Rattle.algebra.specs.Sum.{sum, accumulate}
use Rattle.algebra.specs.Row.{Row, RowWithin, output, entry, row_times}
use Rattle.algebra.proofs.Choice.{choose_either}
use Rattle.algebra.proofs.Sum.{sum_cong, sum_swap, sum_upto, scale-zero, scale-sum, sum-scale}

module _ (R : Ring) (S : Scaled R) (RL : RingLaws R) (L : ScaledLaws R S) where
  -- a term that is left out may be left out of the scalar
  scale-choose : (t : Bool) (c : R.group.Of) (a : S.group.Of)
      → S.scale c (choose t a S.group.zero) ≡ S.scale (choose t c R.group.zero) a
  scale-choose true c a = refl
  scale-choose false c a = scale-zero R S L c ∙ sym (L.zero-scale a)

  -- one term: its coefficient times the accumulated value is a sum over all N places
  term : (N p : ℕ) (c : R.group.Of) (f : ℕ → S.group.Of) → p < N
      → S.scale c (accumulate S.group f p) ≡ sum S.group N (λ j. S.scale (choose (leb j p) c R.group.zero) (f j))
  unfolding accumulate
  term N p c f h =
      ap (S.scale c) (sym (sum_upto S.group L.group N p f h))
      ∙ scale-sum R S L c N (λ j. choose (leb j p) (f j) S.group.zero)
      ∙ sum_cong S.group N _ _ (λ j k. scale-choose (leb j p) c (f j))

  module _ (N : ℕ) (row : Row R) (W : RowWithin R N row) where
    pub output_is_matrix : (f : ℕ → S.group.Of) → output S row (accumulate S.group f) ≡ row_times S N (entry row) f
    unfolding output entry row_times
    output_is_matrix f =
        let G = S.group in
        let m : ℕ → ℕ → R.group.Of = λ i j. choose (leb j (row.place i)) (row.coefficient i) R.group.zero in
        sum_cong G row.terms (λ i. S.scale (row.coefficient i) (accumulate G f (row.place i))) (λ i. sum G N (λ j. S.scale (m i j) (f j)))
        (λ i h. term N (row.place i) (row.coefficient i) f (W.place-below i h))
        ∙ sum_swap G L.group row.terms N (λ i j. S.scale (m i j) (f j))
        ∙ sum_cong G N (λ j. sum G row.terms (λ i. S.scale (m i j) (f j))) (λ j. S.scale (sum R.group row.terms (λ i. m i j)) (f j))
        (λ j k. sym (sum-scale R S L RL.group row.terms (λ i. m i j) (f j)
        (λ i h. choose_either (Element R.group) (leb j (row.place i)) (row.coefficient i) R.group.zero
        (W.coefficient-element i h) RL.group.zero-element)))
