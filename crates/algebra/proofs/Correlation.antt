-- The correlation w = Δu + v: kept by sums, by accumulation and by rows, and true of what is dealt.
use mathlib.Core.Path.{◌≡◌, refl, sym, ap, ◌∙◌}
use mathlib.Core.Bool.{Bool, true, false}
use mathlib.Core.Logic.{⊎_elim}
use Prim.Native.Nat.{ℕ, zero, suc, ◌<◌}
use native.Mathlib.Omega.{arith}
use native.Mathlib.Nat.{eq-or-lt_of_le}
use lib.Dec.{eqb}
use borrow.Author.Tests.{eqb-true, eq-eqb, ne_eqb}
use Rattle.algebra.specs.Choice.{choose}
use Rattle.algebra.specs.Group.{Element, Ring, Scaled, RingLaws, ScaledLaws, itself}
use Rattle.algebra.specs.Sum.{sum, accumulate}
use Rattle.algebra.specs.Row.{Row, RowWithin, output, entry, row_times}
use Rattle.algebra.specs.Expansion.{noise, NoiseIs, correction, punctured, whole, Correlated}
use Rattle.algebra.specs.Common.{Dealt, dealt_noise, dealt_punctured, dealt_whole}
use Rattle.algebra.proofs.Choice.{choose-true, choose-false, choose_either}
use Rattle.algebra.proofs.Sum.{sum_cong, sum-element, sum-add, sum_zeros, add-zero, sum-scale, itself_laws}
use Rattle.algebra.proofs.Rising.{Rises, rises, rising_pairs}
use Rattle.algebra.proofs.Matrix.{output_is_matrix}

module _ (R : Ring) where
  -- the noise value of a tree stands at its position
  pub noise-at : (t : ℕ) (position : ℕ → ℕ) (value : ℕ → R.group.Of) → Rises t position → (i : ℕ) → i < t
      → noise R t position value (position i) ≡ value i
  unfolding noise
  noise-at zero position value r i h = absurd (omega arith)
  noise-at (suc t) position value r i h =
      ⊎_elim
      (λ (e : i ≡ t). rw e (choose-true (eqb (position t) (position t)) (value t) _ (eq-eqb (position t) (position t) refl)))
      (λ (k : i < t).
      let below : position i < position t = rising_pairs (suc t) position r i t k (omega arith) in
      choose-false (eqb (position t) (position i)) (value t) _ (ne_eqb (position t) (position i) (λ e. omega arith))
      ∙ noise-at t position value (λ j l. r j (omega arith)) i k)
      (eq-or-lt_of_le {n = i} {m = t} (omega arith))

  -- elsewhere the noise is zero
  pub noise-elsewhere : (t : ℕ) (position : ℕ → ℕ) (value : ℕ → R.group.Of) (j : ℕ) → ((i : ℕ) → i < t → position i ≡ j → ⊥)
      → noise R t position value j ≡ R.group.zero
  unfolding noise
  noise-elsewhere zero position value j n = refl
  noise-elsewhere (suc t) position value j n =
      choose-false (eqb (position t) j) (value t) _ (ne_eqb (position t) j (n t (omega arith)))
      ∙ noise-elsewhere t position value j (λ i h. n i (omega arith))

  pub noise_is : NoiseIs R
  noise_is = record { at_positions = λ t position value r. noise-at t position value (rises t position r); elsewhere = noise-elsewhere }

  module _ (RL : RingLaws R) where
    pub noise-element : (t : ℕ) (position : ℕ → ℕ) (value : ℕ → R.group.Of) → ((i : ℕ) → i < t → Element R.group (value i))
        → (j : ℕ) → Element R.group (noise R t position value j)
    unfolding noise
    noise-element zero position value h j = RL.group.zero-element
    noise-element (suc t) position value h j =
        choose_either (Element R.group) (eqb (position t) j) (value t) (noise R t position value j)
        (h t (omega arith)) (noise-element t position value (λ i k. h i (omega arith)) j)

    -- at rising positions the noise is a sum over the trees
    pub noise-sum : (t : ℕ) (position : ℕ → ℕ) (value : ℕ → R.group.Of) → Rises t position
        → ((i : ℕ) → i < t → Element R.group (value i)) → (j : ℕ)
        → noise R t position value j ≡ sum R.group t (λ i. choose (eqb (position i) j) (value i) R.group.zero)
    unfolding noise sum
    noise-sum zero position value r h j = refl
    noise-sum (suc t) position value r h j =
        last (eqb (position t) j) refl (noise-sum t position value (λ i k. r i (omega arith)) (λ i k. h i (omega arith)) j)
      where
        f : ℕ → R.group.Of
        f i = choose (eqb (position i) j) (value i) R.group.zero

        last : (b : Bool) → eqb (position t) j ≡ b → noise R t position value j ≡ sum R.group t f
            → choose b (value t) (noise R t position value j) ≡ R.group.add (sum R.group t f) (choose b (value t) R.group.zero)
        last true e shorter =
            let at : position t ≡ j = eqb-true (position t) j e in
            let none : sum R.group t f ≡ R.group.zero =
            sum_zeros R.group RL.group t f
            (λ i k. choose-false (eqb (position i) j) (value i) R.group.zero
            (ne_eqb (position i) j (λ q. let below = rising_pairs (suc t) position r i t k (omega arith) in omega arith))) in
            sym (RL.group.zero-add (value t) (h t (omega arith))) ∙ ap (λ (x : R.group.Of). R.group.add x (value t)) (sym none)
        last false e shorter = shorter ∙ sym (add-zero R.group RL.group (sum R.group t f) (sum-element R.group RL.group t f))

module _ (R : Ring) (S : Scaled R) (RL : RingLaws R) (L : ScaledLaws R S) (Δ : S.group.Of) where
  -- sums of correlated terms are correlated
  pub sum-correlated : (n : ℕ) (u : ℕ → R.group.Of) (v w : ℕ → S.group.Of) → ((i : ℕ) → i < n → Element R.group (u i))
      → ((i : ℕ) → i < n → Correlated S Δ (u i) (v i) (w i))
      → Correlated S Δ (sum R.group n u) (sum S.group n v) (sum S.group n w)
  sum-correlated n u v w h e =
      sum_cong S.group n w (λ i. S.group.add (S.scale (u i) Δ) (v i)) e
      ∙ sum-add S.group L.group n (λ i. S.scale (u i) Δ) v
      ∙ ap (λ (x : S.group.Of). S.group.add x (sum S.group n v)) (sym (sum-scale R S L RL.group n u Δ h))

  -- accumulation keeps the correlation
  pub accumulate-correlated : (N : ℕ) (u : ℕ → R.group.Of) (v w : ℕ → S.group.Of) → ((j : ℕ) → j < N → Element R.group (u j))
      → ((j : ℕ) → j < N → Correlated S Δ (u j) (v j) (w j)) → (j : ℕ) → j < N
      → Correlated S Δ (accumulate R.group u j) (accumulate S.group v j) (accumulate S.group w j)
  unfolding accumulate
  accumulate-correlated N u v w h e j k =
      sum-correlated (suc j) u v w (λ i l. h i (omega arith)) (λ i l. e i (omega arith))

  -- a row keeps the correlation
  pub output-correlated : (N : ℕ) (row : Row R) → RowWithin R N row → (u : ℕ → R.group.Of) (v w : ℕ → S.group.Of)
      → ((j : ℕ) → j < N → Element R.group (u j)) → ((j : ℕ) → j < N → Correlated S Δ (u j) (v j) (w j))
      → Correlated S Δ (output (itself R) row u) (output S row v) (output S row w)
  unfolding output
  output-correlated N row W u v w h e =
      sum-correlated row.terms (λ i. R.mul (row.coefficient i) (u (row.place i)))
      (λ i. S.scale (row.coefficient i) (v (row.place i))) (λ i. S.scale (row.coefficient i) (w (row.place i)))
      (λ i k. RL.mul-element (row.coefficient i) (u (row.place i)))
      (λ i k.
      let c = row.coefficient i in
      let p = row.place i in
      let b = W.place-below i k in
      ap (S.scale c) (e p b)
      ∙ L.scale-add c (S.scale (u p) Δ) (v p)
      ∙ ap (λ (x : S.group.Of). S.group.add x (S.scale c (v p))) (sym (L.mul-scale c (u p) Δ (W.coefficient-element i k) (h p b))))

module _ (R : Ring) (S : Scaled R) (RL : RingLaws R) (L : ScaledLaws R S) (D : Dealt S) where
  abbrev corrections : ℕ → S.group.Of
  corrections i = correction S D.delta (D.leaf i (D.position i)) (D.value i)

  -- one tree at one place
  tree-correlated : (i j : ℕ) (b : Bool) → eqb (D.position i) j ≡ b
      → Correlated S D.delta (choose b (D.value i) R.group.zero) (choose b (corrections i) (D.leaf i j)) (D.leaf i j)
  unfolding correction
  tree-correlated i j true e =
      let y = S.scale (D.value i) D.delta in
      let a = D.leaf i (D.position i) in
      ap (D.leaf i) (sym (eqb-true (D.position i) j e))
      ∙ sym (L.group.add-sub a y (D.leaf-element i (D.position i)) (L.scale-element (D.value i) D.delta D.delta-element))
  tree-correlated i j false e =
      sym (ap (λ (x : S.group.Of). S.group.add x (D.leaf i j)) (L.zero-scale D.delta) ∙ L.group.zero-add (D.leaf i j) (D.leaf-element i j))

  -- what is dealt is correlated at every place
  pub dealt-correlated : (j : ℕ) → Correlated S D.delta (dealt_noise D j) (dealt_punctured D j) (dealt_whole D j)
  unfolding punctured whole
  dealt-correlated j =
      let u : ℕ → R.group.Of = λ i. choose (eqb (D.position i) j) (D.value i) R.group.zero in
      let v : ℕ → S.group.Of = λ i. choose (eqb (D.position i) j) (corrections i) (D.leaf i j) in
      sum-correlated R S RL L D.delta D.trees u v (λ i. D.leaf i j)
      (λ i h. choose_either (Element R.group) (eqb (D.position i) j) (D.value i) R.group.zero (D.value-element i h) RL.group.zero-element)
      (λ i h. tree-correlated i j (eqb (D.position i) j) refl)
      ∙ ap (λ (x : R.group.Of). S.group.add (S.scale x D.delta) (sum S.group D.trees v))
      (sym (noise-sum R RL D.trees D.position D.value (rises D.trees D.position D.rising) D.value-element j))

  module _ (N : ℕ) (row : Row R) (W : RowWithin R N row) where
    -- the outputs of every row are correlated
    pub row-correlated :
        Correlated S D.delta (output (itself R) row (accumulate R.group (dealt_noise D)))
        (output S row (accumulate S.group (dealt_punctured D)))
        (output S row (accumulate S.group (dealt_whole D)))
    unfolding accumulate
    row-correlated =
        let u = dealt_noise D in
        let v = dealt_punctured D in
        let w = dealt_whole D in
        output-correlated R S RL L D.delta N row W (accumulate R.group u) (accumulate S.group v) (accumulate S.group w)
        (λ j h. sum-element R.group RL.group (suc j) u)
        (accumulate-correlated R S RL L D.delta N u v w
        (λ j h. noise-element R RL D.trees D.position D.value D.value-element j) (λ j h. dealt-correlated j))

    -- a row is correlated with u as the code matrix times the noise
    pub matrix-correlated :
        Correlated S D.delta (row_times (itself R) N (entry row) (dealt_noise D))
        (output S row (accumulate S.group (dealt_punctured D)))
        (output S row (accumulate S.group (dealt_whole D)))
    matrix-correlated =
        row-correlated
        ∙ ap (λ (x : R.group.Of). S.group.add (S.scale x D.delta) (output S row (accumulate S.group (dealt_punctured D))))
        (output_is_matrix R (itself R) RL (itself_laws R RL) N row W (dealt_noise D))
