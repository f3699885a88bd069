-- What accumulated buffers tell, from what accumulated vectors tell over any ring and any group that it scales. The noise values of
-- an accepted record are elements other than zero, at rising positions below N.
use mathlib.Core.Path.{◌≡◌, sym, ap, ◌∙◌}
use mathlib.Core.Bool.{Bool, true, false}
use mathlib.Core.List.{List, [], ◌∷◌, map}
use mathlib.Core.Logic.{◌⊎◌, inl, inr, ⊎_elim, ◌↔◌}
use Prim.Native.Nat.{ℕ, zero, suc, ◌-◌, ◌≤◌, ◌<◌}
use native.Mathlib.Nat.{not-suc-le-zero, le_of_suc-le-suc}
use native.Mathlib.Omega.{arith}
use borrow.Author.Tests.{eqb-true, leb-true, ltb-true, lt-ltb}
use lib.Dec.{leb, eqb}
use lib.ListN.{length, length-map, get_or-map}
use lib.Seq.{ext_get_or}
use Rattle.algebra.proofs.Coding.{at_flat}
use Rattle.algebra.proofs.Correlation.{noise-element}
use Rattle.algebra.proofs.Sum.{sum-element}
use Rattle.algebra.proofs.Tests.{and_left, and_right, or_cases}
use Rattle.algebra.specs.Choice.{choose}
use Rattle.algebra.specs.Coding.{at}
use Rattle.algebra.specs.Common.{NoiseBelow}
use Rattle.algebra.specs.Expansion.{whole, Correlated}
use Rattle.algebra.specs.Group.{Element}
use Rattle.algebra.specs.Sum.{accumulate}
use Rattle.field.proofs.BothKinds.{kind_laws, kind_facts}
use Rattle.field.specs.Kind.{KindLaws, binary_kind, prime_kind, kind_of}
use Rattle.prime.specs.Prime.{modulus}
use Rattle.prime.specs.declared.prime.Prime.{Prime}
use Rattle.ends.proofs.noise.Laws as noise_laws
use Rattle.ends.specs.Noise.Offline as noise_offline
use Rattle.ends.specs.Noise.Vectors.{value, mu, v0}
use Rattle.number.specs.Reading.{Bytes}
use Rattle.record.proofs.Laws.{noise-exact}
use Rattle.field.specs.ByNumber.{is_field, is_noise}
use Rattle.record.specs.Admitted.{Each, AdmittedTree, AdmittedNoise}
use Rattle.record.specs.Content.{Head, NoiseTree, tree_in, sibling_count}
use Rattle.window.specs.Head.{field_of, places}
use Rattle.ends.proofs.scalar.Laws as scalar_laws
use Rattle.ends.specs.Scalar.Offline as scalar_offline
use Rattle.ends.specs.Scalar.Vectors as scalar_end
use Rattle.ends.specs.Scalar.Vectors.{delta, w0}
use Rattle.claims.proofs.Dealt.{delta-told}
use Rattle.claims.specs.Buffers.{AccumulatedAt, VectorsAt, Below, Buffers}

-- ---- what is admitted, tree by tree

tree-at : (P : NoiseTree → Type 0) (ts : List NoiseTree) → Each P ts → (i : ℕ) → i < length ts → P (tree_in ts i)
unfolding Each
tree-at P [] A i h = absurd (not-suc-le-zero h)
tree-at P (t ∷ ts) A zero h = A.0
tree-at P (t ∷ ts) A (suc i) h = tree-at P ts A.1 i (le_of_suc-le-suc h)

-- ---- an admitted noise value is an element other than zero

two_fields : (f : ℕ) → is_field f ≡ true → (f ≡ 1) ⊎ (f ≡ 2)
two_fields f e = ⊎_elim (λ a. inl (eqb-true f 1 a)) (λ a. inr (eqb-true f 2 a)) (or_cases (eqb f 1) (eqb f 2) e)

noise_is_element : (f y : ℕ) → (f ≡ 1) ⊎ (f ≡ 2) → is_noise f y ≡ true → Element (kind_of f).field.ring.group ((kind_of f).field.noise_values.read (y ∷ []) 0)
noise_is_element f y (inl q) e = let k : y ≡ 1 = eqb-true y 1 (rw q at e) in rw q (lt-ltb y 2 (omega arith))
noise_is_element f y (inr q) e =
    let k : y ≤ modulus - 1 = leb-true y (modulus - 1) (and_right (leb 1 y) (leb y (modulus - 1)) (rw q at e)) in
    rw q (lt-ltb y modulus (omega arith))

noise-nonzero : (f y : ℕ) → (f ≡ 1) ⊎ (f ≡ 2) → is_noise f y ≡ true → (kind_of f).field.noise_values.read (y ∷ []) 0 ≡ (kind_of f).field.ring.group.zero → ⊥
noise-nonzero f y (inl q) e z =
    let k : y ≡ 1 = eqb-true y 1 (rw q at e) in
    let w : y ≡ 0 = rw q at z in
    omega arith
noise-nonzero f y (inr q) e z =
    let k : 1 ≤ y = leb-true 1 y (and_left (leb 1 y) (leb y (modulus - 1)) (rw q at e)) in
    let w : y ≡ 0 = ap (λ (a : Prime). a.word) (rw q at z) in
    omega arith

-- a noise value read from its word tells the word
word-told : (f x y : ℕ) → (kind_of f).field.noise_values.read (x ∷ []) 0 ≡ (kind_of f).field.noise_values.read (y ∷ []) 0 → x ≡ y
word-told f x y e = of (eqb f 1) e
  where
    of : (b : Bool) → (choose b binary_kind prime_kind).field.noise_values.read (x ∷ []) 0 ≡ (choose b binary_kind prime_kind).field.noise_values.read (y ∷ []) 0 → x ≡ y
    of true q = q
    of false q = ap (λ (a : Prime). a.word) q

module _ (h : Head) where
  laws : KindLaws (kind_of h.field)
  laws = kind_laws h.field

  -- ---- a noise record

  module _ (E : noise_offline.Expanded h) where
    -- the words that the call wrote
    left : noise_laws.Accepted (noise_offline.content E) E.source (noise_offline.after E)
    left = noise_laws.offline-accepted E.source E.noise_buffer E.v_buffer E.read E.number

    noise-at : (j : ℕ) → j < places h → at (field_of h).noise_values (noise_offline.noise_of (noise_offline.after E)) j
        ≡ accumulate (field_of h).ring.group (mu (noise_offline.content E)) j
    noise-at j l = rw left.noise (at_flat (field_of h).noise_values laws.field.noise_values (places h) _ j l)

    v-at : (j : ℕ) → j < places h → at (field_of h).elements (noise_offline.v_of (noise_offline.after E)) j
        ≡ accumulate (field_of h).scaled.group (v0 (noise_offline.content E)) j
    v-at j l = rw left.v (at_flat (field_of h).elements laws.field.elements (places h) _ j l)

  module _ (E : noise_offline.Expanded h) (bytes : Bytes E.source) where
    admitted : AdmittedNoise (noise_offline.content E)
    admitted = (noise-exact E.source bytes E.read).0

    field_is : (h.field ≡ 1) ⊎ (h.field ≡ 2)
    field_is = two_fields h.field admitted.head.field

    tree : (i : ℕ) → i < h.trees → AdmittedTree h.field h.depth (sibling_count h.depth h.branch_bits) (tree_in E.trees i)
    tree i l = tree-at (AdmittedTree h.field h.depth (sibling_count h.depth h.branch_bits)) E.trees admitted.trees i (rw admitted.count l)

    told : NoiseBelow (field_of h).ring (places h) h.trees (λ i. (tree_in E.trees i).position) (value (noise_offline.content E))
    told =
        record {
          rising = admitted.rising;
          below = λ i l. ltb-true _ _ (tree i l).below;
          element = λ i l. noise_is_element h.field (tree_in E.trees i).value field_is (tree i l).value;
          nonzero = λ i l. noise-nonzero h.field (tree_in E.trees i).value field_is (tree i l).value;
        }

    mu_element : (j : ℕ) → Element (field_of h).ring.group (mu (noise_offline.content E) j)
    unfolding mu
    mu_element j =
        noise-element (field_of h).ring laws.field.ring h.trees (λ i. (tree_in E.trees i).position) (value (noise_offline.content E)) told.element j

  -- ---- a scalar record

  module _ (D : scalar_offline.Expanded h) where
    w0_element : (j : ℕ) → Element (field_of h).scaled.group (w0 (scalar_offline.content D) j)
    unfolding w0 whole
    w0_element j = sum-element (field_of h).scaled.group laws.field.scaled.group h.trees (λ i. scalar_end.leaf (scalar_offline.content D) i j)

    scalar-left : scalar_laws.Accepted (scalar_offline.content D) D.source (scalar_offline.after D)
    scalar-left = scalar_laws.offline-accepted D.source D.w_buffer D.delta_buffer D.read D.number

    w_at_lem : (j : ℕ) → j < places h → at (field_of h).elements (scalar_offline.w_of (scalar_offline.after D)) j
        ≡ accumulate (field_of h).scaled.group (w0 (scalar_offline.content D)) j
    w_at_lem j l = rw scalar-left.w (at_flat (field_of h).elements laws.field.elements (places h) _ j l)

    delta_at : at (field_of h).elements (scalar_offline.delta_of (scalar_offline.after D)) 0 ≡ delta (scalar_offline.content D)
    delta_at = ap (λ (ws : List ℕ). at (field_of h).elements ws 0) scalar-left.delta ∙ delta-told h.field D.delta

  -- ---- both

  module _ (E : noise_offline.Expanded h) (bytes : Bytes E.source) (D : scalar_offline.Expanded h) (k : ℕ) (most : k ≤ places h) where
    tell : ((j : ℕ) → j < k → Correlated (field_of h).scaled (delta (scalar_offline.content D))
        (accumulate (field_of h).ring.group (mu (noise_offline.content E)) j)
        (accumulate (field_of h).scaled.group (v0 (noise_offline.content E)) j)
        (accumulate (field_of h).scaled.group (w0 (scalar_offline.content D)) j))
        ↔ Below k (VectorsAt E D)
    tell =
        (kind_facts h.field).accumulated.correlation (delta (scalar_offline.content D)) k
        (mu (noise_offline.content E)) (v0 (noise_offline.content E)) (w0 (scalar_offline.content D)) (λ j l. mu_element E bytes j) (λ j l. w0_element D j)

    told_by_accumulated : Below k (AccumulatedAt E D) → Below k (VectorsAt E D)
    told_by_accumulated e =
        tell.0 (λ j l. rw (delta_at D, noise-at E j (omega arith), v-at E j (omega arith), w_at_lem D j (omega arith)) at (e j l))

    accumulated_by_told : Below k (VectorsAt E D) → Below k (AccumulatedAt E D)
    accumulated_by_told e j l =
        rw (delta_at D, noise-at E j (omega arith), v-at E j (omega arith), w_at_lem D j (omega arith)) (tell.1 e j l)

  -- ---- two noise records

  module _ (E E' : noise_offline.Expanded h) (bytes : Bytes E.source) (bytes' : Bytes E'.source)
      (same : noise_offline.noise_of (noise_offline.after E) ≡ noise_offline.noise_of (noise_offline.after E')) where
    told-trees : (i : ℕ) → i < h.trees
        → ((tree_in E.trees i).position ≡ (tree_in E'.trees i).position) × (value (noise_offline.content E) i ≡ value (noise_offline.content E') i)
    unfolding mu
    told-trees =
        (kind_facts h.field).accumulated.positions (places h) h.trees (λ i. (tree_in E.trees i).position) (λ i. (tree_in E'.trees i).position)
        (value (noise_offline.content E)) (value (noise_offline.content E')) (told E bytes) (told E' bytes')
        (λ j l. sym (noise-at E j l) ∙ ap (λ (ws : List ℕ). at (field_of h).noise_values ws j) same ∙ noise-at E' j l)

    -- lists of as many trees are equal in a part if all their trees are
    parts_same : (part : NoiseTree → ℕ) → ((i : ℕ) → i < h.trees → part (tree_in E.trees i) ≡ part (tree_in E'.trees i))
        → map part E.trees ≡ map part E'.trees
    parts_same part e =
        ext_get_or (part none) (map part E.trees) (map part E'.trees) (long E bytes ∙ sym (long E' bytes'))
        (λ i l. get_or-map part E.trees i none ∙ e i (rw (long E bytes) at l) ∙ sym (get_or-map part E'.trees i none))
      where
        none : NoiseTree
        none = record { position = 0; value = 0; correction = []; siblings = [] }

        long : (A : noise_offline.Expanded h) → Bytes A.source → length (map part A.trees) ≡ h.trees
        long A b = length-map A.trees part ∙ (admitted A b).count

pub buffers : Buffers
buffers =
    record {
      correlation = λ h E b D k most. (told_by_accumulated h E b D k most, accumulated_by_told h E b D k most);
      noise = λ h E E' b b' same. (
        parts_same h E E' b b' same (λ t. t.position) (λ i l. (told-trees h E E' b b' same i l).0),
        parts_same h E E' b b' same (λ t. t.value) (λ i l. word-told h.field _ _ (told-trees h E E' b b' same i l).1),
      );
    }
