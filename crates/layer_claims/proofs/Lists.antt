-- The single claim about every two lists of calls on layers: the laws of each end's online call, on the added vectors.
use mathlib.Core.Path.{◌≡◌, refl, sym, ap, ap₂, ◌∙◌}
use mathlib.Core.Bool.{Bool, true, false}
use mathlib.Core.List.{List}
use Prim.Native.Nat.{ℕ, ◌+◌, ◌*◌, ◌^◌, ◌<◌}
use lib.Dec.{eqb}
use borrow.Author.Tests.{eqb-true}
use Rattle.algebra.proofs.Coding.{at_flat, at_over}
use Rattle.algebra.proofs.Linear.{accumulate-element}
use Rattle.algebra.proofs.Sum.{sum-element}
use Rattle.algebra.specs.Choice.{choose}
use Rattle.algebra.specs.Coding.{Coding, CodingLaws, at, flat, over}
use Rattle.algebra.specs.Field.{Field, NoiseValue, Value}
use Rattle.algebra.specs.Group.{Element, Scaled, itself}
use Rattle.algebra.specs.Row.{output}
use Rattle.algebra.specs.Order.{Order, Once}
use Rattle.algebra.specs.Sum.{sum, accumulate}
use Rattle.answer.specs.Outcome.{Outcome, TwoWritten, answered, refused_one, refused_two, wrote}
use Rattle.answer.specs.Tests.{first_fault}
use Rattle.answer.proofs.Answers.{outcome-number, outcome_is}
use Rattle.field.proofs.BothKinds.{kind_laws}
use Rattle.field.specs.Kind.{KindLaws}
use Rattle.window.proofs.Rows.{row_output}
use Rattle.window.specs.Head.{kind, row}
use Rattle.dealing.specs.Input.{Input}
use Rattle.dealing.specs.Parts.{noise_part, scalar_part}
use Rattle.dealing.specs.Vectors as dealt
use Rattle.dealing.specs.Vectors.{head, delta}
use Rattle.ends.proofs.noise.Laws as noise_laws
use Rattle.ends.proofs.scalar.Laws as scalar_laws
use Rattle.ends.specs.Noise.Online as noise_online
use Rattle.ends.specs.Scalar.Online as scalar_online
use Rattle.claims.proofs.Lists.{end_claim}
use Rattle.claims.specs.Correlation.{Call, EndClaim, NoiseOut}
use Rattle.layer_add.proofs.Sums.{noise_additive, elements_additive}
use Rattle.layer_claims.specs.Layers.{Layers, input_at, shared, field, u, v, w}
use Rattle.layer_claims.specs.Correlation.{Orders, WithLayer, NoiseMemory, ScalarMemory, noise_at, v_at, w_at, noise_end, scalar_end, LayerLists}
use Rattle.layer_claims.proofs.Adding.{Leaves, added-once}
use Rattle.layer_claims.proofs.Sums.{layer-left, first-admitted, known, acc_mu, acc_v0, acc_w0, u_is, v_is, w_is, layers-correlated}

-- the records after a call that left its own as it was
records-kept : (records : ℕ → List ℕ) (i : ℕ) (left : List ℕ) → left ≡ records i → (j : ℕ) → choose (eqb j i) left (records j) ≡ records j
records-kept records i left e j = of (eqb j i) refl
  where
    of : (t : Bool) → eqb j i ≡ t → choose t left (records j) ≡ records j
    of true q = e ∙ ap records (sym (eqb-true j i q))
    of false q = refl

module _ (L : Layers) (O : Orders L) where
  abbrev I : Input
  I = shared L

  abbrev F : Field
  F = field L

  abbrev N : ℕ
  N = 2 ^ I.depth

  laws : KindLaws (kind (head I))
  laws = kind_laws I.field

  -- ---- the added vectors

  pub noise-left : Leaves I.field (noise_at L) O.noise (flat F.noise_values N (acc_mu L))
  unfolding acc_mu
  noise-left =
      added-once I.field (noise_additive I.field) laws.field.ring.group (known L) L.count N
      (λ i. accumulate F.ring.group (dealt.mu (input_at L i)))
      (λ i j. accumulate-element F.ring.group laws.field.ring.group (dealt.mu (input_at L i)) j)
      (noise_at L) (λ i h. (layer-left L i h).noise) O.noise O.noise-once

  -- those of elements, v and w
  elements-left : (words : ℕ → List ℕ) (f : ℕ → ℕ → Value F)
      → ((i : ℕ) → i < L.count → words i ≡ flat F.elements N (accumulate F.scaled.group (f i)))
      → (o : Order) → Once L.count o
      → Leaves I.field words o
      (flat F.elements N (λ j. sum F.scaled.group L.count (λ i. accumulate F.scaled.group (f i) j)))
  elements-left words f are =
      added-once I.field (elements_additive I.field) laws.field.scaled.group (known L) L.count N
      (λ i. accumulate F.scaled.group (f i))
      (λ i j. accumulate-element F.scaled.group laws.field.scaled.group (f i) j) words are

  pub v_left : Leaves I.field (v_at L) O.v (flat F.elements N (acc_v0 L))
  unfolding acc_v0
  v_left = elements-left (v_at L) (λ i. dealt.v0 (input_at L i)) (λ i h. (layer-left L i h).v) O.v O.v_once

  pub w_left : Leaves I.field (w_at L) O.w (flat F.elements N (acc_w0 L))
  unfolding acc_w0
  w_left = elements-left (w_at L) (λ i. dealt.w0 (input_at L i)) (λ i h. (layer-left L i h).w) O.w O.w_once

  acc_mu_element : (j : ℕ) → j < N → Element F.ring.group (acc_mu L j)
  unfolding acc_mu
  acc_mu_element j h = sum-element F.ring.group laws.field.ring.group L.count _

  acc_v0_element : (j : ℕ) → j < N → Element F.scaled.group (acc_v0 L j)
  unfolding acc_v0
  acc_v0_element j h = sum-element F.scaled.group laws.field.scaled.group L.count _

  acc_w0_element : (j : ℕ) → j < N → Element F.scaled.group (acc_w0 L j)
  unfolding acc_w0
  acc_w0_element j h = sum-element F.scaled.group laws.field.scaled.group L.count _

  -- rows' outputs of the words that they are
  words-output : (S : Scaled F.ring) (C : Coding S.group.Of) → CodingLaws C → (l : List ℕ) (f : ℕ → S.group.Of) → l ≡ flat C N f
      → (x : ℕ) → output S (row (head I) x) (at C l) ≡ output S (row (head I) x) f
  words-output S C K l f e x =
      row_output (head I) (first-admitted L).terms.2 x S (at C l) f (λ j h. ap (λ (r : List ℕ). at C r j) e ∙ at_flat C K N f j h)

  -- ---- every call leaves the memory as it was

  noise-kept : (m : NoiseMemory) (c : Call (WithLayer L NoiseOut)) → (noise_end L O).memory ((noise_end L O).online m c).lent ≡ m
  noise-kept m c =
      let i = c.out.layer in
      let lent = noise_online.lent_with (m.records i) m.noise m.v c.out.out.u_out c.out.out.v_out in
      let q = noise_laws.online-kept lent c.first c.count in
      λ t. record { records = λ j. records-kept m.records i _ q.source j t; noise = q.noise t; v = q.v t }

  scalar-kept : (m : ScalarMemory) (c : Call (WithLayer L (List ℕ))) → (scalar_end L O).memory ((scalar_end L O).online m c).lent ≡ m
  scalar-kept m c =
      let i = c.out.layer in
      let q = scalar_laws.online-kept (scalar_online.lent_with (m.records i) m.w c.out.out) c.first c.count in
      λ t. record { records = λ j. records-kept m.records i _ q.source j t; w = q.w t }

  -- ---- what a call with the record of any layer leaves

  module _ (c : Call (WithLayer L NoiseOut)) where
    abbrev noise_lent : noise_online.Lent
    noise_lent =
        let m = (noise_end L O).start in
        noise_online.lent_with (m.records c.out.layer) m.noise m.v c.out.out.u_out c.out.out.v_out

    -- where these are its outputs by index
    abbrev noise_listed_by : (ℕ → NoiseValue F) → (ℕ → Value F) → Outcome TwoWritten noise_online.Lent
    noise_listed_by us vs =
        answered ((noise_end L O).tests c) (refused_two noise_lent)
        (wrote (record { first_written = c.count; second_written = c.count * F.elements.width })
        (noise_online.lent_with noise_lent.source noise_lent.noise noise_lent.v
        (over F.noise_values c.count (λ k. us (c.first + k)) c.out.out.u_out)
        (over F.elements c.count (λ k. vs (c.first + k)) c.out.out.v_out)))

    pub noise-step : noise_online.online noise_lent c.first c.count ≡ noise_listed_by (u L) (v L)
    unfolding noise_online.filled
    noise-step =
        noise_laws.online-listed noise_lent (noise_part (input_at L c.out.layer)) (acc_mu L) (acc_v0 L)
        (layer-left L c.out.layer c.out.below).noise-read noise-left.left v_left.left acc_mu_element acc_v0_element
        c.first c.count
        ∙ (λ t. noise_listed_by
        (λ x. (words-output (itself F.ring) F.noise_values laws.field.noise_values _ _ noise-left.left x ∙ u_is L x) t)
        (λ x. (words-output F.scaled F.elements laws.field.elements _ _ v_left.left x ∙ v_is L x) t))

    noise-number : ((noise_end L O).online (noise_end L O).start c).number ≡ first_fault ((noise_end L O).tests c)
    noise-number = ap (λ (o : Outcome TwoWritten noise_online.Lent). o.number) noise-step ∙ outcome-number _ _ _ _ ((noise_end L O).tests c)

    noise-value : ((noise_end L O).online (noise_end L O).start c).number ≡ 0 → (j : ℕ) → j < c.count
        → (noise_end L O).standing ((noise_end L O).online (noise_end L O).start c).lent j ≡ (noise_end L O).dealt (c.first + j)
    noise-value z j h =
        let accepted = sym (ap (λ (o : Outcome TwoWritten noise_online.Lent). o.number) noise-step) ∙ z in
        ap (λ (o : Outcome TwoWritten noise_online.Lent). (at F.noise_values o.lent.u_out j, at F.elements o.lent.v_out j))
        (noise-step ∙ outcome_is _ _ _ _ ((noise_end L O).tests c) accepted)
        ∙ ap₂ (λ a b. (a, b)) (at_over F.noise_values laws.field.noise_values c.count _ c.out.out.u_out j h)
        (at_over F.elements laws.field.elements c.count _ c.out.out.v_out j h)

  module _ (c : Call (WithLayer L (List ℕ))) where
    abbrev scalar_lent : scalar_online.Lent
    scalar_lent = scalar_online.lent_with ((scalar_end L O).start.records c.out.layer) (scalar_end L O).start.w c.out.out

    abbrev scalar_listed_by : (ℕ → Value F) → Outcome ℕ scalar_online.Lent
    scalar_listed_by ws =
        answered ((scalar_end L O).tests c) (refused_one scalar_lent)
        (wrote (c.count * F.elements.width)
        (scalar_online.lent_with scalar_lent.source scalar_lent.w (over F.elements c.count (λ k. ws (c.first + k)) c.out.out)))

    pub scalar-step : scalar_online.online scalar_lent c.first c.count ≡ scalar_listed_by (w L)
    unfolding scalar_online.filled
    scalar-step =
        scalar_laws.online-listed scalar_lent (scalar_part (input_at L c.out.layer)) (acc_w0 L)
        (layer-left L c.out.layer c.out.below).scalar_read w_left.left acc_w0_element c.first c.count
        ∙ (λ t. scalar_listed_by
        (λ x. (words-output F.scaled F.elements laws.field.elements _ _ w_left.left x ∙ w_is L x) t))

    scalar-number : ((scalar_end L O).online (scalar_end L O).start c).number ≡ first_fault ((scalar_end L O).tests c)
    scalar-number = ap (λ (o : Outcome ℕ scalar_online.Lent). o.number) scalar-step ∙ outcome-number _ _ _ _ ((scalar_end L O).tests c)

    scalar-value : ((scalar_end L O).online (scalar_end L O).start c).number ≡ 0 → (j : ℕ) → j < c.count
        → (scalar_end L O).standing ((scalar_end L O).online (scalar_end L O).start c).lent j ≡ (scalar_end L O).dealt (c.first + j)
    scalar-value z j h =
        let accepted = sym (ap (λ (o : Outcome ℕ scalar_online.Lent). o.number) scalar-step) ∙ z in
        ap (λ (o : Outcome ℕ scalar_online.Lent). at F.elements o.lent.w_out j)
        (scalar-step ∙ outcome_is _ _ _ _ ((scalar_end L O).tests c) accepted)
        ∙ at_over F.elements laws.field.elements c.count _ c.out.out j h

-- every two lists
pub layer-lists : LayerLists
layer-lists L O noise_calls scalar_calls =
    let N = noise_end L O in
    let C = scalar_end L O in
    let noise : EndClaim N noise_calls = end_claim N (noise-kept L O) (noise-number L O) (noise-value L O) noise_calls in
    let scalar : EndClaim C scalar_calls = end_claim C (scalar-kept L O) (scalar-number L O) (scalar-value L O) scalar_calls in
    record {
      noise-added = (noise-left L O).accepted;
      v_added = (v_left L O).accepted;
      w_added = (w_left L O).accepted;
      noise = noise;
      scalar = scalar;
      scalar-words = λ i h. (layer-left L i h).delta;
      correlated = λ x u' v' w' n c.
          scalar.values x w' c
          ∙ layers-correlated L x
          ∙ ap (λ p. (field L).scaled.group.add ((field L).scaled.scale p.0 (delta (shared L))) p.1)
          (sym (noise.values x (u', v') n));
    }
