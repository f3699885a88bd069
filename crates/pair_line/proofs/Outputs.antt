-- Both ends' calls on accepted records of at most 1,024 leaves: each is accepted, and the words that they leave hold where the
-- definition does. Assumes nothing.
use mathlib.Core.Path.{◌≡◌, refl, sym, ap, ap₂, subst, ◌∙◌}
use mathlib.Core.Bool.{Bool, true, false}
use mathlib.Core.List.{List, [], ◌∷◌}
use Prim.Native.Nat.{ℕ, zero, suc, ◌+◌, ◌*◌, ◌^◌, ◌≤◌, ◌<◌}
use native.Mathlib.Omega.{arith}
use native.Mathlib.Nat.{min-le_right, mul-le-mul_left, zero-add}
use lib.Dec.{eqb}
use lib.ListN.{length, take, get_or, replicate, length-take}
use lib.Seq.{take_all}
use Rattle.answer.specs.Outcome.{Outcome, TwoWritten, outcome_one, outcome_two}
use Rattle.answer.proofs.Faults.{at-most, fault_later, fault_nowhere}
use Rattle.algebra.specs.Choice.{choose}
use Rattle.algebra.specs.Coding.{at}
use Rattle.algebra.specs.Field.{NoiseValue, Value}
use Rattle.algebra.specs.Group.{Element}
use Rattle.algebra.specs.Sum.{accumulate}
use Rattle.algebra.proofs.Coding.{length-flat}
use Rattle.algebra.proofs.Sum.{sum-element}
use Rattle.answer.specs.declared.OneLength.{OneLength}
use Rattle.answer.specs.declared.TwoLengths.{TwoLengths}
use Rattle.field.proofs.BothKinds.{kind_laws}
use Rattle.field.specs.Kind.{binary_kind, prime_kind, kind_of, element_words}
use Rattle.record.specs.Content.{Head, ScalarPart}
use Rattle.record.specs.declared.Layout.{Layout}
use Rattle.record.specs.Answer.{head_of}
use Rattle.record.proofs.Callers.{head_ranges}
use Rattle.record.proofs.Parts.{noise_parts, scalar_parts}
use Rattle.window.specs.Head.{field_of}
use Rattle.field.proofs.Widths.{width-most}
use Rattle.ends.proofs.Vectors.{one_word}
use Rattle.ends.proofs.noise.Laws as noise_laws
use Rattle.ends.specs.Inner.Noise as noise
use Rattle.ends.specs.Noise.Offline as noise_offline
use Rattle.ends.specs.Noise.Online as noise_online
use Rattle.ends.specs.Noise.Vectors as noise_vectors
use Rattle.ends.proofs.scalar.Laws as scalar_laws
use Rattle.ends.specs.Inner.Scalar as scalar
use Rattle.ends.specs.Scalar.Offline as scalar_offline
use Rattle.ends.specs.Scalar.Online as scalar_online
use Rattle.ends.specs.Scalar.Vectors as scalar_vectors
use Rattle.pairing_tests.specs.Inner.Steps.{Paired, NoiseOutputs, ScalarOutputs, counted, holds_at, held_words}
use Rattle.pairing.specs.Verdict.{Checked, u_at, v_at, w_at, Pair, scalar_of, pair_of, held_at, held_of, verdict}
use Rattle.pairing.proofs.Laws.{same_checked}
use Rattle.pairing.proofs.Same.{same-dealing}

-- ---- sizes

-- a front as long as it is asked
front_in : (k : ℕ) (l : List ℕ) → k ≡ length (take k l) → k ≤ length l
front_in k l e = omega (arith, length-take k l, min-le_right k (length l))

-- accumulated noise values are elements of the ring, and accumulated values of the group
noise-element : (h : Head) (f : ℕ → NoiseValue (field_of h)) (j : ℕ) → Element (field_of h).ring.group (accumulate (field_of h).ring.group f j)
unfolding accumulate
noise-element h f j = sum-element (field_of h).ring.group (kind_laws h.field).field.ring.group (suc j) f

value-element : (h : Head) (f : ℕ → Value (field_of h)) (j : ℕ) → Element (field_of h).scaled.group (accumulate (field_of h).scaled.group f j)
unfolding accumulate
value-element h f j = sum-element (field_of h).scaled.group (kind_laws h.field).field.scaled.group (suc j) f

-- N elements of at most 1,024 places, and the elements of at most 512 outputs
wide : (f : Layout) → 2 ^ f.depth ≤ 1024 → 2 ^ f.depth * element_words f.field ≤ 2048
wide f small = let m = mul-le-mul_left (2 ^ f.depth) (width-most f.field) in omega arith

room : (f : Layout) → f.outputs ≤ 512 → f.outputs * element_words f.field ≤ 1024
room f few = let m = mul-le-mul_left f.outputs (width-most f.field) in omega arith

-- Δ is read from its two words as from its own
delta-read : (f : ℕ) (l : List ℕ)
    → (kind_of f).field.elements.read (get_or l 0 0 ∷ choose (eqb f 1) (get_or l 1 0) 0 ∷ []) 0 ≡ (kind_of f).field.elements.read l 0
delta-read f l = of (eqb f 1)
  where
    of : (b : Bool) → (choose b binary_kind prime_kind).field.elements.read (get_or l 0 0 ∷ choose b (get_or l 1 0) 0 ∷ []) 0
        ≡ (choose b binary_kind prime_kind).field.elements.read l 0
    of true = refl
    of false = refl

-- ---- the noise end

module _ (s : List ℕ) (f : Layout) (ready : noise.Ready s f) (small : 2 ^ f.depth ≤ 1024) where
  pub noise-few : f.outputs ≤ 512
  noise-few =
      let a = noise_parts s ready.read in
      omega (arith, (head_ranges 1 s a.2).outputs-most)

  module _ {r : TwoLengths} {n v : List ℕ}
      (call : outcome_two r (noise_offline.offline_with s n v) ≡ noise_offline.offline s (replicate 1024 0) (replicate 2048 0)) where
    noise-accepted : noise_laws.Accepted (noise.content_of s f) s (outcome_two r (noise_offline.offline_with s n v))
    noise-accepted = rw call (noise_laws.offline-accepts s (replicate 1024 0) (replicate 2048 0) ready.read small (wide f small))

    pub noise-front : r.first_written ≡ length (take r.first_written n)
    noise-front =
        noise-accepted.first_written
        ∙ sym (ap length noise-accepted.noise
        ∙ length-flat (kind_of f.field).field.noise_values (kind_laws f.field).field.noise_values (2 ^ f.depth) _
        ∙ one_word (head_of s f) (2 ^ f.depth))

    pub noise-in : r.first_written ≤ length n
    noise-in = front_in r.first_written n noise-front

    pub v_front : r.second_written ≡ length (take r.second_written v)
    v_front =
        noise-accepted.second_written
        ∙ sym (ap length noise-accepted.v
        ∙ length-flat (kind_of f.field).field.elements (kind_laws f.field).field.elements (2 ^ f.depth) _)

    pub v_in : r.second_written ≤ length v
    v_in = front_in r.second_written v v_front

    module _ (u_out v_out : List ℕ) (u-room : length u_out ≡ 512) (v-room : length v_out ≡ 1024) where
      lent : noise_online.Lent
      lent = noise_online.lent_with s (take r.first_written n) (take r.second_written v) u_out v_out

      mu : ℕ → NoiseValue (kind_of f.field).field
      mu = accumulate (kind_of f.field).field.ring.group (noise_vectors.mu (noise.content_of s f))

      v0 : ℕ → Value (kind_of f.field).field
      v0 = accumulate (kind_of f.field).field.scaled.group (noise_vectors.v0 (noise.content_of s f))

      noise-number : (noise_online.online lent 0 f.outputs).number ≡ 0
      unfolding lent mu v0
      noise-number =
          noise_laws.online-number lent (noise.content_of s f) mu v0 ready.read noise-accepted.noise noise-accepted.v
          (λ j h. noise-element (head_of s f) _ j) (λ j h. value-element (head_of s f) _ j) 0 f.outputs
          ∙ sym (fault_later _ _ _ 0 (at-most (0 + f.outputs) f.outputs (omega arith))
          (fault_later _ _ _ 0 (at-most f.outputs (length u_out) (omega (arith, noise-few)))
          (fault_later _ _ [] 0 (at-most (f.outputs * element_words f.field) (length v_out) (omega (arith, room f noise-few))) fault_nowhere)))

      pub noise-values : {o : TwoLengths} {u vs : List ℕ}
          → outcome_two o (noise_online.lent_with s (take r.first_written n) (take r.second_written v) u vs)
          ≡ noise_online.online (noise_online.lent_with s (take r.first_written n) (take r.second_written v) u_out v_out) 0 f.outputs
          → NoiseOutputs s f u vs
      unfolding lent mu v0
      noise-values window =
          record {
            u_is = λ x h.
                ap (λ (l : Outcome TwoWritten noise_online.Lent). at (kind_of f.field).field.noise_values l.lent.u_out x) window
                ∙ noise_laws.online_u lent (noise.content_of s f) mu v0 ready.read noise-accepted.noise noise-accepted.v
                (λ j h. noise-element (head_of s f) _ j) (λ j h. value-element (head_of s f) _ j) 0 f.outputs noise-number x h
                ∙ ap (u_at (noise.content_of s f)) (zero-add x);
            v_is = λ x h.
                ap (λ (l : Outcome TwoWritten noise_online.Lent). at (kind_of f.field).field.elements l.lent.v_out x) window
                ∙ noise_laws.online_v lent (noise.content_of s f) mu v0 ready.read noise-accepted.noise noise-accepted.v
                (λ j h. noise-element (head_of s f) _ j) (λ j h. value-element (head_of s f) _ j) 0 f.outputs noise-number x h
                ∙ ap (v_at (noise.content_of s f)) (zero-add x);
          }

-- ---- the scalar end

module _ (t : List ℕ) (f : Layout) (ready : scalar.Ready t f) (small : 2 ^ f.depth ≤ 1024) where
  pub scalar-few : f.outputs ≤ 512
  scalar-few =
      let a = scalar_parts t ready.read in
      omega (arith, (head_ranges 2 t a.3).outputs-most)

  module _ (delta₀ : List ℕ) (two : length delta₀ ≡ 2) {r : TwoLengths} {w delta : List ℕ}
      (call : outcome_two r (scalar_offline.offline_with t w delta) ≡ scalar_offline.offline t (replicate 2048 0) delta₀) where
    scalar-accepted : scalar_laws.Accepted (scalar.content_of t f) t (outcome_two r (scalar_offline.offline_with t w delta))
    scalar-accepted = rw call (scalar_laws.offline-accepts t (replicate 2048 0) delta₀ ready.read (wide f small) (omega arith))

    pub w_front : r.first_written ≡ length (take r.first_written w)
    w_front =
        scalar-accepted.first_written
        ∙ sym (ap length scalar-accepted.w
        ∙ length-flat (kind_of f.field).field.elements (kind_laws f.field).field.elements (2 ^ f.depth) _)

    pub w_in : r.first_written ≤ length w
    w_in = front_in r.first_written w w_front

    module _ (w_out : List ℕ) (w-room : length w_out ≡ 1024) where
      borrowed : scalar_online.Lent
      borrowed = scalar_online.lent_with t (take r.first_written w) w_out

      w0 : ℕ → Value (kind_of f.field).field
      w0 = accumulate (kind_of f.field).field.scaled.group (scalar_vectors.w0 (scalar.content_of t f))

      scalar-number : (scalar_online.online borrowed 0 f.outputs).number ≡ 0
      unfolding borrowed w0
      scalar-number =
          scalar_laws.online-number borrowed (scalar.content_of t f) w0 ready.read scalar-accepted.w (λ j h. value-element (head_of t f) _ j) 0 f.outputs
          ∙ sym (fault_later _ _ _ 0 (at-most (0 + f.outputs) f.outputs (omega arith))
          (fault_later _ _ [] 0 (at-most (f.outputs * element_words f.field) (length w_out) (omega (arith, room f scalar-few))) fault_nowhere))

      pub scalar-values : length delta ≡ length delta₀ → {o : OneLength} {ws : List ℕ}
          → outcome_one o (scalar_online.lent_with t (take r.first_written w) ws)
          ≡ scalar_online.online (scalar_online.lent_with t (take r.first_written w) w_out) 0 f.outputs
          → ScalarOutputs t f ws delta
      unfolding borrowed w0
      scalar-values kept window =
          let whole : delta ≡ scalar_vectors.delta_out (scalar.content_of t f) =
          sym (take_all 2 delta (omega arith)) ∙ ap (λ (k : ℕ). take k delta) (sym scalar-accepted.second_written) ∙ scalar-accepted.delta in
          record {
            w_is = λ x h.
                ap (λ (l : Outcome ℕ scalar_online.Lent). at (kind_of f.field).field.elements l.lent.w_out x) window
                ∙ scalar_laws.online-values borrowed (scalar.content_of t f) w0 ready.read scalar-accepted.w
                (λ j h. value-element (head_of t f) _ j) 0 f.outputs scalar-number x h
                ∙ ap (w_at (scalar.content_of t f)) (zero-add x);
            delta_is = ap (λ (l : List ℕ). (kind_of f.field).field.elements.read l 0) whole ∙ delta-read f.field (scalar.content_of t f).delta;
          }

-- ---- held

module _ (s : List ℕ) (p : Layout) (t : List ℕ) (q : Layout) (here : noise.Ready s p) (there : scalar.Ready t q) (A : Paired s p t q) where
  -- room in the output arrays
  pub u-room : (l : List ℕ) → length l ≡ 512 → p.outputs ≤ length l
  u-room l e = omega (arith, noise-few s p here A.small)

  pub pairs_room : (l : List ℕ) → length l ≡ 1024 → p.outputs * 2 ≤ length l
  pairs_room l e = omega (arith, noise-few s p here A.small)

  abbrev pair : Pair
  pair = pair_of (noise.content_of s p) (scalar.content_of t q)

  -- the scalar record under the head that both have
  one-head : scalar.content_of t q ≡ scalar_of pair
  one-head = ap (λ (h : Head). record { head = h; delta = (scalar.content_of t q).delta; roots = (scalar.content_of t q).roots }) A.head

  module _ {u v w delta : List ℕ} (left : NoiseOutputs s p u v) (right : ScalarOutputs t q w delta) where
    -- words of u, v, w and Δ that are those of the definition hold where it does
    same_at : (x : ℕ) → x < p.outputs → holds_at (kind_of p.field).field delta u v w x ≡ held_at pair x
    unfolding holds_at held_at
    same_at x h =
        let count : p.outputs ≡ q.outputs = ap (λ (k : Head). k.outputs) (sym A.head) in
        let w_same : at (kind_of p.field).field.elements w x ≡ w_at (scalar_of pair) x =
        subst (λ (Q : ScalarPart). at (field_of Q.head).elements w x ≡ w_at Q x) one-head (right.w_is x (omega arith)) in
        let delta-same : (kind_of p.field).field.elements.read delta 0 ≡ scalar_vectors.delta (scalar_of pair) =
        subst (λ (Q : ScalarPart). (field_of Q.head).elements.read delta 0 ≡ scalar_vectors.delta Q) one-head right.delta_is in
        rw (delta-same, w_same, left.u_is x h, left.v_is x h)

    same-held : (n : ℕ) → n ≤ p.outputs → held_words (kind_of p.field).field delta u v w n ≡ held_of pair n
    unfolding held_words held_of
    same-held zero h = refl
    same-held (suc n) h =
        ap₂ (λ (a b : ℕ). a + b) (same-held n (omega arith)) (ap counted (same_at n (omega arith)))

    pub outputs-found : {r : ℕ} → r ≡ held_words (kind_of p.field).field delta u v w p.outputs → Checked p.outputs r ≡ verdict s t
    outputs-found e =
        ap (Checked p.outputs) (e ∙ same-held p.outputs (omega arith))
        ∙ sym (same_checked s t here.read there.read A.small A.small_too (rw A.head (same-dealing (head_of s p))))
