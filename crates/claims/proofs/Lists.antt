-- The single claim about every two lists of calls, and what each listed call leaves.
use mathlib.Core.Path.{◌≡◌, refl, sym, ap, ap₂, ◌∙◌}
use mathlib.Core.List.{List, [], ◌∷◌, map}
use mathlib.Core.Option.{some, none-ne-some, some-injective}
use Prim.Native.Nat.{ℕ, zero, suc, ◌+◌, ◌*◌, ◌^◌, ◌<◌}
use native.Mathlib.Nat.{not-suc-le-zero, le_of_suc-le-suc}
use lib.ListN.{length, get_or, get_elem?}
use Rattle.answer.specs.Tests.{first_fault}
use Rattle.answer.specs.Outcome.{Outcome, TwoWritten, answered, refused_one, refused_two, wrote}
use Rattle.algebra.proofs.Coding.{flat_cong, at_flat}
use Rattle.algebra.proofs.Same.{accumulate-same}
use Rattle.algebra.proofs.Sum.{sum-element}
use Rattle.algebra.specs.Coding.{at, flat, over}
use Rattle.algebra.specs.Field.{Field, NoiseValue, Value}
use Rattle.algebra.specs.Group.{Element, itself}
use Rattle.algebra.specs.Row.{output}
use Rattle.algebra.specs.Sum.{accumulate}
use Rattle.field.proofs.BothKinds.{kind_laws, noise_facts}
use Rattle.number.specs.Reading.{Whole}
use Rattle.record.specs.Reading.{read_noise, read_scalar}
use Rattle.window.proofs.Rows.{row_within, row_output}
use Rattle.window.specs.Head.{places, row}
use Rattle.dealing.proofs.Laws as dealing
use Rattle.dealing.specs.Admitted.{Admitted}
use Rattle.dealing.specs.Input.{Input}
use Rattle.dealing.specs.Parts.{noise_part, scalar_part}
use Rattle.dealing.specs.Vectors as dealt
use Rattle.dealing.specs.Vectors.{head, field, mu, v0, w0}
use Rattle.ends.proofs.noise.Laws as noise_laws
use Rattle.ends.specs.Noise.Online as noise_online
use Rattle.ends.specs.Noise.Vectors as noise_part_vectors
use Rattle.ends.proofs.scalar.Laws as scalar_laws
use Rattle.ends.specs.Scalar.Online as scalar_online
use Rattle.ends.specs.Scalar.Vectors as scalar_part_vectors
use Rattle.claims.specs.Correlation.{Setting, noise_source, scalar_source, Call, End, run, last, EndClaim, NoiseMemory, NoiseOut, noise_expanded, noise_end, ScalarMemory, scalar_expanded, scalar_delta, scalar_end, Lists}
use Rattle.claims.proofs.Dealt.{delta-told, delta-whole, mu_dealt, v0_dealt, w0_dealt}
use Rattle.claims.proofs.Outputs.{admitted-correlated}

-- ---- a list of calls, each of which leaves the memory as it was

module _ (E : End) (kept : (m : E.Memory) (c : Call E.Out) → E.memory (E.online m c).lent ≡ m) where
  -- every call is made on the first memory
  pub run-steps : (m : E.Memory) (calls : List (Call E.Out)) → run E m calls ≡ map (λ c. (c, E.online m c)) calls
  unfolding run
  run-steps m [] = refl
  run-steps m (c ∷ calls) = ap (λ l. (c, E.online m c) ∷ run E l calls) (kept m c) ∙ ap (λ l. (c, E.online m c) ∷ l) (run-steps m calls)

  -- so the outcome that the run has at a place is that of its call there
  made-first : (m : E.Memory) (calls : List (Call E.Out)) (i : ℕ) {c : Call E.Out} {o : Outcome E.Written E.Lent}
      → get_elem? (run E m calls) i ≡ some (c, o) → o ≡ E.online m c
  unfolding run
  made-first m [] i e = absurd (none-ne-some _ e)
  made-first m (d ∷ calls) zero {c} {o} e =
      let q = some-injective (d, E.online m d) (c, o) e in cc (ap (λ p. p.0) q, ap (λ p. p.1) q)
  made-first m (d ∷ calls) (suc i) e = made-first m calls i (rw (kept m d) at e)

  last-kept : (m : E.Memory) (calls : List (Call E.Out)) → last E m calls ≡ m
  unfolding last
  last-kept m [] = refl
  last-kept m (c ∷ calls) = ap (λ l. last E l calls) (kept m c) ∙ last-kept m calls

  -- so what is claimed of a list follows from what holds of each call on the first memory
  pub end_claim : ((c : Call E.Out) → (E.online E.start c).number ≡ first_fault (E.tests c))
      → ((c : Call E.Out) → (E.online E.start c).number ≡ 0 → (k : ℕ) → k < c.count
      → E.standing (E.online E.start c).lent k ≡ E.dealt (c.first + k))
      → (calls : List (Call E.Out)) → EndClaim E calls
  end_claim number value calls =
      record {
        numbers = λ i c o e. ap (λ p. p.number) (made-first E.start calls i e) ∙ number c;
        values = λ x a H.
            let made = made-first E.start calls H.place H.made in
            let told = value H.call (ap (λ o. o.number) (sym made) ∙ H.accepted) H.k H.within in
            cc (H.stands, H.index);
        memory = last-kept E.start calls;
      }

-- the run has the call at each place of the list with its outcome, so what is claimed of what the run has is claimed of every place
pub run-place : (E : End) (m : E.Memory) (calls : List (Call E.Out)) (c : Call E.Out) (o : Outcome E.Written E.Lent) (i : ℕ)
    → i < length calls → get_elem? (run E m calls) i ≡ some (get_or calls i c, get_or (map (λ p. p.1) (run E m calls)) i o)
unfolding run
run-place E m [] c o i h = absurd (not-suc-le-zero h)
run-place E m (d ∷ calls) c o zero h = refl
run-place E m (d ∷ calls) c o (suc i) h = run-place E (E.memory (E.online m d).lent) calls c o i (le_of_suc-le-suc h)

-- ---- one dealing

module _ (S : Setting) where
  abbrev I : Input
  I = S.input

  abbrev F : Field
  F = field I

  -- what a call on the first memory is lent
  abbrev noise_lent : Call NoiseOut → noise_online.Lent
  noise_lent c = noise_online.lent_with (noise_end S).start.source (noise_end S).start.noise (noise_end S).start.v c.out.u_out c.out.v_out

  abbrev scalar_lent : Call (List ℕ) → scalar_online.Lent
  scalar_lent c = scalar_online.lent_with (scalar_end S).start.source (scalar_end S).start.w c.out

  -- what it leaves where these are its outputs by index
  abbrev pub noise_listed_by : Call NoiseOut → (ℕ → NoiseValue F) → (ℕ → Value F) → Outcome TwoWritten noise_online.Lent
  noise_listed_by c u v =
      answered ((noise_end S).tests c) (refused_two (noise_lent c))
      (wrote (record { first_written = c.count; second_written = c.count * F.elements.width })
      (noise_online.lent_with (noise_end S).start.source (noise_end S).start.noise (noise_end S).start.v
      (over F.noise_values c.count (λ k. u (c.first + k)) c.out.u_out)
      (over F.elements c.count (λ k. v (c.first + k)) c.out.v_out)))

  abbrev pub scalar_listed_by : Call (List ℕ) → (ℕ → Value F) → Outcome ℕ scalar_online.Lent
  scalar_listed_by c w =
      answered ((scalar_end S).tests c) (refused_one (scalar_lent c))
      (wrote (c.count * F.elements.width)
      (scalar_online.lent_with (scalar_end S).start.source (scalar_end S).start.w (over F.elements c.count (λ k. w (c.first + k)) c.out)))

  -- every call leaves the memory as it was
  pub noise-kept : (m : NoiseMemory) (c : Call NoiseOut) → (noise_end S).memory ((noise_end S).online m c).lent ≡ m
  noise-kept m c =
      let k = noise_laws.online-kept (noise_online.lent_with m.source m.noise m.v c.out.u_out c.out.v_out) c.first c.count in
      λ i. record { source = k.source i; noise = k.noise i; v = k.v i }

  pub scalar-kept : (m : ScalarMemory) (c : Call (List ℕ)) → (scalar_end S).memory ((scalar_end S).online m c).lent ≡ m
  scalar-kept m c =
      let k = scalar_laws.online-kept (scalar_online.lent_with m.source m.w c.out) c.first c.count in
      λ i. record { source = k.source i; w = k.w i }

  pub A : Admitted I
  A = (dealing.deal-number I S.noise_record S.scalar_record S.dealt).admitted

  noise-reads : read_noise (noise_source S) ≡ Whole (noise_part I)
  noise-reads = dealing.noise-reads I S.noise_record S.scalar_record S.dealt S.in_memory

  scalar-reads : read_scalar (scalar_source S) ≡ Whole (scalar_part I)
  scalar-reads = dealing.scalar-reads I S.noise_record S.scalar_record S.dealt S.in_memory

  -- what each offline call left
  noise-left : noise_laws.Accepted (noise_part I) (noise_source S) (noise_expanded S)
  noise-left = noise_laws.offline-accepted (noise_source S) S.noise_buffer S.v_buffer noise-reads S.noise_accepted

  scalar-left : scalar_laws.Accepted (scalar_part I) (scalar_source S) (scalar_expanded S)
  scalar-left = scalar_laws.offline-accepted (scalar_source S) S.w_buffer S.delta_buffer scalar-reads S.scalar_accepted

  -- the accumulated vectors of the dealing
  acc_mu : ℕ → NoiseValue F
  acc_mu = accumulate F.ring.group (mu I)

  acc_v0 : ℕ → Value F
  acc_v0 = accumulate F.scaled.group (v0 I)

  acc_w0 : ℕ → Value F
  acc_w0 = accumulate F.scaled.group (w0 I)

  -- the memory that each offline call left holds the record and them
  pub noise-start : read_noise (noise_end S).start.source ≡ Whole (noise_part I)
  noise-start = ap read_noise noise-left.record-kept ∙ noise-reads

  pub scalar-start : read_scalar (scalar_end S).start.source ≡ Whole (scalar_part I)
  scalar-start = ap read_scalar scalar-left.record-kept ∙ scalar-reads

  noise-words : (noise_end S).start.noise ≡ flat F.noise_values (2 ^ I.depth) acc_mu
  unfolding acc_mu
  noise-words =
      noise-left.noise
      ∙ flat_cong F.noise_values (kind_laws I.field).field.noise_values (2 ^ I.depth) _ _
      (accumulate-same F.ring.group (2 ^ I.depth) (noise_part_vectors.mu (noise_part I)) (mu I) (λ j h. mu_dealt I A j))

  v-words : (noise_end S).start.v ≡ flat F.elements (2 ^ I.depth) acc_v0
  unfolding acc_v0
  v-words =
      noise-left.v
      ∙ flat_cong F.elements (kind_laws I.field).field.elements (2 ^ I.depth) _ _
      (accumulate-same F.scaled.group (2 ^ I.depth) (noise_part_vectors.v0 (noise_part I)) (v0 I) (v0_dealt I A))

  w-words : (scalar_end S).start.w ≡ flat F.elements (2 ^ I.depth) acc_w0
  unfolding acc_w0
  w-words =
      scalar-left.w
      ∙ flat_cong F.elements (kind_laws I.field).field.elements (2 ^ I.depth) _ _
      (accumulate-same F.scaled.group (2 ^ I.depth) (scalar_part_vectors.w0 (scalar_part I)) (w0 I) (λ j h. w0_dealt I A j))

  -- what each vector holds when the online calls begin, with its definition written out
  pub noise-front : (noise_end S).start.noise ≡ flat F.noise_values (2 ^ I.depth) (accumulate F.ring.group (mu I))
  unfolding acc_mu
  noise-front = noise-words

  pub v_front : (noise_end S).start.v ≡ flat F.elements (2 ^ I.depth) (accumulate F.scaled.group (v0 I))
  unfolding acc_v0
  v_front = v-words

  pub w_front : (scalar_end S).start.w ≡ flat F.elements (2 ^ I.depth) (accumulate F.scaled.group (w0 I))
  unfolding acc_w0
  w_front = w-words

  -- Δ, as the offline call left it
  pub delta-front : at F.elements (scalar_delta S) 0 ≡ dealt.delta I
  delta-front = ap (λ l. at F.elements l 0) scalar-left.delta ∙ delta-told I.field (scalar_part I).delta

  acc_mu_element : (j : ℕ) → j < 2 ^ I.depth → Element F.ring.group (acc_mu j)
  unfolding acc_mu accumulate
  acc_mu_element j h = sum-element F.ring.group (kind_laws I.field).field.ring.group (suc j) (mu I)

  acc_v0_element : (j : ℕ) → j < 2 ^ I.depth → Element F.scaled.group (acc_v0 j)
  unfolding acc_v0 accumulate
  acc_v0_element j h = sum-element F.scaled.group (kind_laws I.field).field.scaled.group (suc j) (v0 I)

  acc_w0_element : (j : ℕ) → j < 2 ^ I.depth → Element F.scaled.group (acc_w0 j)
  unfolding acc_w0 accumulate
  acc_w0_element j h = sum-element F.scaled.group (kind_laws I.field).field.scaled.group (suc j) (w0 I)

  -- u: a row's output on the accumulated noise is the matrix row times the noise
  u_is : (x : ℕ) → output (itself F.ring) (row (head I) x) acc_mu ≡ dealt.u I x
  unfolding acc_mu dealt.u
  u_is x = (noise_facts I.field).matrix (places (head I)) (row (head I) x) (row_within (head I) A.terms.2 x) (mu I)

  -- a row's outputs on the words in memory are the dealing's
  u-words : (x : ℕ) → output (itself F.ring) (row (head I) x) (at F.noise_values (noise_end S).start.noise) ≡ dealt.u I x
  u-words x =
      row_output (head I) A.terms.2 x (itself F.ring) _ acc_mu
      (λ j h. rw noise-words (at_flat F.noise_values (kind_laws I.field).field.noise_values (2 ^ I.depth) acc_mu j h))
      ∙ u_is x

  v_outputs : (x : ℕ) → output F.scaled (row (head I) x) (at F.elements (noise_end S).start.v) ≡ dealt.v I x
  unfolding acc_v0 dealt.v
  v_outputs x =
      row_output (head I) A.terms.2 x F.scaled _ acc_v0
      (λ j h. rw v-words (at_flat F.elements (kind_laws I.field).field.elements (2 ^ I.depth) acc_v0 j h))

  w_outputs : (x : ℕ) → output F.scaled (row (head I) x) (at F.elements (scalar_end S).start.w) ≡ dealt.w I x
  unfolding acc_w0 dealt.w
  w_outputs x =
      row_output (head I) A.terms.2 x F.scaled _ acc_w0
      (λ j h. rw w-words (at_flat F.elements (kind_laws I.field).field.elements (2 ^ I.depth) acc_w0 j h))

  module _ (c : Call NoiseOut) where
    -- what a listed call leaves: 7, 13, or u and v of its window over the fronts of the output buffers
    pub noise-step : (noise_end S).online (noise_end S).start c ≡ noise_listed_by c (dealt.u I) (dealt.v I)
    unfolding noise_online.filled
    noise-step =
        noise_laws.online-listed (noise_lent c) (noise_part I) acc_mu acc_v0 noise-start noise-words v-words acc_mu_element acc_v0_element c.first c.count
        ∙ (λ i. noise_listed_by c (λ x. u-words x i) (λ x. v_outputs x i))

    pub noise-number : ((noise_end S).online (noise_end S).start c).number ≡ first_fault ((noise_end S).tests c)
    noise-number =
        noise_laws.online-number (noise_lent c) (noise_part I) acc_mu acc_v0 noise-start noise-words v-words acc_mu_element acc_v0_element c.first c.count

    noise-value : ((noise_end S).online (noise_end S).start c).number ≡ 0 → (k : ℕ) → k < c.count
        → (noise_end S).standing ((noise_end S).online (noise_end S).start c).lent k ≡ (noise_end S).dealt (c.first + k)
    unfolding acc_v0 dealt.v
    noise-value z k h =
        ap₂ (λ a b. (a, b))
        (noise_laws.online_u (noise_lent c) (noise_part I) acc_mu acc_v0 noise-start noise-words v-words acc_mu_element acc_v0_element c.first c.count z k h
        ∙ u_is (c.first + k))
        (noise_laws.online_v (noise_lent c) (noise_part I) acc_mu acc_v0 noise-start noise-words v-words acc_mu_element acc_v0_element c.first c.count z k h)

  module _ (c : Call (List ℕ)) where
    pub scalar-step : (scalar_end S).online (scalar_end S).start c ≡ scalar_listed_by c (dealt.w I)
    unfolding scalar_online.filled
    scalar-step =
        scalar_laws.online-listed (scalar_lent c) (scalar_part I) acc_w0 scalar-start w-words acc_w0_element c.first c.count
        ∙ (λ i. scalar_listed_by c (λ x. w_outputs x i))

    pub scalar-number : ((scalar_end S).online (scalar_end S).start c).number ≡ first_fault ((scalar_end S).tests c)
    scalar-number = scalar_laws.online-number (scalar_lent c) (scalar_part I) acc_w0 scalar-start w-words acc_w0_element c.first c.count

    scalar-value : ((scalar_end S).online (scalar_end S).start c).number ≡ 0 → (k : ℕ) → k < c.count
        → (scalar_end S).standing ((scalar_end S).online (scalar_end S).start c).lent k ≡ (scalar_end S).dealt (c.first + k)
    unfolding acc_w0 dealt.w
    scalar-value z k h = scalar_laws.online-values (scalar_lent c) (scalar_part I) acc_w0 scalar-start w-words acc_w0_element c.first c.count z k h

-- every two lists
pub lists : Lists
lists S noise_calls scalar_calls =
    let noise : EndClaim (noise_end S) noise_calls = end_claim (noise_end S) (noise-kept S) (noise-number S) (noise-value S) noise_calls in
    let scalar : EndClaim (scalar_end S) scalar_calls = end_claim (scalar_end S) (scalar-kept S) (scalar-number S) (scalar-value S) scalar_calls in
    record {
      noise = noise;
      scalar = scalar;
      scalar-delta = delta-front S;
      scalar-words = (scalar-left S).delta ∙ delta-whole S.input.field _ _;
      correlated = λ x u' v' w' N C.
          scalar.values x w' C
          ∙ admitted-correlated S.input (A S) x
          ∙ ap (λ p. (F S).scaled.group.add ((F S).scaled.scale p.0 (dealt.delta S.input)) p.1) (sym (noise.values x (u', v') N));
    }
