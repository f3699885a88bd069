-- Rounds and steps give the same: both are transcripts, and equal far bits give equal shares and bits. Assumes nothing.
use Prim.Native.Nat.{ℕ, suc, ◌+◌, ◌*◌, ◌<◌}
use mathlib.Core.Bool.{true}
use mathlib.Core.List.{List}
use mathlib.Core.Logic.{◌↔◌}
use mathlib.Core.Path.{◌≡◌, refl, sym, ap, ap₂, ◌∙◌}
use borrow.Author.Tests.{lt-ltb, le-ltb}
use native.Mathlib.Omega.{arith}
use lib.Dec.{ltb}
use lib.ListN.{length, get_or, take}
use lib.Seq.{get_or-take}
use Rattle.algebra.specs.Choice.{choose}
use Rattle.circuit.proofs.Exact.{admitted}
use Rattle.circuit.proofs.Levels.{greatest-from}
use Rattle.circuit.specs.Content.{Circuit, is_and, ands_in}
use Rattle.circuit.specs.Levels.{levels}
use Rattle.circuit_run.specs.Round.{RoundLent, known_as}
use Rattle.circuit_run.specs.Step.{StepLent, gate_at, ands_before}
use Rattle.circuit_run.specs.declared.StepState.{StepState}
use Rattle.circuit_claims.proofs.AndGates.{and-inside, and_before, and_earlier, and_one, ands_rise}
use Rattle.circuit_claims.proofs.Calls.{call_at, made_at}
use Rattle.circuit_claims.proofs.Evaluates.{stood, step-sends, late, has_all, of_steps}
use Rattle.circuit_claims.proofs.Progresses.{stands}
use Rattle.circuit_claims.proofs.Reaches.{Standing, waiting, finished}
use Rattle.circuit_claims.proofs.Transcripts.{SameTriples, outputs-same, determined, sent_determined}
use Rattle.circuit_claims.specs.Transcript.{BitsByAnd, wire_shares, far_in_steps, pair_at, far_in_rounds}
use Rattle.circuit_claims.specs.Runs.{StepMade, steps_of, IsStep, written_by}
use Rattle.number.proofs.Places.{split, choose_yes, choose_no}
use Rattle.pads.proofs.Triples.Matching.{triple_eq}
use Rattle.circuit_claims.proofs.RoundEvaluates.{levels_passed, far-got, wrote-shares}
use Rattle.circuit_claims.proofs.RoundProgresses.{progress}
use Rattle.circuit_claims.proofs.Stages.{and_wire}
use Rattle.circuit_claims.proofs.RoundTranscripts.{of_rounds}
use Rattle.circuit_claims.specs.Inner.ByAnd.{FarGot, ByFar}
use Rattle.circuit_claims.specs.RoundRuns.{RoundMade, rounds_of, IsRound, outputs_by, bits_by, Finished, IsWire, byte_of}
use Rattle.circuit_claims.specs.Same.{level_at, place_at, SameFar, Alike, SameOutputs, SameBits, OpenedOnce}

-- triples that are the same bytes
triples-same : (n : ℕ) (t t' : List ℕ) → take (3 * n) t ≡ take (3 * n) t' → SameTriples n t t'
triples-same n t t' e j h = triple_eq (byte (j * 3) (omega arith)) (byte (j * 3 + 1) (omega arith)) (byte (j * 3 + 2) (omega arith))
  where
    byte : (k : ℕ) → k < 3 * n → get_or t k 0 ≡ get_or t' k 0
    byte k g = sym (get_or-take (3 * n) t k 0 g) ∙ ap (λ (l : List ℕ). get_or l k 0) e ∙ get_or-take (3 * n) t' k 0 g

module _ (circuit : List ℕ) (c : Circuit) (role : ℕ) (shares triples₁ triples₂ : List ℕ)
    (calls₁ : List StepLent) (calls₂ : List RoundLent) (alike : Alike circuit c role shares triples₁ triples₂ (steps_of calls₁) (rounds_of calls₂)) where
  abbrev in_steps : BitsByAnd
  in_steps = far_in_steps (steps_of calls₁)

  same : SameTriples (ands_in c.gates) triples₁ triples₂
  same = triples-same (ands_in c.gates) triples₁ triples₂ alike.same-triples

  -- the far bits of an AND in steps are those that its round got
  far-same : (i : ℕ) → SameFar c (steps_of calls₁) (rounds_of calls₂) i → (k : ℕ) (m : StepMade) → IsStep (steps_of calls₁) k m → ands_before c i < k
      → (r : RoundMade) → IsRound (rounds_of calls₂) (level_at c i) r → in_steps (ands_before c i) ≡ pair_at r.got.far (place_at c i)
  far-same i equal k m e h r f =
      let b = call_at k (suc (ands_before c i)) (steps_of calls₁) e (omega arith) in
      let q = equal b.0 r b.1 f in
      made_at (λ (x : StepMade). (x.got.far_first, x.got.far_second)) (0, 0) (steps_of calls₁) (suc (ands_before c i)) b.1
      ∙ ap₂ (λ (x y : ℕ). (x, y)) q.0 q.1

  -- ---- the same outputs

  module _ (equal : (i : ℕ) → is_and (gate_at c i) ≡ true → SameFar c (steps_of calls₁) (rounds_of calls₂) i) (k₁ k₂ : ℕ) (m : StepMade) (r : RoundMade)
      (e₁ : IsStep (steps_of calls₁) k₁ m) (e₂ : IsRound (rounds_of calls₂) k₂ r) (two : m.gave.state.phase ≡ 2) (done : Finished r.gave) where
    by : ByFar role c shares triples₂ in_steps (rounds_of calls₂)
    by =
        of_rounds circuit c alike.reads role shares triples₂ calls₂ alike.in-rounds in_steps
        (λ i a n f.
        far-same i (equal i a) k₁ m e₁
        (omega (arith, and_before c i a, late circuit c alike.reads role shares triples₁ calls₁ alike.in-steps k₁ m e₁ two)) n f)

    equal-shares : (w : ℕ) → w < c.inputs + length c.gates
        → get_or (wire_shares role c triples₁ in_steps shares) w 0 ≡ get_or (wire_shares role c triples₂ in_steps shares) w 0
    equal-shares =
        determined role c triples₁ triples₂ in_steps in_steps shares
        (stood circuit c alike.reads role shares triples₁ calls₁ alike.in-steps k₁ m e₁).one_each
        (admitted circuit c alike.reads).gates same (length c.gates) (omega arith) (λ j h. refl)

    outputs-equal : written_by m.gave ≡ outputs_by r.gave
    outputs-equal =
        (of_steps circuit c alike.reads role shares triples₁ calls₁ alike.in-steps k₁ m e₁ two).written
        ∙ outputs-same (c.inputs + length c.gates) (wire_shares role c triples₁ in_steps shares) (wire_shares role c triples₂ in_steps shares) c.outputs
        equal-shares (admitted circuit c alike.reads).output_wires
        ∙ sym (wrote-shares circuit c alike.reads role shares triples₂ calls₂ alike.in-rounds k₂ r e₂ done in_steps by)

    bytes-equal : (w : ℕ) → IsWire c w → byte_of r.gave.state w ≡ known_as (get_or m.gave.state.wires w 0)
    bytes-equal w h =
        (by.has k₂ r e₂ w h (levels_passed circuit c alike.reads calls₂ (λ k n f. (alike.in-rounds k n f).own-circuit) k₂ r e₂ done w)).0
        ∙ ap known_as (sym (has_all circuit c alike.reads role shares triples₁ calls₁ alike.in-steps k₁ m e₁ two w h ∙ equal-shares w h))

  -- ---- the same bits

  module _ (i : ℕ) (a : is_and (gate_at c i) ≡ true)
      (equal : (n : ℕ) → n < i → is_and (gate_at c n) ≡ true → SameFar c (steps_of calls₁) (rounds_of calls₂) n)
      (k : ℕ) (m : StepMade) (r : RoundMade) (level : level_at c i ≡ suc k) (e₁ : IsStep (steps_of calls₁) (ands_before c i) m)
      (e₂ : IsRound (rounds_of calls₂) k r) where
    -- the far bits of the ANDs before it in steps, of the others in rounds
    abbrev mixed : BitsByAnd
    mixed j = choose (ltb j (ands_before c i)) (in_steps j) (far_in_rounds c (rounds_of calls₂) j)

    mixed_before : (j : ℕ) → j < ands_before c i → mixed j ≡ in_steps j
    mixed_before j h = choose_yes {A = ℕ × ℕ} (in_steps j) (far_in_rounds c (rounds_of calls₂) j) (lt-ltb j (ands_before c i) h)

    mixed_got : FarGot c (rounds_of calls₂) mixed
    mixed_got n b f g =
        split n i
        (λ h.
        let earlier = and_earlier c n i b h in
        mixed_before (ands_before c n) earlier ∙ far-same n (equal n h b) (ands_before c i) m e₁ earlier f g)
        (λ h.
        choose_no {A = ℕ × ℕ} (in_steps (ands_before c n)) (far_in_rounds c (rounds_of calls₂) (ands_before c n))
        (le-ltb (ands_before c n) (ands_before c i) (ands_rise c i n h))
        ∙ far-got circuit c alike.reads role shares triples₂ calls₂ alike.in-rounds n b f g)

    pairs_equal : (m.gave.first_bit, m.gave.second_bit) ≡ pair_at (bits_by r.gave) (place_at c i)
    pairs_equal =
        step-sends circuit c alike.reads role shares triples₁ calls₁ alike.in-steps (ands_before c i) m e₁ i a refl
        ∙ sent_determined role c triples₁ triples₂ in_steps mixed shares
        (stood circuit c alike.reads role shares triples₁ calls₁ alike.in-steps (ands_before c i) m e₁).one_each
        (admitted circuit c alike.reads).gates same i a (and-inside c i a) (λ j h. sym (mixed_before j h))
        ∙ sym ((of_rounds circuit c alike.reads role shares triples₂ calls₂ alike.in-rounds mixed mixed_got).sends k r e₂ i a level)

-- ---- each AND once

once-standing : {c : Circuit} {k i : ℕ} {r : StepState} → is_and (gate_at c i) ≡ true → Standing c 0 k r
    → (((r.phase ≡ 1) × (r.gate ≡ i)) ↔ ands_before c i ≡ k) × (r.phase ≡ 2 → ands_before c i < k)
once-standing {c} {k} {i} {r} a (waiting one l h and n) = (
  (λ p. sym (ap (ands_before c) p.1) ∙ n, λ e. (one, and_one c r.gate i and a (n ∙ sym e))),
  λ two. absurd (omega arith),
)
once-standing {c} {k} {i} {r} a (finished two q h) =
    let b = and_before c i a in ((λ p. absurd (let one = p.0 in omega arith), λ e. absurd (omega arith)), λ _. omega arith)

-- circuits in rounds: the same outputs, the same bits, each AND once
pub same-outputs : SameOutputs
same-outputs circuit c role shares triples₁ triples₂ calls₁ calls₂ alike equal k₁ k₂ m r e₁ e₂ two done = (
  outputs-equal circuit c role shares triples₁ triples₂ calls₁ calls₂ alike equal k₁ k₂ m r e₁ e₂ two done,
  bytes-equal circuit c role shares triples₁ triples₂ calls₁ calls₂ alike equal k₁ k₂ m r e₁ e₂ two done,
)

pub same_bits : SameBits
same_bits circuit c role shares triples₁ triples₂ calls₁ calls₂ alike i a equal k m r level e₁ e₂ =
    let p = pairs_equal circuit c role shares triples₁ triples₂ calls₁ calls₂ alike i a equal k m r level e₁ e₂ in
    (ap (λ (x : ℕ × ℕ). x.0) p, ap (λ (x : ℕ × ℕ). x.1) p)

pub opened-once : OpenedOnce
opened-once =
    record {
      by_step = λ circuit c read calls on k m e i a. once-standing a (stands circuit c read calls on k m e);
      by_round = λ circuit c read calls on k m e i a.
          let s = progress.stands circuit c read calls on k m e in
          let wire : IsWire c (c.inputs + i) = omega (arith, and-inside c i a) in
          let w = s.waits (c.inputs + i) wire in (
            (λ h. (w.0 h).1, λ h. w.1 (and_wire c i ∙ a, h)),
            λ done. omega (arith, s.finished.0 done, greatest-from (levels c) (c.inputs + i)),
          );
    }
