-- A finished run in steps is a transcript, so what two runs have together is what two transcripts have. Assumes nothing.
use Prim.Native.Nat.{ℕ, zero, suc, ◌+◌, ◌*◌, ◌≤◌, ◌<◌}
use mathlib.Core.Bool.{true}
use mathlib.Core.List.{List, [], ◌∷◌}
use mathlib.Core.Path.{◌≡◌, refl, sym, ap, ap₂, ◌∙◌, subst}
use native.Mathlib.Omega.{arith}
use lib.Bits.{bit_xor}
use lib.ListN.{length, get_or, drop, set, length-set, length-drop}
use lib.Seq.{get_or-set_same, get_or-set_other}
use Rattle.circuit.proofs.Ands.{head_at, tail_at}
use Rattle.circuit.proofs.Exact.{admitted}
use Rattle.circuit.proofs.Folds.{below_at}
use Rattle.circuit.specs.Admitted.{most_wires, GateBelow, GatesBelow, AdmittedCircuit}
use Rattle.circuit.specs.Content.{Gate, Xor, And, Not, Circuit, is_and, ands_in}
use Rattle.circuit.specs.Reading.{read_circuit}
use Rattle.number.proofs.Places.{split, either}
use Rattle.number.specs.Reading.{Whole}
use Rattle.circuit_claims.proofs.AndGates.{and-inside, and_before, and_one, and_is}
use Rattle.circuit_claims.proofs.Calls.{call_before, call_at, made_at}
use Rattle.circuit_claims.proofs.Chains.{accepted-waits, ends-written, step_laws, Took, share-bits, triple-bits, took_state, took_gave}
use Rattle.circuit_claims.proofs.CircuitCalls.{first_had, next_had, had_some}
use Rattle.circuit_claims.proofs.Joins.{joined}
use Rattle.circuit_claims.proofs.Progresses.{phase-fresh, stands, finishes}
use Rattle.circuit_claims.proofs.Reaches.{Standing, waiting, finished, run-fresh, run-waits, run_ends, fresh-length, fresh_at}
use Rattle.circuit_claims.proofs.Transcripts.{Same, outputs-same, masked_same, share-same, shares_keep, shares_hold}
use Rattle.circuit_claims.specs.Evaluation.{Unaltered, Receives, Evaluation}
use Rattle.circuit_claims.specs.Transcript.{BitsByAnd, share_with_far, share_at, wire_shares, masked_bits, Transcript, sent_in_steps, far_in_steps}
use Rattle.circuit_claims.specs.Progress.{OnCircuit}
use Rattle.circuit_claims.specs.Runs.{fresh, StepMade, steps_of, IsStep, written_by}
use Rattle.circuit_run.specs.Step.{StepLent, StepOutcome, gate_at, ands_before, flipped, fresh_wires, run_on, advance, masked_first, masked_second, waiting_share, with_and, accepted_step, step}
use Rattle.circuit_run.specs.declared.StepState.{StepState}

-- ---- gates passed

-- one wire more
same_more : (n x : ℕ) (xs ys : List ℕ) → Same n xs ys → n < length xs → x ≡ get_or ys n 0 → Same (n + 1) (set xs n x) ys
same_more n x xs ys same h e w k =
    either w n
    (λ z. ap (λ (v : ℕ). get_or (set xs n x) v 0) z ∙ get_or-set_same xs n x 0 h ∙ e ∙ ap (λ (v : ℕ). get_or ys v 0) (sym z))
    (λ z. get_or-set_other xs n w x 0 z ∙ same w (omega arith))

module _ (role : ℕ) (c : Circuit) (triples : List ℕ) (far : BitsByAnd) (shares : List ℕ) (one_each : length shares ≡ c.inputs)
    (ok : GatesBelow c.inputs c.gates) where
  abbrev all-shares : List ℕ
  all-shares = wire_shares role c triples far shares

  -- a run has the shares of the wires of all gates passed, and room for the others
  pub record Has (r : StepState) : Type 0 where
    pub same : Same (c.inputs + r.gate) r.wires all-shares
    pub room : c.inputs + length c.gates ≤ length r.wires

  -- the wires with gate i's share
  with_gate : (g : Gate) (i x : ℕ) (wires : List ℕ) → i < length c.gates → gate_at c i ≡ g
      → Same (c.inputs + i) wires all-shares → c.inputs + length c.gates ≤ length wires
      → x ≡ share_at role c triples far i g wires
      → Same (c.inputs + (i + 1)) (set wires (c.inputs + i) x) all-shares
  with_gate g i x wires h e same room share =
      subst (λ (n : ℕ). Same n (set wires (c.inputs + i) x) all-shares) {x = c.inputs + i + 1} {y = c.inputs + (i + 1)} (omega arith)
      (same_more (c.inputs + i) x wires all-shares same (omega arith)
      (share
      ∙ share-same c i (c.inputs + i) wires all-shares triples triples same role far far g e
      (subst (GateBelow (c.inputs + i)) e (below_at c.gates c.inputs i ok h)) (λ _. (refl, refl))
      ∙ ap (λ (z : Gate). share_at role c triples far i z all-shares) (sym e)
      ∙ sym (shares_hold role c triples far shares one_each ok i h)))

  -- from gate i to the next AND or the end
  has-run : (gs : List Gate) (i : ℕ) (wires : List ℕ) → drop i c.gates ≡ gs
      → Same (c.inputs + i) wires all-shares → c.inputs + length c.gates ≤ length wires
      → Has (run_on role c.inputs gs i wires)
  unfolding run_on share_at
  has-run [] i wires left same room = record { same = same; room = room }
  has-run (Xor a b ∷ gs) i wires left same room =
      has-run gs (i + 1) (set wires (c.inputs + i) (bit_xor (get_or wires a 0) (get_or wires b 0))) (tail_at c.gates i left)
      (with_gate (Xor a b) i _ wires (omega (arith, length-drop i c.gates, ap length left)) (head_at c.gates i left (Not 0)) same room refl)
      (simp length-set room)
  has-run (And a b ∷ gs) i wires left same room = record { same = same; room = room }
  has-run (Not a ∷ gs) i wires left same room =
      has-run gs (i + 1) (set wires (c.inputs + i) (flipped role (get_or wires a 0))) (tail_at c.gates i left)
      (with_gate (Not a) i _ wires (omega (arith, length-drop i c.gates, ap length left)) (head_at c.gates i left (Not 0)) same room refl)
      (simp length-set room)

  -- a fresh run
  has-fresh : c.inputs + length c.gates ≤ most_wires → Has (advance role c 0 (fresh_wires shares))
  has-fresh few =
      has-run c.gates 0 (fresh_wires shares) refl
      (λ w h. fresh_at shares w (omega arith) ∙ sym (shares_keep role c triples far shares one_each ok w (omega arith)))
      (omega (arith, fresh-length shares (omega arith)))

  -- a run that waits, with the far bits of its AND
  and-share : (g : Gate) (i : ℕ) (wires : List ℕ) → is_and g ≡ true → share_with_far role c triples wires i (far (ands_before c i)) ≡ share_at role c triples far i g wires
  unfolding share_at
  and-share g i wires e = ap (λ (x : Gate). share_at role c triples far i x wires) (sym (and_is g e))

  has-and : (r : StepState) (x : ℕ) → is_and (gate_at c r.gate) ≡ true → x ≡ share_with_far role c triples r.wires r.gate (far (ands_before c r.gate)) → Has r
      → Has (advance role c (r.gate + 1) (set r.wires (c.inputs + r.gate) x))
  has-and r x a e has =
      has-run (drop (r.gate + 1) c.gates) (r.gate + 1) (set r.wires (c.inputs + r.gate) x) refl
      (with_gate (gate_at c r.gate) r.gate x r.wires (and-inside c r.gate a) refl has.same has.room
      (e ∙ and-share (gate_at c r.gate) r.gate r.wires a))
      (simp length-set has.room)

-- ---- a run is a transcript

-- an end's accepted steps, its own things unaltered
module _ (circuit : List ℕ) (c : Circuit) (read : read_circuit circuit ≡ Whole c) (role : ℕ) (shares triples : List ℕ) (calls : List StepLent)
    (own : Unaltered role circuit shares triples (steps_of calls)) where
  pub on-circuit : OnCircuit circuit (steps_of calls)
  on-circuit k m e = (own k m e).own-circuit

  -- what accepted step k had and left
  pub record Stood (k : ℕ) (m : StepMade) : Type 0 where
    pub gave : m.gave ≡ accepted_step c m.got m.gave.state
    pub one_each : length shares ≡ c.inputs
    pub share-bits : (w : ℕ) → get_or shares w 0 ≤ 1
    pub triple-bits : (w : ℕ) → get_or triples w 0 ≤ 1
    pub enough : ands_in c.gates * 3 ≤ length triples

  of_took : (k : ℕ) (m : StepMade) → IsStep (steps_of calls) k m → (s : StepState) → m.gave ≡ step m.got s → Took c m.got s → Stood k m
  of_took k m e s g t =
      let o = own k m e in
      record {
        gave = g ∙ took_gave t ∙ ap (λ (x : StepOutcome). accepted_step c m.got x.state) (sym g);
        one_each = ap length (sym o.own-shares) ∙ t.met.all.0;
        share-bits = λ w. subst (λ (l : List ℕ). get_or l w 0 ≤ 1) o.own-shares (share-bits t w);
        triple-bits = λ w. subst (λ (l : List ℕ). get_or l w 0 ≤ 1) o.own-triples (triple-bits t w);
        enough = omega (arith, ap length o.own-triples, t.met.all);
      }

  pub stood : (k : ℕ) (m : StepMade) → IsStep (steps_of calls) k m → Stood k m
  stood k m e = let t = had_some step_laws fresh calls circuit read on-circuit k m e in of_took k m e t.0 t.1 t.2

  pub ok : AdmittedCircuit c
  ok = admitted circuit c read

  -- the far bits that it got, and the bits that it sent, by AND
  abbrev far : BitsByAnd
  far = far_in_steps (steps_of calls)

  abbrev sent : BitsByAnd
  sent = sent_in_steps (steps_of calls)

  -- the shares of all wires by them
  abbrev W : List ℕ
  W = wire_shares role c triples far shares

  -- what a state has of them
  abbrev Passed : length shares ≡ c.inputs → StepState → Type 0
  Passed one_each r = Has role c triples far shares one_each ok.gates r

  -- the state after accepted step k has the shares of the wires of all gates passed
  module _ (one_each : length shares ≡ c.inputs) where
    after_wait : (k : ℕ) (a m : StepMade) → IsStep (steps_of calls) k a → IsStep (steps_of calls) (suc k) m → Standing c 0 k a.gave.state
        → Passed one_each a.gave.state → Passed one_each m.gave.state
    unfolding with_and waiting_share share_with_far
    after_wait k a m e f (waiting one l h and n) has =
        let t = next_had step_laws fresh calls circuit read on-circuit k e f in
        let o = own (suc k) m f in
        let r : StepState = a.gave.state in
        subst (Passed one_each)
        (sym (ap (λ (x : StepOutcome). x.state) t.0 ∙ took_state t.1 ∙ run-waits c m.got r one ∙ rw (o.own-role, o.own-triples)))
        (has-and role c triples far shares one_each ok.gates r _ and
        (ap (share_with_far role c triples r.wires r.gate)
        (sym (ap far n ∙ made_at (λ (x : StepMade). (x.got.far_first, x.got.far_second)) (0, 0) (steps_of calls) (suc k) f))) has)
    after_wait k a m e f (finished two q h) has =
        let t = next_had step_laws fresh calls circuit read on-circuit k e f in
        subst (Passed one_each)
        (sym (ap (λ (x : StepOutcome). x.state) t.0 ∙ took_state t.1 ∙ run_ends c m.got a.gave.state two)) has

    pub has-shares : (k : ℕ) (m : StepMade) → IsStep (steps_of calls) k m → Passed one_each m.gave.state
    has-shares zero m e =
        let t = first_had step_laws fresh calls circuit read on-circuit e in
        let o = own 0 m e in
        subst (Passed one_each)
        (sym (ap (λ (x : StepOutcome). x.state) t.0 ∙ took_state t.1 ∙ run-fresh c m.got fresh phase-fresh
        ∙ ap₂ (λ (r : ℕ) (l : List ℕ). advance r c 0 (fresh_wires l)) o.own-role o.own-shares))
        (has-fresh role c triples far shares one_each ok.gates ok.wires)
    has-shares (suc k) m e =
        let b = call_before k (steps_of calls) e in
        after_wait k b.0 m b.1 e (stands circuit c read calls on-circuit k b.0 b.1) (has-shares k b.0 b.1)

  -- accepted step k, where it waits, sends the transcript's bits for the AND with k ANDs before it
  pub step-sends : (k : ℕ) (m : StepMade) → IsStep (steps_of calls) k m → (i : ℕ) → is_and (gate_at c i) ≡ true → ands_before c i ≡ k
      → (m.gave.first_bit, m.gave.second_bit) ≡ masked_bits role c triples far shares i
  step-sends k m e i a j = of (stands circuit c read calls on-circuit k m e)
    where
      of : Standing c 0 k m.gave.state → (m.gave.first_bit, m.gave.second_bit) ≡ masked_bits role c triples far shares i
      of (waiting one l h and n) =
          let r : StepState = m.gave.state in
          let s = stood k m e in
          let g = s.gave ∙ accepted-waits c m.got r one in
          let o = (own k m e).own-triples in
          let b = masked_same c r.gate (c.inputs + r.gate) r.wires W triples triples
          (has-shares s.one_each k m e).same and (below_at c.gates c.inputs r.gate ok.gates h) refl in
          ap₂ (λ (x y : ℕ). (x, y))
          (ap (λ (x : StepOutcome). x.first_bit) g ∙ ap (λ (t : List ℕ). masked_first c t r.wires r.gate) o ∙ b.0)
          (ap (λ (x : StepOutcome). x.second_bit) g ∙ ap (λ (t : List ℕ). masked_second c t r.wires r.gate) o ∙ b.1)
          ∙ ap (masked_bits role c triples far shares) (and_one c r.gate i and a (n ∙ sym j))
      of (finished two q h) = absurd (omega (arith, and_before c i a))

  -- a finished run has passed all ANDs, and has the shares of all wires
  module _ (k : ℕ) (m : StepMade) (e : IsStep (steps_of calls) k m) (two : m.gave.state.phase ≡ 2) where
    pub late : ands_in c.gates ≤ k
    late = split k (ands_in c.gates) (λ h. absurd (let z = (finishes circuit c read calls on-circuit k m e).0 h in omega arith)) (λ h. h)

    pub has_all : Same (c.inputs + length c.gates) m.gave.state.wires W
    has_all = of (stands circuit c read calls on-circuit k m e)
      where
        of : Standing c 0 k m.gave.state → Same (c.inputs + length c.gates) m.gave.state.wires W
        of (waiting one l h and n) = absurd (omega arith)
        of (finished p q h) =
            subst (λ (n : ℕ). Same (c.inputs + n) m.gave.state.wires W) q (has-shares (stood k m e).one_each k m e).same

    -- it is a transcript
    pub of_steps : Transcript role c shares triples far sent (written_by m.gave)
    of_steps =
        let s = stood k m e in
        record {
          one_each = s.one_each;
          share-bits = s.share-bits;
          triple-bits = s.triple-bits;
          written =
              ap written_by s.gave ∙ ends-written c m.got m.gave.state (λ z. omega arith)
              ∙ outputs-same (c.inputs + length c.gates) m.gave.state.wires W c.outputs has_all ok.output_wires;
          sends = λ i a.
              let b = call_at k (ands_before c i) (steps_of calls) e (omega (arith, late, and_before c i a)) in
              made_at (λ (x : StepMade). (x.gave.first_bit, x.gave.second_bit)) (0, 0) (steps_of calls) (ands_before c i) b.1
              ∙ step-sends (ands_before c i) b.0 b.1 i a refl;
        }

-- ---- both ends

-- each AND got the bits that the far end sent for it
pub received : (circuit : List ℕ) (c : Circuit) → read_circuit circuit ≡ Whole c → (calls far : List StepLent) → OnCircuit circuit (steps_of calls)
    → Receives (steps_of calls) (steps_of far) → (k n : ℕ) (m f : StepMade) → IsStep (steps_of calls) k m → IsStep (steps_of far) n f
    → ands_in c.gates ≤ k → ands_in c.gates ≤ n → (j : ℕ) → j < ands_in c.gates → far_in_steps (steps_of calls) j ≡ sent_in_steps (steps_of far) j
received circuit c read calls far on receives k n m f e g h h' j l =
    let b = call_at k j (steps_of calls) e (omega arith) in
    let a = call_at k (suc j) (steps_of calls) e (omega arith) in
    let d = call_at n j (steps_of far) g (omega arith) in
    let r = receives j b.0 a.0 d.0 b.1 ((finishes circuit c read calls on j b.0 b.1).0 l) a.1 d.1 in
    made_at (λ (x : StepMade). (x.got.far_first, x.got.far_second)) (0, 0) (steps_of calls) (suc j) a.1
    ∙ ap₂ (λ (x y : ℕ). (x, y)) r.0 r.1
    ∙ sym (made_at (λ (x : StepMade). (x.gave.first_bit, x.gave.second_bit)) (0, 0) (steps_of far) j d.1)

-- document 02, 9: the claim about every two runs
pub evaluation : Evaluation
evaluation circuit c read calls₁ calls₂ shares₁ triples₁ shares₂ triples₂ ends matching k₁ k₂ m₁ m₂ e₁ e₂ two₁ two₂ =
    let own₁ = ends.role_1 in
    let own₂ = ends.role_2 in
    let on₁ = on-circuit circuit c read 1 shares₁ triples₁ calls₁ own₁ in
    let on₂ = on-circuit circuit c read 2 shares₂ triples₂ calls₂ own₂ in
    let late₁ = late circuit c read 1 shares₁ triples₁ calls₁ own₁ k₁ m₁ e₁ two₁ in
    let late₂ = late circuit c read 2 shares₂ triples₂ calls₂ own₂ k₂ m₂ e₂ two₂ in
    joined (admitted circuit c read)
    (of_steps circuit c read 1 shares₁ triples₁ calls₁ own₁ k₁ m₁ e₁ two₁)
    (of_steps circuit c read 2 shares₂ triples₂ calls₂ own₂ k₂ m₂ e₂ two₂)
    (λ i a. received circuit c read calls₁ calls₂ on₁ ends.to_1 k₁ k₂ m₁ m₂ e₁ e₂ late₁ late₂ (ands_before c i) (and_before c i a))
    (λ i a. received circuit c read calls₂ calls₁ on₂ ends.to_2 k₂ k₁ m₂ m₁ e₂ e₁ late₂ late₁ (ands_before c i) (and_before c i a))
    matching
