-- A finished run in rounds is a transcript, so what two runs have together is what two transcripts have. Assumes nothing.
use Prim.Native.Nat.{ℕ, suc, ◌+◌, ◌-◌, ◌≤◌}
use mathlib.Core.Bool.{true}
use mathlib.Core.List.{List, []}
use mathlib.Core.Path.{◌≡◌, sym, ap, ◌∙◌, subst}
use native.Mathlib.Omega.{arith}
use lib.ListN.{length, get_or}
use Rattle.circuit.proofs.Exact.{admitted}
use Rattle.circuit.proofs.Levels.{greatest-from}
use Rattle.circuit.specs.Admitted.{GatesBelow}
use Rattle.circuit.specs.Content.{Circuit, is_and}
use Rattle.circuit.specs.Levels.{levels, level_of}
use Rattle.circuit.specs.Reading.{read_circuit}
use Rattle.circuit.specs.Value.{at_wires}
use Rattle.circuit_run.proofs.RoundGates.{share-at}
use Rattle.circuit_run.specs.Round.{RoundLent, RoundOutcome, share_of, shares_in}
use Rattle.circuit_run.specs.Step.{gate_at, ands_before}
use Rattle.circuit_claims.proofs.AndGates.{and-inside, gate-of}
use Rattle.circuit_claims.proofs.Calls.{call_at, made_at}
use Rattle.circuit_claims.proofs.Joins.{joined}
use Rattle.circuit_claims.proofs.Transcripts.{outputs-same}
use Rattle.circuit_claims.specs.Transcript.{BitsByAnd, wire_shares, Transcript, pair_at, far_at_gate, sent_at_gate, far_in_rounds, sent_in_rounds}
use Rattle.number.specs.Reading.{Whole}
use Rattle.circuit_claims.proofs.RoundProgresses.{finished-outputs, progress}
use Rattle.circuit_claims.proofs.RoundChains.{round_laws, share-bits, triple-bits, one_each, took_bytes}
use Rattle.circuit_claims.proofs.CircuitCalls.{had_some}
use Rattle.circuit_claims.proofs.Stages.{and_wire, and_level}
use Rattle.circuit_claims.proofs.RoundTranscripts.{of_rounds}
use Rattle.circuit_claims.specs.RoundEvaluation.{UnalteredRounds, ReceivesRounds, RoundEvaluation}
use Rattle.circuit_claims.specs.Inner.ByAnd.{FarGot, ByFar}
use Rattle.circuit_claims.specs.RoundProgress.{RoundsOn}
use Rattle.circuit_claims.specs.RoundRuns.{fresh_state, RoundMade, rounds_of, IsRound, outputs_by, bits_by, Finished}
use Rattle.circuit_claims.specs.Same.{level_at, place_at}

-- the level of an AND is 1 or more
pub level_some : (c : Circuit) → GatesBelow c.inputs c.gates → (i : ℕ) → is_and (gate_at c i) ≡ true → 1 ≤ level_at c i
level_some c ok i a = omega (arith, and_level c ok (c.inputs + i) (omega (arith, and-inside c i a)) (and_wire c i ∙ a))

-- ---- a finished round

module _ (circuit : List ℕ) (c : Circuit) (read : read_circuit circuit ≡ Whole c) (calls : List RoundLent) (stays : RoundsOn circuit (rounds_of calls))
    (k : ℕ) (m : RoundMade) (e : IsRound (rounds_of calls) k m) (finished : Finished m.gave) where
  -- it is not before the round of any level
  pub levels_passed : (w : ℕ) → level_of c w ≤ k
  levels_passed w = omega (arith, (progress.stands circuit c read calls stays k m e).finished.0 finished, greatest-from (levels c) w)

  -- it wrote the shares of the output wires
  pub wrote : outputs_by m.gave ≡ at_wires (shares_in m.gave.state.wires) c.outputs
  wrote =
      let t = had_some round_laws fresh_state calls circuit read stays k m e in
      ap outputs_by t.1 ∙ finished-outputs t.2 (subst Finished t.1 finished)
      ∙ ap (λ (b : List ℕ). at_wires (shares_in b) c.outputs) (sym (ap (λ (o : RoundOutcome). o.state.wires) t.1 ∙ took_bytes t.2))

-- ---- a run is a transcript

of_byte : {byte share : ℕ} → byte ≡ 2 + share → share ≤ 1 → share_of byte ≡ share
of_byte e h = omega arith

module _ (circuit : List ℕ) (c : Circuit) (read : read_circuit circuit ≡ Whole c) (role : ℕ) (shares triples : List ℕ) (calls : List RoundLent)
    (own : UnalteredRounds role circuit shares triples (rounds_of calls)) where
  pub on-circuit : RoundsOn circuit (rounds_of calls)
  on-circuit k m e = (own k m e).own-circuit

  -- the far bits that it got
  pub far-got : FarGot c (rounds_of calls) (far_in_rounds c (rounds_of calls))
  far-got i a m e =
      ap (far_at_gate c (rounds_of calls)) (gate-of c.gates i a)
      ∙ ap (λ (l : List ℕ). pair_at l (place_at c i)) (made_at (λ (x : RoundMade). x.got.far) [] (rounds_of calls) (level_at c i) e)

  module _ (k : ℕ) (m : RoundMade) (e : IsRound (rounds_of calls) k m) (finished : Finished m.gave) where
    -- its outputs by far bits
    pub wrote-shares : (far : BitsByAnd) → ByFar role c shares triples far (rounds_of calls)
        → outputs_by m.gave ≡ at_wires (wire_shares role c triples far shares) c.outputs
    wrote-shares far by =
        wrote circuit c read calls on-circuit k m e finished
        ∙ outputs-same (c.inputs + length c.gates) (shares_in m.gave.state.wires) (wire_shares role c triples far shares) c.outputs
        (λ w h.
        let b = by.has k m e w h (levels_passed circuit c read calls on-circuit k m e finished w) in
        share-at m.gave.state.wires w ∙ of_byte b.0 b.1)
        (admitted circuit c read).output_wires

    pub transcript : ByFar role c shares triples (far_in_rounds c (rounds_of calls)) (rounds_of calls)
        → Transcript role c shares triples (far_in_rounds c (rounds_of calls)) (sent_in_rounds c (rounds_of calls)) (outputs_by m.gave)
    transcript by =
        let t = (had_some round_laws fresh_state calls circuit read on-circuit k m e).2 in
        let o = own k m e in
        record {
          one_each = ap length (sym o.own-shares) ∙ one_each t;
          share-bits = λ w. subst (λ (l : List ℕ). get_or l w 0 ≤ 1) o.own-shares (share-bits t w);
          triple-bits = λ w. subst (λ (l : List ℕ). get_or l w 0 ≤ 1) o.own-triples (triple-bits t w);
          written = wrote-shares (far_in_rounds c (rounds_of calls)) by;
          sends = λ i a.
              let some = level_some c (admitted circuit c read).gates i a in
              let passed = levels_passed circuit c read calls on-circuit k m e finished (c.inputs + i) in
              let b = call_at k (level_at c i - 1) (rounds_of calls) e (omega arith) in
              ap (sent_at_gate c (rounds_of calls)) (gate-of c.gates i a)
              ∙ ap (λ (l : List ℕ). pair_at l (place_at c i)) (made_at (λ (x : RoundMade). bits_by x.gave) [] (rounds_of calls) (level_at c i - 1) b.1)
              ∙ by.sends (level_at c i - 1) b.0 b.1 i a (omega arith);
        }

-- ---- both ends

-- each AND got the bits that the far end sent for it
pub received : (c : Circuit) (ok : GatesBelow c.inputs c.gates) (calls far : List RoundLent) → ReceivesRounds (rounds_of calls) (rounds_of far)
    → (k n : ℕ) (m f : RoundMade) → IsRound (rounds_of calls) k m → IsRound (rounds_of far) n f
    → ((w : ℕ) → level_of c w ≤ k) → ((w : ℕ) → level_of c w ≤ n)
    → (i : ℕ) → is_and (gate_at c i) ≡ true → far_in_rounds c (rounds_of calls) (ands_before c i) ≡ sent_in_rounds c (rounds_of far) (ands_before c i)
received c ok calls far receives k n m f e g late₁ late₂ i a =
    let some = level_some c ok i a in
    let x = call_at k (suc (level_at c i - 1)) (rounds_of calls) e (omega (arith, late₁ (c.inputs + i))) in
    let y = call_at n (level_at c i - 1) (rounds_of far) g (omega (arith, late₂ (c.inputs + i))) in
    let same : suc (level_at c i - 1) ≡ level_at c i = omega arith in
    ap (far_at_gate c (rounds_of calls)) (gate-of c.gates i a)
    ∙ ap (λ (l : List ℕ). pair_at l (place_at c i))
    (made_at (λ (z : RoundMade). z.got.far) [] (rounds_of calls) (level_at c i) (subst (λ (v : ℕ). IsRound (rounds_of calls) v x.0) same x.1)
    ∙ receives (level_at c i - 1) x.0 y.0 x.1 y.1
    ∙ sym (made_at (λ (z : RoundMade). bits_by z.gave) [] (rounds_of far) (level_at c i - 1) y.1))
    ∙ sym (ap (sent_at_gate c (rounds_of far)) (gate-of c.gates i a))

-- circuits in rounds: the claim about every two runs
pub evaluation : RoundEvaluation
evaluation circuit c read calls₁ calls₂ shares₁ triples₁ shares₂ triples₂ ends matching k₁ k₂ m₁ m₂ e₁ e₂ finished₁ finished₂ =
    let ok = admitted circuit c read in
    let own₁ = ends.role_1 in
    let own₂ = ends.role_2 in
    let got₁ = far-got circuit c read 1 shares₁ triples₁ calls₁ own₁ in
    let got₂ = far-got circuit c read 2 shares₂ triples₂ calls₂ own₂ in
    let late₁ = levels_passed circuit c read calls₁ (on-circuit circuit c read 1 shares₁ triples₁ calls₁ own₁) k₁ m₁ e₁ finished₁ in
    let late₂ = levels_passed circuit c read calls₂ (on-circuit circuit c read 2 shares₂ triples₂ calls₂ own₂) k₂ m₂ e₂ finished₂ in
    joined ok
    (transcript circuit c read 1 shares₁ triples₁ calls₁ own₁ k₁ m₁ e₁ finished₁ (of_rounds circuit c read 1 shares₁ triples₁ calls₁ own₁ _ got₁))
    (transcript circuit c read 2 shares₂ triples₂ calls₂ own₂ k₂ m₂ e₂ finished₂ (of_rounds circuit c read 2 shares₂ triples₂ calls₂ own₂ _ got₂))
    (received c ok.gates calls₁ calls₂ ends.to_1 k₁ k₂ m₁ m₂ e₁ e₂ late₁ late₂)
    (received c ok.gates calls₂ calls₁ ends.to_2 k₂ k₁ m₂ m₁ e₂ e₁ late₂ late₁)
    matching
