-- Which rounds are accepted, and that a run can go on. Assumes nothing.
use Prim.Native.Nat.{ℕ, ◌*◌, ◌≤◌}
use mathlib.Core.Path.{◌≡◌, sym, ap, ◌∙◌}
use native.Mathlib.Omega.{arith}
use lib.ListN.{length, get_or}
use Rattle.circuit.specs.Content.{ands_in}
use Rattle.circuit.specs.Reading.{read_circuit}
use Rattle.circuit_run.specs.Round.{RoundLent, waiting_in, round}
use Rattle.circuit_run.specs.declared.RoundState.{RoundState}
use Rattle.circuit_claims.proofs.RoundProgresses.{counted}
use Rattle.circuit_claims.proofs.CircuitCalls.{met_if, had}
use Rattle.circuit_claims.proofs.RoundChains.{round_laws, took_state}
use Rattle.circuit_claims.specs.RoundAcceptance.{RoundAcceptance}

goes_on : (l l' : RoundLent) (s : RoundState) → (round l s).number ≡ 0 → l'.circuit ≡ l.circuit → l'.role ≡ l.role → l'.shares ≡ l.shares
    → l'.triples ≡ l.triples → length l.output ≤ length l'.output → length l.bits ≤ length l'.bits
    → length l'.far ≡ (round l s).bits_written → ((k : ℕ) → get_or l'.far k 0 ≤ 1)
    → (round l' (round l s).state).number ≡ 0
goes_on l l' s e circuit role shares triples room space far bits =
    let t = had round_laws l s e in
    let m = t.1.met in
    let wide : length t.0.outputs ≤ length l'.output = omega (arith, m.all) in
    let long : 2 * ands_in t.0.gates ≤ length l'.bits = omega (arith, m.all) in
    let as_many : length l'.far ≡ 2 * waiting_in t.0 (round l s).state.wires =
    far ∙ counted t.1 ∙ ap (λ (r : RoundState). 2 * waiting_in t.0 r.wires) (sym (took_state t.1)) in
    (met_if round_laws l' (round l s).state (ap read_circuit circuit ∙ t.1.read)).0 (rw (shares, triples, role) (record { all = search depth 12 }))

-- circuits in rounds: which rounds are accepted
pub acceptance : RoundAcceptance
acceptance = record { accepts = λ c l s f. met_if round_laws l s f; goes_on = goes_on }
