-- Which rounds are accepted (circuits in rounds), and that a run can go on.
use Rattle.std.specs.Prelude.{ℕ, ◌≤◌, ◌↔◌, ◌≡◌, length, get_or}
use Rattle.answer.specs.Numbers.{accepted}
use Rattle.answer.specs.Tests.{AllMet}
use Rattle.circuit.specs.Content.{Circuit}
use Rattle.circuit.specs.Reading.{read_circuit}
use Rattle.circuit_run.specs.Round.{RoundLent, round_tests, round}
use Rattle.circuit_run.specs.declared.RoundState.{RoundState}
use Rattle.number.specs.Reading.{Whole}

pub record RoundAcceptance : Type 0 where
  -- a round on a circuit that is read is accepted exactly if every test is met
  pub accepts : (c : Circuit) (l : RoundLent) (s : RoundState) → read_circuit l.circuit ≡ Whole c
      → AllMet (round_tests c l s.wires) ↔ (round l s).number ≡ accepted
  -- after an accepted round the next one with the same circuit, role, shares and triples, room enough, and as many far bits as it
  -- wrote, is accepted
  pub goes_on : (l l' : RoundLent) (s : RoundState) → (round l s).number ≡ accepted → l'.circuit ≡ l.circuit → l'.role ≡ l.role → l'.shares ≡ l.shares
      → l'.triples ≡ l.triples → length l.output ≤ length l'.output → length l.bits ≤ length l'.bits
      → length l'.far ≡ (round l s).bits_written → ((k : ℕ) → get_or l'.far k 0 ≤ 1)
      → (round l' (round l s).state).number ≡ accepted
