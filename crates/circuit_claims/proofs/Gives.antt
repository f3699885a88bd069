-- What an accepted round writes, by the bytes that it leaves. Assumes nothing.
use Prim.Native.Nat.{ℕ, ◌*◌, ◌≤◌}
use mathlib.Core.List.{List, [], ◌∷◌}
use mathlib.Core.Path.{◌≡◌, refl, sym, ap, ◌∙◌, subst}
use native.Mathlib.Nat.{add-zero}
use native.Mathlib.Omega.{arith}
use lib.ListN.{length, get_or, take, drop, length-map}
use lib.Seq.{take_at}
use Rattle.circuit.specs.Content.{Circuit}
use Rattle.circuit.specs.Value.{at_wires}
use Rattle.circuit_run.proofs.RoundGates.{share-at}
use Rattle.circuit_run.specs.Round.{RoundLent, RoundOutcome, shares_in, waiting, waiting_in, bits_to_send, with_bits, with_outputs, accepted_round}
use Rattle.circuit_run.proofs.Bits.{xor-bit}
use Rattle.circuit_run.specs.Step.{masked_first, masked_second}
use Rattle.number.proofs.Places.{either}
use Rattle.circuit_claims.proofs.Counts.{sent-length, sent-bits}
use Rattle.circuit_claims.proofs.Reaches.{outputs-bits}
use Rattle.circuit_claims.proofs.RoundChains.{accepted-ends, accepted-waits}
use Rattle.circuit_claims.specs.RoundProgress.{Writes}
use Rattle.circuit_claims.specs.RoundRuns.{outputs_by, bits_by, Finished}

module _ (c : Circuit) (l : RoundLent) (bytes : List ℕ) where
  abbrev sent : List ℕ
  sent = bits_to_send c l.triples bytes

  abbrev o : RoundOutcome
  o = accepted_round c l bytes

  sent-count : length sent ≡ 2 * waiting_in c bytes
  sent-count =
      sent-length c l.triples bytes c.gates 0 ∙ ap (λ (n : ℕ). 2 * waiting (take (length c.gates) (drop n bytes))) (add-zero c.inputs)

  -- two bytes for each gate that waits
  pub count : o.bits_written ≡ 2 * waiting_in c bytes
  count =
      either (waiting_in c bytes) 0 (λ e. ap (λ (r : RoundOutcome). r.bits_written) (accepted-ends c l bytes e) ∙ omega (arith, e))
      (λ n. ap (λ (r : RoundOutcome). r.bits_written) (accepted-waits c l bytes n) ∙ sent-count)

  empty : (xs : List ℕ) → length xs ≡ 0 → [] ≡ xs
  empty [] e = refl
  empty (x ∷ xs) e = absurd (omega arith)

  pub bits_are : bits_by o ≡ sent
  unfolding with_bits
  bits_are =
      either (waiting_in c bytes) 0
      (λ e. ap bits_by (accepted-ends c l bytes e) ∙ empty sent (omega (arith, sent-count, e)))
      (λ n. ap bits_by (accepted-waits c l bytes n) ∙ take_at sent (drop (length sent) l.bits) (length sent) refl)

  number_is : o.number ≡ 0
  number_is =
      either (waiting_in c bytes) 0 (λ e. ap (λ (r : RoundOutcome). r.number) (accepted-ends c l bytes e))
      (λ n. ap (λ (r : RoundOutcome). r.number) (accepted-waits c l bytes n))

  pub none-waits_if : Finished o → waiting_in c bytes ≡ 0
  none-waits_if e = omega (arith, count, e.1)

  pub finished_if : waiting_in c bytes ≡ 0 → Finished o
  finished_if e = (number_is, omega (arith, count, e))

  pub outputs_are : Finished o → outputs_by o ≡ at_wires (shares_in bytes) c.outputs
  unfolding with_outputs
  outputs_are e =
      ap outputs_by (accepted-ends c l bytes (none-waits_if e))
      ∙ take_at (at_wires (shares_in bytes) c.outputs) (drop (length c.outputs) l.output) (length c.outputs) (length-map c.outputs _)

  no_outputs : (Finished o → ⊥) → o.written ≡ 0
  no_outputs n = ap (λ (r : RoundOutcome). r.written) (accepted-waits c l bytes (λ e. n (finished_if e)))

  all-outputs : Finished o → o.written ≡ length c.outputs
  all-outputs e = ap (λ (r : RoundOutcome). r.written) (accepted-ends c l bytes (none-waits_if e))

  share-bit : (w : ℕ) → get_or (shares_in bytes) w 0 ≤ 1
  share-bit w = omega (arith, share-at bytes w)

  pub writes : ((k : ℕ) → get_or l.triples k 0 ≤ 1) → Writes c o
  unfolding masked_first masked_second
  writes triples =
      record {
        unfinished = no_outputs;
        finished = all-outputs;
        bits-length = ap length bits_are ∙ sent-count ∙ sym count;
        outputs-length =
            either o.bits_written 0
            (λ e. ap length (outputs_are (number_is, e)) ∙ length-map c.outputs _ ∙ sym (all-outputs (number_is, e)))
            (λ n. ap (λ (k : ℕ). length (take k o.lent.output)) (no_outputs (λ f. n f.1)) ∙ sym (no_outputs (λ f. n f.1)));
        bits = λ i. subst (λ (b : List ℕ). get_or b i 0 ≤ 1) (sym bits_are)
            (sent-bits c l.triples bytes (λ n. (xor-bit (share-bit _) (triples _), xor-bit (share-bit _) (triples _))) c.gates 0 i);
        outputs = λ i.
            either o.bits_written 0
            (λ e. subst (λ (b : List ℕ). get_or b i 0 ≤ 1) (sym (outputs_are (number_is, e))) (outputs-bits (shares_in bytes) c.outputs share-bit i))
            (λ n. subst (λ (k : ℕ). get_or (take k o.lent.output) i 0 ≤ 1) (sym (no_outputs (λ f. n f.1))) (omega arith));
      }
