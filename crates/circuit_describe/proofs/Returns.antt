-- What the call returns: the circuit that was read, or the number that it is refused with. Assumes nothing.
use Prim.Native.Nat.{ℕ, ◌+◌}
use mathlib.Core.List.{List}
use mathlib.Core.Path.{◌≡◌, ap}
use Rattle.circuit.specs.Answer.{content, HasLayout}
use Rattle.circuit.specs.Levels.{depth}
use Rattle.circuit.specs.declared.Layout.{Layout}
use Rattle.circuit.specs.Reading.{read_circuit}
use Rattle.number.specs.Reading.{Refused}
use Rattle.number.proofs.Records.{read-refused, read_whole}
use Rattle.circuit_describe.specs.Describe.{answer_with, refused, description_of, describe_circuit}
use Rattle.circuit_describe.specs.declared.DescribedCircuit.{DescribedCircuit}

module _ (s : List ℕ) where
  pub circuit-refused : {k : ℕ} → read_circuit s ≡ Refused k → {a : DescribedCircuit} → a ≡ refused k → description_of a s ≡ describe_circuit s
  unfolding describe_circuit
  circuit-refused {k} e g = ap (λ (a : DescribedCircuit). description_of a s) (read-refused _ _ _ _ k e g)

  pub circuit-said : {f : Layout} → HasLayout s f → {n : ℕ} → n ≡ depth (content s)
      → description_of (answer_with 0 f.inputs f.gates f.outputs f.ands (n + 1)) s ≡ describe_circuit s
  unfolding describe_circuit
  circuit-said o d =
      ap (λ (a : DescribedCircuit). description_of a s)
      (read_whole _ _ _ _ (content s) o.whole (rw (o.inputs, o.gates, o.outputs, o.ands, d)))
