-- `circuit_round::passing::pass_gates` meets its contract: one law for an AND, and one for another gate. Assumes nothing.
use Prim.Native.Nat.{◌+◌}
use mathlib.Core.Bool.{Bool}
use mathlib.Core.Path.{◌≡◌, sym, ap, ◌∙◌}
use native.Mathlib.Nat.{add-zero}
use Rattle.algebra.specs.Choice.{choose}
use Rattle.circuit.proofs.Ands.{byte_of, no_and}
use Rattle.circuit.specs.Content.{Gate, And, is_and}
use Rattle.circuit.specs.Inner.GateNumbers.{gate_of}
use Rattle.circuit_round.proofs.Passes.{passes-start, passes-inside, passes-below, passes-has, passes-puts, passes_and, passes_other, passes_done}
use Rattle.circuit_round.proofs.passing.pass_gates.Goals as goal
use Rattle.circuit_round.proofs.passing.pass_gates.Goals.{in-And, in_default}

pub loop-wire-init : goal.loop-wire-init
loop-wire-init c = (
  tt,
  tt,
  rw c.into_iter-wire-iterator.ensures.into_iter_gives (passes-start _ _ c.args.round.circuit.read c.requires c.gates-wire-items.ensures),
)

pub bounds-wires-wire : goal.bounds-wires-wire
bounds-wires-wire c = passes-inside c.args.round.circuit.read c.requires c.loop-wire.invariant.2 c.in-Some.ensures.steps

pub byte_after-after-requires-clause-below : goal.byte_after-after-requires-clause-below
byte_after-after-requires-clause-below c = passes-below c.args.round.circuit.read c.requires c.loop-wire.invariant.2 c.in-Some.ensures.steps

pub byte_after-after-requires-clause-has : goal.byte_after-after-requires-clause-has
byte_after-after-requires-clause-has c = passes-has c.args.round.circuit.read c.requires c.loop-wire.invariant.2 c.in-Some.ensures.steps

pub put_bits-place-requires : goal.put_bits-place-requires
put_bits-place-requires c =
    passes-puts c.args.round.circuit.read c.requires c.loop-wire.invariant.2 c.in-Some.ensures.steps c.byte_after-after.result
    (ap (λ g. is_and (gate_of g)) c.in-And.is)

pub loop-wire-preserved : goal.loop-wire-preserved
loop-wire-preserved c =
    let gate = c.in-Some.gate in
    let waited = c.from-passed.ensures ∙ byte_of _ in (
      tt,
      tt,
      elim c.match-gate.branch [
        | in-And w ↦
            let is : gate_of gate ≡ And w.in-And.a w.in-And.b = ap gate_of w.in-And.is in
            passes_and c.args.round.circuit.read c.requires c.loop-wire.invariant.2 c.in-Some.ensures.steps c.byte_after-after.ensures
            waited (w.ands-is ∙ ap (λ (g : Gate). c.loop-wire.ands + choose (is_and g) 1 0) (sym is)) w.in-And.a w.in-And.b is
            (w.place-is ∙ w.put_bits-place.ensures.0) (w.bits_out-is ∙ w.put_bits-place.ensures.1)
        | in_default w ↦
            let other = no_and gate w.in_default.not-And in
            passes_other c.args.round.circuit.read c.requires c.loop-wire.invariant.2 c.in-Some.ensures.steps c.byte_after-after.ensures
            waited (w.ands-is ∙ sym (add-zero c.loop-wire.ands) ∙ ap (λ (b : Bool). c.loop-wire.ands + choose b 1 0) (sym other)) other w.place-is w.bits_out-is
      ],
    )

pub returns : goal.returns
returns c = passes_done c.args.round.circuit.read c.requires c.loop-wire.invariant.2 c.in-None.ensures.steps.0
