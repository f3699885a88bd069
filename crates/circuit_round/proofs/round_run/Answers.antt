-- `circuit_round::round_run` meets its contract: one law for each return. Assumes nothing.
use mathlib.Core.Path.{refl}
use Rattle.std.proofs.Common.{rules}
use Rattle.answer.proofs.Refusals.{refusal-counts}
use Rattle.circuit_run.proofs.Rounds.{circuit-refused, tests_passed, round-refused, round-accepted}
use Rattle.circuit_round.proofs.round_run.Goals as goal

pub returns-in-Err : goal.returns-in-Err
returns-in-Err c =
    circuit-refused c.args.role c.args.shares.now c.args.triples.now c.args.output.now c.args.far_bits.now c.args.bits_out.now c.in-Err.ensures c.refused.ensures

pub returns-in-Err-check : goal.returns-in-Err-check
returns-in-Err-check c =
    rw (← c.in-Ok.ensures)
    (round-refused c.args.role c.args.shares.now c.args.triples.now c.args.output.now c.args.far_bits.now c.args.bits_out.now c.args.state c.in-Ok.circuit.read
    c.in-Err-check.ensures (refusal-counts c.in-Err-check.refusal) c.refused-in-Err-check.ensures)

pub accepted_round-lengths-requires : goal.accepted_round-lengths-requires
accepted_round-lengths-requires c =
    tests_passed c.in-Ok.circuit.layout c.args.role c.args.shares.now c.args.triples.now _ c.args.far_bits.now _ c.args.state.wires refl c.in_default.ensures (search rules)

pub returns : goal.returns
returns c =
    rw (← c.in-Ok.ensures)
    (round-accepted c.args.role c.args.shares.now c.args.triples.now c.args.output.now c.args.far_bits.now c.args.bits_out.now c.args.state c.in-Ok.circuit.read
    c.in_default.ensures refl c.accepted_round-lengths.ensures)
