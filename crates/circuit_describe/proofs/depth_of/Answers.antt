-- `circuit_describe::depth_of` meets its contract: one law for each goal. Assumes nothing.
use Rattle.circuit_describe.proofs.Levels.{depths-start, wires-small, depths-next, depth_is, depth-most}
use Rattle.circuit_describe.proofs.depth_of.Goals as goal

pub loop-wire-init : goal.loop-wire-init
loop-wire-init c = (tt, tt, rw c.into_iter-wire-iterator.ensures.into_iter_gives (depths-start c.args.circuit.read c.gates-wire-items.ensures))

pub level_of-level-requires : goal.level_of-level-requires
level_of-level-requires c = wires-small c.args.circuit.read c.loop-wire.invariant.2 c.in-Some.ensures.steps

pub loop-wire-preserved : goal.loop-wire-preserved
loop-wire-preserved c = (
  tt,
  tt,
  depths-next c.args.circuit.read c.loop-wire.invariant.2 c.in-Some.ensures.steps c.level_of-level.ensures c.max-most.ensures,
)

pub returns : goal.returns
returns c =
    rw c.from.ensures (
      depth_is c.args.circuit.read c.loop-wire.invariant.2 c.in-None.ensures.steps.0,
      depth-most c.args.circuit.read c.loop-wire.invariant.2,
    )
