-- `dealing_call::noise::write_trees`: the first i trees stand after the head. Assumes nothing.
use Rattle.dealing_call.proofs.Turns.{Turn}
use Rattle.dealing_call.proofs.noise.write_trees.Given as goal

abbrev pub invariant-loop-i : goal.invariant-loop-i
invariant-loop-i l =
    Turn l.input.layout l.input.roots.now l.input.positions.now l.input.values.now l.input.delta.now l.initial.out l.cipher.keys.now l.out l.at l.base l.i
