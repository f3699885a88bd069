-- The loop's invariant of `ends_calls::noise_trees::write_trees`: the noise values and the trees that were passed are in place, and the trees
-- after them are what is left of the record.
use Rattle.ends_calls.proofs.Added.{Passing}
use Rattle.ends_calls.proofs.accepted.NoiseRecord.write_trees.Given as goal

abbrev pub invariant-loop-tree : goal.invariant-loop-tree
invariant-loop-tree l = Passing l.self l.cipher.keys.now l.tree-iterator l.noise l.v
