-- The loop's invariant of `ends_calls::scalar_trees::write_trees`: the trees before `i` are added.
use Rattle.ends_calls.proofs.Added.{Rooted}
use Rattle.ends_calls.proofs.accepted.ScalarRecord.write_trees.Given as goal

abbrev pub invariant-loop-i : goal.invariant-loop-i
invariant-loop-i l = Rooted l.self.source.now l.self.layout l.cipher.keys.now l.i l.w
