-- `rows::walked::walk`: the sums are those of the terms below `i`, which may pass the last by one.
use Rattle.std.proofs.Common.{◌+◌, ◌≤◌}
use Rattle.rows.specs.Inner.Sums.{terms_to}
use Rattle.rows.specs.Inner.Walked.{Walked}
use Rattle.rows.proofs.walked.walk.Given as goal

abbrev pub invariant-loop-i : goal.invariant-loop-i
invariant-loop-i g l = (l.i ≤ l.code.shape.terms + 1) × Walked (g.V.Vectors.Added l.vectors) l.code.keys.now l.code.shape l.x l.fn.start (terms_to l.code.shape l.i) l.sums
