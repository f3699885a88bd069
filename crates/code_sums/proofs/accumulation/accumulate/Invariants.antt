-- The first i values are accumulated.
use Rattle.field.specs.Inner.Parts.{group_of}
use Rattle.code_sums.proofs.InPlace.{Accumulated}
use Rattle.code_sums.proofs.accumulation.accumulate.Given as goal

abbrev pub invariant-loop-i : goal.invariant-loop-i
invariant-loop-i g l = let p = g.E.FieldElement.parts in Accumulated (group_of p) p.coding l.initial.words l.words l.total l.i
