-- `record_head::head::read_branch` meets its contract: a size up to 3, then its test. Assumes nothing.
use Rattle.std.proofs.Common.{rules, ◌%◌, ◌≤◌, eqb}
use Rattle.std.proofs.lemmas.Result.{IfOk-weaker}
use Rattle.number.proofs.Tests.{tested_number}
use Rattle.record.proofs.Heads.{size-some}
use Rattle.record.specs.Reading.{read_branch}
use Rattle.record_head.proofs.head.read_branch.Goals as goal

pub tested-requires : goal.tested-requires
tested-requires c = IfOk-weaker _ (λ r. 1 ≤ r.0) _ (λ x h. search rules) (size-some 3 _ _ _ c.read_size.ensures)

pub returns : goal.returns
unfolding read_branch
returns c = rw (← c.read_size.ensures) (tested_number (λ g. eqb (c.args.depth % g) 0) _ _ _ c.tested.ensures (λ x b p. search rules))
