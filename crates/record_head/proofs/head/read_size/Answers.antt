-- `record_head::head::read_size` meets its contract: the number, then its test. Assumes nothing.
use Rattle.std.proofs.Common.{rules}
use Rattle.number.proofs.Tests.{tested_number}
use Rattle.record.specs.Admitted.{is_size}
use Rattle.record.specs.Reading.{read_size}
use Rattle.record_head.proofs.head.read_size.Goals as goal

pub returns : goal.returns
unfolding read_size
returns c =
    rw (← c.read_number.ensures) (tested_number (λ n. is_size c.args.top n) _ _ _ c.tested.ensures (λ x b p. search rules))
