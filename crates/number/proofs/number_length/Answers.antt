-- `number::number_length` meets its contract, by cases of the number. Assumes nothing.
use Rattle.number.proofs.Steps.{one, two, three}
use Rattle.number.proofs.number_length.Goals as goal

pub returns-then-n-lt128 : goal.returns-then-n-lt128
returns-then-n-lt128 c = search one

pub returns-then-n-lt16384 : goal.returns-then-n-lt16384
returns-then-n-lt16384 c = search two

pub returns : goal.returns
returns c = search three
