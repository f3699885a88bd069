-- `pair_line::text::write_digits` meets its contract: a digit alone, or the last one after the others.
use Rattle.std.proofs.Common.{arith}
use Rattle.pair_line.proofs.Digits.{none-room, one-room, none-wrote, one-wrote, others-room, last-room, more-wrote}
use Rattle.pair_line.proofs.text.+write_digits.Goals as goal

pub bounds-out-at : goal.bounds-out-at
bounds-out-at t c = none-room _ _ _ _ c.requires c.if-left-eq0.true

pub returns-then-left-eq0 : goal.returns-then-left-eq0
returns-then-left-eq0 t c = none-wrote _ _ _ _ c.if-left-eq0.true

pub bounds-out-at-then-x-lt10 : goal.bounds-out-at-then-x-lt10
bounds-out-at-then-x-lt10 t c = one-room _ _ _ _ c.requires c.if-x-lt10.true

pub returns-then-x-lt10 : goal.returns-then-x-lt10
returns-then-x-lt10 t c = one-wrote _ _ _ _ c.if-x-lt10.true

pub write_digits-end-requires : goal.write_digits-end-requires
write_digits-end-requires t c = (omega arith, others-room _ _ _ _ c.if-left-eq0.false c.if-x-lt10.false c.requires)

pub bounds-out-end : goal.bounds-out-end
bounds-out-end t c = last-room _ _ _ _ c.if-left-eq0.false c.if-x-lt10.false c.write_digits-end.ensures c.requires

pub overflow_add-result-2 : goal.overflow_add-result-2
overflow_add-result-2 t c =
    omega
    (arith, last-room c.args.out.now c.args.at c.args.left c.args.x c.if-left-eq0.false c.if-x-lt10.false c.write_digits-end.ensures c.requires)

pub returns : goal.returns
returns t c = more-wrote _ _ _ _ c.if-left-eq0.false c.if-x-lt10.false c.write_digits-end.ensures
