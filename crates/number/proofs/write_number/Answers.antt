-- `number::write_number` meets its contract: there is room for each byte, and the bytes written are the definition's. Assumes nothing.
use Rattle.std.proofs.Common.{rules, length-set}
use Rattle.number.proofs.Steps.{wrote_1, wrote_2, wrote_3, room_1, room_2, room_3}
use Rattle.number.proofs.write_number.Goals as goal

pub bounds-buffer-at : goal.bounds-buffer-at
bounds-buffer-at c = search room_1

pub returns-then-n-lt128 : goal.returns-then-n-lt128
returns-then-n-lt128 c = wrote_1 _ _ _ c.if-n-lt128.true

pub bounds-buffer-at-2 : goal.bounds-buffer-at-2
bounds-buffer-at-2 c = search room_1

pub bounds-buffer-at-then-n-lt16384 : goal.bounds-buffer-at-then-n-lt16384
bounds-buffer-at-then-n-lt16384 c = search (rules, room_2)

pub returns-then-n-lt16384 : goal.returns-then-n-lt16384
returns-then-n-lt16384 c = wrote_2 _ _ _ c.if-n-lt128.false c.if-n-lt16384.true

pub bounds-buffer-at-3 : goal.bounds-buffer-at-3
bounds-buffer-at-3 c = search (rules, room_2)

pub bounds-buffer-at-4 : goal.bounds-buffer-at-4
bounds-buffer-at-4 c = simp length-set (search room_3)

pub returns : goal.returns
returns c = wrote_3 _ _ _ c.if-n-lt128.false c.if-n-lt16384.false
