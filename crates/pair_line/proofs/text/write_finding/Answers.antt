-- `pair_line::text::write_finding` meets its contract, case by case: the parts of a line fit, and are the line.
use Rattle.number.proofs.Places.{wrote_then, room_back}
use Rattle.record.proofs.Writes.{second-room, third_room, fourth_room}
use Rattle.pairing.specs.Line.{decimal, refused_text, checked_text, held_text, text}
use Rattle.pairing.specs.Verdict.{Refusal, TooLarge, Different, Checked}
use Rattle.pair_line.proofs.Lines.{line_room, as_printed, line_found}
use Rattle.pair_line.proofs.text.write_finding.Goals as goal

pub write_digits-requires : goal.write_digits-requires
unfolding text
write_digits-requires c =
    room_back refused_text (decimal c.number.result) c.write_bytes-at.ensures (line_room c.args.out.now c.requires (Refusal c.number.result))

pub returns-in-Err : goal.returns-in-Err
unfolding text
returns-in-Err c =
    rw (c.in-Err.is, ← c.number.ensures)
    (as_printed c.args.out.now c.requires (Refusal c.number.result) (wrote_then c.write_bytes-at.ensures c.write_digits.ensures))

pub returns-in-Ok-TooLarge : goal.returns-in-Ok-TooLarge
unfolding text
returns-in-Ok-TooLarge c = line_found c.args.found _ _ _ c.in-Ok-TooLarge.is (rw c.in-Ok-TooLarge.is at c.in-Ok-TooLarge.field-0-is) (as_printed c.args.out.now c.requires TooLarge c.write_bytes.ensures)

pub returns-in-Ok-Different : goal.returns-in-Ok-Different
unfolding text
returns-in-Ok-Different c = line_found c.args.found _ _ _ c.in-Ok-Different.is (rw c.in-Ok-Different.is at c.in-Ok-Different.field-0-is) (as_printed c.args.out.now c.requires Different c.write_bytes-in-Ok-Different.ensures)

pub write_digits-at-requires : goal.write_digits-at-requires
unfolding text
write_digits-at-requires c =
    second-room c.args.out.now 0 checked_text (decimal c.in-Ok-Checked.tried) held_text (decimal c.in-Ok-Checked.held)
    (line_room c.args.out.now c.requires (Checked c.in-Ok-Checked.tried c.in-Ok-Checked.held)) c.write_bytes-at-in-Ok-Checked.ensures

pub write_bytes-at-requires-in-Ok-Checked-2 : goal.write_bytes-at-requires-in-Ok-Checked-2
unfolding text
write_bytes-at-requires-in-Ok-Checked-2 c =
    third_room c.args.out.now 0 checked_text (decimal c.in-Ok-Checked.tried) held_text (decimal c.in-Ok-Checked.held)
    (line_room c.args.out.now c.requires (Checked c.in-Ok-Checked.tried c.in-Ok-Checked.held)) c.write_bytes-at-in-Ok-Checked.ensures c.write_digits-at.ensures

pub write_digits-requires-in-Ok-Checked : goal.write_digits-requires-in-Ok-Checked
unfolding text
write_digits-requires-in-Ok-Checked c =
    fourth_room c.args.out.now 0 checked_text (decimal c.in-Ok-Checked.tried) held_text (decimal c.in-Ok-Checked.held)
    (line_room c.args.out.now c.requires (Checked c.in-Ok-Checked.tried c.in-Ok-Checked.held)) c.write_bytes-at-in-Ok-Checked.ensures c.write_digits-at.ensures
    c.write_bytes-at-in-Ok-Checked-2.ensures

pub returns-in-Ok-Checked : goal.returns-in-Ok-Checked
unfolding text
returns-in-Ok-Checked c =
    line_found c.args.found _ _ _ c.in-Ok-Checked.is (rw c.in-Ok-Checked.is at c.in-Ok-Checked.field-0-is)
    (as_printed c.args.out.now c.requires (Checked c.in-Ok-Checked.tried c.in-Ok-Checked.held)
    (wrote_then c.write_bytes-at-in-Ok-Checked.ensures
    (wrote_then c.write_digits-at.ensures (wrote_then c.write_bytes-at-in-Ok-Checked-2.ensures c.write_digits-in-Ok-Checked.ensures))))
