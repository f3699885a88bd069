-- `cases::lines::show` lends the front of its buffer: the line lies in the buffer, and is as long as it says.
use Rattle.page.proofs.Returned.{line_in, line-front}
use Rattle.cases.proofs.lines.show.Goals as goal

pub slice_bounds-out-end : goal.slice_bounds-out-end
slice_bounds-out-end g c = line_in _ _ _ c.line-length.ensures

pub slice_bounds-write_all-end : goal.slice_bounds-write_all-end
slice_bounds-write_all-end g c = line-front _ _ _ c.line-length.ensures
