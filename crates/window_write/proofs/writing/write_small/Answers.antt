-- `window_write::writing::write_small` meets its contract: one law for each end. Assumes nothing.
use Rattle.window.proofs.Tested.{noise-copied, scalar-copied}
use Rattle.window_write.proofs.writing.write_small.Goals as goal

pub returns-in-Noise : goal.returns-in-Noise
returns-in-Noise c =
    let told = rw c.in-Noise.is at c.in_ok-walk_rows.ensures.told in
    let filled = rw c.in-Noise.is at c.in_ok-walk_rows.ensures.filled in
    rw (c.in-Noise.is, c.copy_from_slice.ensures.after, c.copy_from_slice-in-Noise.ensures.after) (search noise-copied)

pub returns-in_default : goal.returns-in_default
returns-in_default c =
    let told = rw c.in_default.is at c.in_ok-walk_rows.ensures.told in
    let filled = rw c.in_default.is at c.in_ok-walk_rows.ensures.filled in
    rw (c.in_default.is, c.copy_from_slice.ensures.after) (search scalar-copied)
