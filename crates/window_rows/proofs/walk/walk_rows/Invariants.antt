-- `window_rows::walk::walk_rows`: the outputs before `k` are written, the rest of both buffers is as it was, and `passed` is the test of
-- their rows.
use mathlib.Core.Path.{◌≡◌}
use lib.ListN.{length}
use Rattle.aes128.specs.Inner.Words.{round_keys}
use Rattle.window.specs.Inner.Written.{Filled, all_used}
use Rattle.window.proofs.Filled.{rows_to}
use Rattle.window_rows.proofs.walk.walk_rows.Given as goal

abbrev pub invariant-loop-k : goal.invariant-loop-k
invariant-loop-k l =
    (length l.u_out ≡ length l.initial.u_out) × (length l.out ≡ length l.initial.out)
    × (l.passed ≡ all_used (round_keys l.code.keys.now) l.code.shape (rows_to l.rows l.k) l.vectors)
    × Filled (round_keys l.code.keys.now) l.code.shape (rows_to l.rows l.k) l.vectors l.initial.u_out l.initial.out l.u_out l.out
