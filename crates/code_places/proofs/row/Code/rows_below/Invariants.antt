-- `code_places::row::Code::rows_below`: the words that the rows before `k` use are below the bound.
use mathlib.Core.Path.{◌≡◌}
use mathlib.Core.Bool.{true}
use Rattle.aes128.specs.Inner.Words.{round_keys}
use Rattle.code.specs.Inner.Used.{used_below}
use Rattle.code_places.proofs.row.Code.rows_below.Given as goal

abbrev pub invariant-loop-k : goal.invariant-loop-k
invariant-loop-k l = used_below l.bound l.words (round_keys l.self.keys.now) l.self.shape (record { first = l.window.first; count = l.k }) ≡ true
