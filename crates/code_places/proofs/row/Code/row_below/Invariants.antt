-- `code_places::row::Code::row_below`: the words at the places of the terms before `i` are below the bound.
use mathlib.Core.Path.{◌≡◌}
use mathlib.Core.Bool.{true}
use Rattle.aes128.specs.Inner.Words.{round_keys}
use Rattle.code.specs.Inner.Used.{terms_below}
use Rattle.code_places.proofs.row.Code.row_below.Given as goal

abbrev pub invariant-loop-i : goal.invariant-loop-i
invariant-loop-i l = terms_below l.bound l.words (round_keys l.self.keys.now) l.self.shape l.x l.i ≡ true
