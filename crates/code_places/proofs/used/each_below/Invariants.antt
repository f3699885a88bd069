-- `code_places::used::each_below`: the words before the next are below the bound.
use mathlib.Core.Path.{◌≡◌}
use mathlib.Core.Bool.{true}
use Rattle.algebra.specs.Every.{every}
use Rattle.code.specs.Inner.Used.{word_below}
use Rattle.code_places.proofs.used.each_below.Given as goal

abbrev pub invariant-loop-word : goal.invariant-loop-word
invariant-loop-word l = every l.word-index (word_below l.bound l.words) ≡ true
