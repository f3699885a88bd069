-- `code_places::used::each_below` meets its contract, word by word. Assumes nothing.
use Rattle.std.proofs.Common.{rules}
use Rattle.algebra.proofs.Every.{every-none}
use Rattle.code.proofs.Tested.{all_more, all_stop, all_done}
use Rattle.code_places.proofs.used.each_below.Goals as goal

pub loop-word-init : goal.loop-word-init
loop-word-init c = search (rules, every-none)

pub returns-then-bound-word : goal.returns-then-bound-word
returns-then-bound-word c = search all_stop

pub loop-word-preserved : goal.loop-word-preserved
loop-word-preserved c = search (rules, all_more)

pub returns : goal.returns
returns c = search all_done
