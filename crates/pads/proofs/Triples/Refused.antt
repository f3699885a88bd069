-- What a refused call that forms triples gives: the number of its first fault, zero, and all that is lent as it was.
use mathlib.Core.Path.{◌≡◌}
use mathlib.Core.Bool.{false}
use mathlib.Core.List.{List}
use Prim.Native.Nat.{ℕ, ◌*◌, ◌<◌}
use lib.Dec.{eqb}
use lib.ListN.{length}
use Rattle.answer.specs.Numbers.{buffer_short}
use Rattle.answer.specs.Tests.{first_fault}
use Rattle.answer.specs.Outcome.{refused_one}
use Rattle.answer.proofs.Faults.{chain}
use Rattle.answer.proofs.Answers.{refused-one}
use Rattle.pads.specs.Triples.Call.{TriplesLent, triples_tests, triples}

pub triples-refused : (n : ℕ) (l : TriplesLent) → n ≡ first_fault (triples_tests l.choices l.pads l.pad_pairs (length l.triples))
    → eqb n 0 ≡ false → refused_one l n ≡ triples l
unfolding triples
triples-refused n l e h = refused-one l _ n e h _

-- a buffer that is too short gives 13, whatever the choices
pub room-first : (choices pads pad_pairs : List ℕ) (room : ℕ) → length pads ≡ 16 * length choices → length pad_pairs ≡ 32 * length choices
    → room < 3 * length choices → buffer_short ≡ first_fault (triples_tests choices pads pad_pairs room)
room-first choices pads pad_pairs room size sizes short = search chain depth 9
