-- The call that forms an end's triples (document 02, 6): from everything lent to everything that stands on return, the input
-- slices too. It tests 3 (lengths not of one count of outputs), 13, 8 (a choice above 1), in that order.
use Rattle.std.specs.Prelude.{◌≡◌, ◌↔◌, List, [], ◌∷◌, ℕ, ◌*◌, length}
use Rattle.algebra.specs.Coding.{over}
use Rattle.answer.specs.Numbers.{bad_length, not_element, buffer_short}
use Rattle.answer.specs.Tests.{Test, ◌is◌, ◌at_most◌, all_at_most, ◌or◌, AllMet}
use Rattle.answer.specs.Outcome.{Outcome, answered, refused_one, wrote}
use Rattle.pads.specs.Triples.Triple.{triple_bytes, triple_of}

-- what is lent: the choices and the pads of the first pairing, the pairs of pads of the second, and the output buffer
pub record TriplesLent : Type 0 where
  pub choices : List ℕ
  pub pads : List ℕ
  pub pad_pairs : List ℕ
  pub triples : List ℕ

abbrev pub lent_triples : List ℕ → List ℕ → List ℕ → List ℕ → TriplesLent
lent_triples choices pads pad_pairs triples = record { choices = choices; pads = pads; pad_pairs = pad_pairs; triples = triples }

-- its tests: for c choices, a byte each, 16 c bytes of pads and 32 c of pairs of pads, and room is asked for 3 c
abbrev pub triples_tests : List ℕ → List ℕ → List ℕ → ℕ → List Test
triples_tests choices pads pad_pairs room =
    length pads is 16 * length choices or bad_length
    ∷ length pad_pairs is 32 * length choices or bad_length
    ∷ 3 * length choices at_most room or buffer_short
    ∷ all_at_most 1 choices or not_element
    ∷ []

-- the call: three bytes an output
unfoldable pub triples : TriplesLent → Outcome ℕ TriplesLent
triples l =
    answered (triples_tests l.choices l.pads l.pad_pairs (length l.triples)) (refused_one l)
    (wrote (3 * length l.choices)
    (lent_triples l.choices l.pads l.pad_pairs
    (over triple_bytes (length l.choices) (triple_of l.choices l.pads l.pad_pairs) l.triples)))

-- the call returns 0 exactly if its tests are all met
abbrev pub Accepts : Type 0
Accepts = (l : TriplesLent) → AllMet (triples_tests l.choices l.pads l.pad_pairs (length l.triples)) ↔ (triples l).number ≡ 0
