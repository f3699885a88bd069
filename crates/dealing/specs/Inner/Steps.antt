-- Inner: no promise cites this file. A dealing's input by a head's numbers, and what the tests of its lists ask for.
use Rattle.std.specs.Prelude.{◌≡◌, List, [], ◌∷◌, ℕ, ◌-◌, ◌^◌, ◌≤◌, length}
use Rattle.answer.specs.Numbers.{buffer_short}
use Rattle.answer.specs.Tests.{Test, first_fault, ◌at_most◌, ◌or◌}
use Rattle.record.specs.Inner.Rising.{RisesFrom}
use Rattle.record.specs.Inner.Lengths.{Writable, noise_length, scalar_length}
use Rattle.record.specs.declared.Layout.{Layout}
use Rattle.dealing.specs.Deal.{deal_tests}
use Rattle.dealing.specs.Input.{Input, input_with}

-- the input of a head's numbers and the other parts
abbrev pub input_from : Layout → List ℕ → List ℕ → List ℕ → List ℕ → List ℕ → List ℕ → Input
input_from f roots positions values delta code_key label =
    input_with f.field f.depth f.branch_bits f.trees f.terms f.outputs roots positions values delta code_key label

-- the numbers of an input's head, which is written up to `body`
abbrev pub layout_for : Input → ℕ → Layout
layout_for I body =
    record {
      field = I.field;
      depth = I.depth;
      branch_bits = I.branch_bits;
      trees = I.trees;
      terms = I.terms;
      outputs = I.outputs;
      body = body;
    }

-- the lengths that the tests of positions, noise values and Δ ask for
pub record Lengths (f : Layout) (positions values delta : ℕ) : Type 0 where
  pub depth : f.depth ≤ 16
  pub position-count : positions ≡ f.trees
  pub value-count : values ≡ f.trees
  pub delta-bytes : delta ≡ 16

-- the tests of room for both records, from the head's numbers and the positions
abbrev pub measured_tests : Layout → List ℕ → ℕ → ℕ → List Test
measured_tests f positions noise_room scalar_room =
    noise_length f positions at_most noise_room or buffer_short ∷ scalar_length f at_most scalar_room or buffer_short ∷ []

-- the numbers of a head that can be written, and positions of so many trees at most that rise
pub record Measured (f : Layout) (positions : List ℕ) : Type 0 where
  pub writable : Writable f
  pub few : length positions ≤ 64
  pub rising : RisesFrom (2 ^ f.depth) 0 positions

-- the number that the call returns
unfoldable pub deal_number : Input → ℕ → ℕ → ℕ
deal_number I noise_room scalar_room = first_fault (deal_tests I noise_room scalar_room)
