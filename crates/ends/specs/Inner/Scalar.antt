-- Inner: no promise cites this file. An accepted scalar record by its numbers: its content stands at the places that they give.
use Rattle.std.specs.Prelude.{◌≡◌, List, ℕ, ◌+◌, ◌*◌, ◌≤◌, length}
use Rattle.field.specs.Bytes.{word_at}
use Rattle.number.specs.Reading.{Whole}
use Rattle.record.specs.Content.{ScalarPart}
use Rattle.record.specs.Reading.{items, block_at, read_scalar}
use Rattle.record.specs.Answer.{head_of}
use Rattle.record.specs.declared.Layout.{Layout}
use Rattle.window.specs.Inner.Sizes.{Sizes}
use Rattle.field.specs.Kind.{element_words}

abbrev pub roots_at : Layout → ℕ
roots_at f = f.body + 8 * element_words f.field

-- the content of an accepted record
abbrev pub content_of : List ℕ → Layout → ScalarPart
content_of s f =
    record {
      head = head_of s f;
      delta = items word_at 8 s f.body (element_words f.field);
      roots = items block_at 16 s (roots_at f) f.trees;
    }

-- what a record that was accepted is known to be
pub record Ready (s : List ℕ) (f : Layout) : Type 0 where
  pub read : read_scalar s ≡ Whole (content_of s f)
  pub sizes : Sizes s (head_of s f) f.body
  pub room : roots_at f + 16 * f.trees ≤ length s
