-- Inner: no promise cites this file. What the code reads stands for a record's fields.
use Rattle.std.specs.Prelude.{ℕ, ◌+◌, List, ◌≡◌, leb, length, get_or, Result, Ok, Err}
use Rattle.answer.specs.declared.Refusal.{Refusal}
use Rattle.answer.specs.Refused.{number_of}
use Rattle.field.specs.Bytes.{word_at}
use Rattle.field.specs.ByNumber.{element_of}
use Rattle.field.specs.declared.element.Element.{Element}
use Rattle.number.specs.Reading.{Reading, Whole, Refused, Parsed, choose}
use Rattle.record.specs.Content.{NoiseTree}
use Rattle.record.specs.declared.Tree.{Tree}
use Rattle.record.specs.Reading.{items, block_at}

-- a result as it is
abbrev pub reading_of : {A : Type 0} → Result A Refusal → Reading A
reading_of (Ok x) = Whole x
reading_of (Err refusal) = Refused (number_of refusal)

-- the place after a count of bytes that are not looked at; 10: record ends inside them
unfoldable pub skipped : ℕ → List ℕ → ℕ → Reading ℕ
skipped count s at = choose (leb (at + count) (length s)) (Whole (at + count)) (Refused 10)

-- a word, and the place after it; 10: record ends inside it
abbrev pub word_field : List ℕ → ℕ → Parsed ℕ
word_field s at = choose (leb (at + 8) (length s)) (Whole (word_at s at, at + 8)) (Refused 10)

-- the second word is 0 where an element has one
abbrev pub SecondIn : ℕ → Element → Type 0
SecondIn field e = e.high ≡ get_or (element_of field e.low e.high) 1 0

-- an element, and the place after it
abbrev pub element_read : ℕ → Result (Element × ℕ) Refusal → Parsed (List ℕ)
element_read field (Ok read) = Whole (element_of field read.0.low read.0.high, read.1)
element_read field (Err refusal) = Refused (number_of refusal)

-- the tree that its numbers give
abbrev pub tree_of : List ℕ → ℕ → ℕ → Tree → NoiseTree
tree_of s field beside k =
    record {
      position = k.position;
      value = k.value;
      correction = element_of field k.correction.low k.correction.high;
      siblings = items block_at 16 s k.siblings beside;
    }

-- a tree with so many siblings, and the place after it
abbrev pub tree_read : List ℕ → ℕ → ℕ → Result (Tree × ℕ) Refusal → Parsed NoiseTree
tree_read s field beside (Ok read) = Whole (tree_of s field beside read.0, read.1)
tree_read s field beside (Err refusal) = Refused (number_of refusal)
