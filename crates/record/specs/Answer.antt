-- What the result of reading a record stands for (document 01, 'Numbers of the calls'): its values where the record is accepted, else the
-- number of its refusal.
use Rattle.std.specs.Prelude.{ℕ, ◌-◌, List, Result, Ok, Err}
use Rattle.answer.specs.declared.Refusal.{Refusal}
use Rattle.answer.specs.Refused.{number_of}
use Rattle.number.specs.Reading.{Reading, Whole, Refused, Parsed, part}
use Rattle.record.specs.Content.{Head}
use Rattle.record.specs.declared.Layout.{Layout}

-- the head that a layout's numbers give: before the body stand the 16 bytes of the label, and before those the 16 of the code key
abbrev pub head_of : List ℕ → Layout → Head
head_of s f =
    record {
      field = f.field;
      depth = f.depth;
      branch_bits = f.branch_bits;
      trees = f.trees;
      terms = f.terms;
      outputs = f.outputs;
      code_key = part s (f.body - 32) 16;
      label = part s (f.body - 16) 16;
    }

-- `Ok` is accepted, with the head and the place after it, where the body begins; `Err` is refused with its number
abbrev pub record_read : List ℕ → Result Layout Refusal → Parsed Head
record_read s (Ok f) = Whole (head_of s f, f.body)
record_read s (Err refusal) = Refused (number_of refusal)

-- the answer to a whole record: what was read of its head, unless the record is refused
abbrev pub head_if_whole : {A : Type 0} → Reading A → Parsed Head → Parsed Head
head_if_whole (Whole x) head = head
head_if_whole (Refused k) head = Refused k
