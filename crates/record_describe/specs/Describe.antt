-- The call that describes a record: for one that its end would accept, its head; else that record's number and zeros. The end
-- byte says whose tests apply (document 01, 'Key records', 'Numbers of the calls'); an end byte of neither gives 9.
use Rattle.std.specs.Prelude.{◌||◌, List, ℕ, eqb, replicate}
use Rattle.answer.specs.Numbers.{accepted, wrong_end}
use Rattle.algebra.specs.Choice.{choose}
use Rattle.field.specs.Kind.{element_words}
use Rattle.number.specs.Reading.{Reading, Parsed, tested, read_byte, after_reading}
use Rattle.record.specs.Content.{Head}
use Rattle.record.specs.Reading.{read_noise, read_scalar}
use Rattle.window.specs.Head.{places}
use Rattle.record_describe.specs.declared.Described.{Described}

-- the head of an accepted record of an end: its field and sizes, N, the words of an element, and the 16 bytes of its label and of its
-- code key (circuits in rounds)
abbrev pub described_head : ℕ → Head → Described
described_head end h =
    record {
      number = accepted;
      end = end;
      field = h.field;
      depth = h.depth;
      branch_bits = h.branch_bits;
      trees = h.trees;
      terms = h.terms;
      outputs = h.outputs;
      leaves = places h;
      element_words = element_words h.field;
      label = h.label;
      code_key = h.code_key;
    }

-- a refused record: its number and zeros
abbrev pub refused : ℕ → Described
refused k =
    record {
      number = k;
      end = 0;
      field = 0;
      depth = 0;
      branch_bits = 0;
      trees = 0;
      terms = 0;
      outputs = 0;
      leaves = 0;
      element_words = 0;
      label = replicate 16 0;
      code_key = replicate 16 0;
    }

-- the answer, and the record that is lent
pub record Description : Type 0 where
  pub answer : Described
  pub source : List ℕ

abbrev pub description : Described → List ℕ → Description
description answer source = record { answer = answer; source = source }

-- the answer for what a record of an end is read as
abbrev pub said : {A : Type 0} → ℕ → (A → Head) → Reading A → Described
said end head_in r = after_reading r refused (λ part. described_head end (head_in part))

-- the answer by the end byte: that of the noise record, or that of the scalar record
abbrev pub by_end : List ℕ → Parsed ℕ → Described
by_end s r =
    after_reading r refused
    (λ r. choose (eqb r.0 1) (said 1 (λ P. P.head) (read_noise s)) (said 2 (λ P. P.head) (read_scalar s)))

-- the call: the end byte, 9 if it is neither end's, then the record by the tests of its end
unfoldable pub describe : List ℕ → Description
describe s = description (by_end s (tested (read_byte s 0) (λ end. eqb end 1 || eqb end 2) wrong_end)) s
