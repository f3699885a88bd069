-- What the functions that read one field test and pass over. Assumes nothing.
use Prim.Native.Nat.{ℕ, ◌+◌, ◌-◌, ◌≤◌}
use mathlib.Core.Bool.{Bool, true, false, ◌&&◌}
use mathlib.Core.List.{List, [], ◌∷◌}
use mathlib.Core.Path.{◌≡◌, refl, sym, ap, ◌∙◌}
use borrow.Author.Tests.{lt-ltb, le-ltb, leb-true}
use native.Mathlib.Omega.{arith}
use lib.Dec.{leb, ltb, eqb}
use lib.ListN.{length}
use Rattle.std.specs.Prelude.{Result, Ok, Err}
use Rattle.algebra.proofs.Tests.{and_left, and_right}
use Rattle.answer.specs.declared.Refusal.{Refusal}
use Rattle.answer.specs.Refused.{number_of}
use Rattle.field.specs.Bytes.{word_at}
use Rattle.field.specs.ByNumber.{element_of}
use Rattle.field.specs.Kind.{binary_kind, prime_kind, element_words}
use Rattle.field.specs.Inner.Elements.{element_length, element_at}
use Rattle.field.specs.declared.element.Element.{Element}
use Rattle.field.proofs.Elements.{at_words}
use Rattle.number.specs.Inner.Tested.{Tested}
use Rattle.number.specs.Number.{read_number}
use Rattle.number.specs.Reading.{Whole, Refused, Parsed, then, choose, tested}
use Rattle.number.proofs.Places.{split, choose-whole, refused-whole}
use Rattle.number.proofs.Tests.{parsed, tested_parsed}
use Rattle.record.specs.Inner.Answers.{skipped, element_read}
use Rattle.record.specs.Reading.{items, read_items, read_words, read_position}

pub and_both : (a b : Bool) → a && b ≡ true → (a ≡ true) × (b ≡ true)
and_both a b e = (and_left a b e, and_right a b e)

lost : {A : Type 0} (b : Bool) (x : A) {k : ℕ} → choose b (Whole x) (Refused 10) ≡ Refused k → (b ≡ false) × (k ≡ 10)
lost true x e = absurd (refused-whole (sym e) refl)
lost false x e = (refl, cc)

-- what passing over a field shows
module _ (count : ℕ) (s : List ℕ) (at : ℕ) where
  pub skip-refused : {k : ℕ} → Refused k ≡ skipped count s at → (leb (at + count) (length s) ≡ false) × (k ≡ 10)
  unfolding skipped
  skip-refused e = lost (leb (at + count) (length s)) (at + count) (sym e)

  pub skip-whole : {next : ℕ} → Whole next ≡ skipped count s at → (leb (at + count) (length s) ≡ true) × (next ≡ at + count)
  unfolding skipped
  skip-whole e = let c = choose-whole (leb (at + count) (length s)) (at + count) 10 (sym e) in (c.0, sym c.1)

  pub skip-room : {next : ℕ} → Whole next ≡ skipped count s at → at + count ≤ length s
  skip-room e = leb-true _ _ (skip-whole e).0

-- the words of an element at a place
pub element-items : (field : ℕ) (s : List ℕ) (at : ℕ) → items word_at 8 s at (element_words field) ≡ element_of field (word_at s at) (word_at s (at + 8))
unfolding items
element-items field s at = of (eqb field 1)
  where
    of : (t : Bool) → items word_at 8 s at (choose t binary_kind prime_kind).field.elements.width
        ≡ choose t (word_at s at ∷ word_at s (at + 8) ∷ []) (word_at s at ∷ [])
    of true = refl
    of false = refl

-- and of one that was read there
pub element-words : (field : ℕ) (s : List ℕ) (at : ℕ) {e : Element} → e ≡ element_at field s at
    → items word_at 8 s at (element_words field) ≡ element_of field e.low e.high
element-words field s at read = element-items field s at ∙ sym (at_words field s at read)

-- a field that was passed over and what stands there
module _ {A : Type 0} (count : ℕ) (s : List ℕ) (at : ℕ) (x : A) where
  pub field-refused : {k : ℕ} → Refused k ≡ skipped count s at → ◌≡◌ {A = Parsed A} (Refused k) (choose (leb (at + count) (length s)) (Whole (x, at + count)) (Refused 10))
  field-refused e = let c = skip-refused count s at e in simp (c.0, c.1)

  pub field-whole : {next : ℕ} → Whole next ≡ skipped count s at → ◌≡◌ {A = Parsed A} (Whole (x, next)) (choose (leb (at + count) (length s)) (Whole (x, at + count)) (Refused 10))
  field-whole e = let c = skip-whole count s at e in simp (c.0, c.1)

-- the words of an element that were passed over
module _ (field : ℕ) (s : List ℕ) (at : ℕ) {size : ℕ} (long : size ≡ element_length field) where
  read_there : choose {A = Parsed (List ℕ)} (leb (at + size) (length s)) (Whole (items word_at 8 s at (element_words field), at + size)) (Refused 10)
      ≡ read_words (element_words field) s at
  unfolding read_items
  read_there = ap (λ (n : ℕ). choose {A = Parsed (List ℕ)} (leb (at + n) (length s)) (Whole (items word_at 8 s at (element_words field), at + n)) (Refused 10)) long

  abbrev whole_at : List ℕ → ℕ → Parsed (List ℕ)
  whole_at w next = Whole (w, next)

  pub words-refused : {k : ℕ} → Refused k ≡ skipped size s at → Refused k ≡ read_words (element_words field) s at
  words-refused e = field-refused size s at (items word_at 8 s at (element_words field)) e ∙ read_there

  pub words-whole : {next : ℕ} {e : Element} → Whole next ≡ skipped size s at → e ≡ element_at field s at
      → Whole (element_of field e.low e.high, next) ≡ read_words (element_words field) s at
  words-whole {next} e read = ap (λ (w : List ℕ). whole_at w next) (sym (element-words field s at read)) ∙ field-whole size s at (items word_at 8 s at (element_words field)) e ∙ read_there

-- a test of an element
pub tested_element : (field : ℕ) (ok : List ℕ → Bool) (reason : Refusal) {answers : Element → Bool → Type 0} (read result : Result (Element × ℕ) Refusal)
    → Tested answers reason read result → ((x : Element) (b : Bool) → answers x b → b ≡ ok (element_of field x.low x.high))
    → element_read field result ≡ tested (element_read field read) ok (number_of reason)
tested_element field ok reason read result t agree =
    same result ∙ tested_parsed words ok reason read result t agree ∙ ap (λ (r : Parsed (List ℕ)). tested r ok (number_of reason)) (sym (same read))
  where
    words : Element → List ℕ
    words x = element_of field x.low x.high

    same : (r : Result (Element × ℕ) Refusal) → element_read field r ≡ parsed words r
    same (Ok read) = refl
    same (Err refusal) = refl

-- a test of a position is one of what is written of it
pub position-tested : (base all : ℕ) (s : List ℕ) (at : ℕ) → base ≤ all
    → read_position base all s at ≡ then (tested (read_number s at) (λ x. ltb x (all - base)) 4) λ x next. Whole (base + x, next)
unfolding read_position tested
position-tested base all s at few = of (read_number s at)
  where
    below : (x : ℕ) → ltb (base + x) all ≡ ltb x (all - base)
    below x =
        split x (all - base) (λ h. lt-ltb (base + x) all (omega arith) ∙ sym (lt-ltb x (all - base) h))
        (λ h. le-ltb (base + x) all (omega arith) ∙ sym (le-ltb x (all - base) h))

    either_way : (b : Bool) (x next : ℕ) → choose {A = Parsed ℕ} b (Whole (base + x, next)) (Refused 4) ≡ then (choose {A = Parsed ℕ} b (Whole (x, next)) (Refused 4)) λ x next. Whole (base + x, next)
    either_way true x next = refl
    either_way false x next = refl

    of : (r : Parsed ℕ) → tested (then r λ x next. Whole (base + x, next)) (λ p. ltb p all) 4 ≡ then (tested r (λ x. ltb x (all - base)) 4) λ x next. Whole (base + x, next)
    of (Whole r) = ap (λ (b : Bool). choose {A = Parsed ℕ} b (Whole (base + r.0, r.1)) (Refused 4)) (below r.0) ∙ either_way (ltb r.0 (all - base)) r.0 r.1
    of (Refused k) = refl
