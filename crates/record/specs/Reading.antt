-- The reading of key records (document 01, 'Numbers of the calls'): front to back, each field whole (10, 11) and then tested,
-- 12 last.
use Rattle.std.specs.Prelude.{ℕ, zero, suc, ◌+◌, ◌*◌, ◌%◌, ◌^◌, List, [], ◌∷◌, leb, ltb, eqb, length}
use Rattle.answer.specs.Numbers.{bad_field, bad_size, bad_position, bad_noise, bad_delta, not_element, wrong_end, record_ends, bytes_after}
use Rattle.field.specs.Bytes.{word_at}
use Rattle.field.specs.ByNumber.{is_field, is_noise, one_noise, is_element, is_scalar}
use Rattle.field.specs.Kind.{element_words}
use Rattle.number.specs.Number.{read_number}
use Rattle.number.specs.Reading.{Reading, Whole, Refused, Parsed, then, choose, tested, part, read_byte, read_bytes}
use Rattle.record.specs.Admitted.{is_size, most_trees, most_terms, most_outputs}
use Rattle.record.specs.Content.{Head, NoiseTree, NoisePart, ScalarPart, sibling_count}

-- ---- fields

-- n items of a size each from a place on
unfoldable pub items : {A : Type 0} → (List ℕ → ℕ → A) → ℕ → List ℕ → ℕ → ℕ → List A
items item size s at zero = []
items item size s at (suc n) = item s at ∷ items item size s (at + size) n

-- n items read as one field; 10: record ends inside it
unfoldable pub read_items : {A : Type 0} → (List ℕ → ℕ → A) → ℕ → ℕ → List ℕ → ℕ → Parsed (List A)
read_items item size n s at = choose (leb (at + size * n) (length s)) (Whole (items item size s at n, at + size * n)) (Refused record_ends)

-- words, 8 bytes LE each
abbrev pub read_words : ℕ → List ℕ → ℕ → Parsed (List ℕ)
read_words n s at = read_items word_at 8 n s at

-- blocks, 16 bytes each
abbrev pub block_at : List ℕ → ℕ → List ℕ
block_at s at = part s at 16

abbrev pub read_blocks : ℕ → List ℕ → ℕ → Parsed (List (List ℕ))
read_blocks n s at = read_items block_at 16 n s at

-- a size; 2: outside its range
unfoldable pub read_size : ℕ → List ℕ → ℕ → Parsed ℕ
read_size top s at = tested (read_number s at) (λ n. is_size top n) bad_size

-- g; 2: not 1, 2 or 3, or d is no multiple of it (document 02, 10)
unfoldable pub read_branch : ℕ → List ℕ → ℕ → Parsed ℕ
read_branch depth s at = tested (read_size 3 s at) (λ g. eqb (depth % g) 0) bad_size

-- a position, written less `base`; 4: N or more
unfoldable pub read_position : ℕ → ℕ → List ℕ → ℕ → Parsed ℕ
read_position base all s at = tested (then (read_number s at) λ x next. Whole (base + x, next)) (λ p. ltb p all) bad_position

-- a noise value, in field 2 only; 5: not admitted
unfoldable pub read_value : ℕ → List ℕ → ℕ → Parsed ℕ
read_value field s at =
    choose (one_noise field) (Whole (1, at))
    (tested (choose (leb (at + 8) (length s)) (Whole (word_at s at, at + 8)) (Refused record_ends)) (λ y. is_noise field y) bad_noise)

-- a correction; 8: not an element
unfoldable pub read_correction : ℕ → List ℕ → ℕ → Parsed (List ℕ)
read_correction field s at = tested (read_words (element_words field) s at) (λ c. is_element field c) not_element

-- Δ; 6: zero, or not an element
unfoldable pub read_delta : ℕ → List ℕ → ℕ → Parsed (List ℕ)
read_delta field s at = tested (read_words (element_words field) s at) (λ c. is_scalar field c) bad_delta

-- ---- records

-- the end byte; 9: not this end's. The field byte; 1: not 1 or 2
unfoldable pub read_field : ℕ → List ℕ → Parsed ℕ
read_field end s = then (tested (read_byte s 0) (λ e. eqb e end) wrong_end) λ e at. tested (read_byte s at) is_field bad_field

-- g, t, ℓ, n, the code key and the label (document 02, 8), after d
unfoldable pub read_after_depth : ℕ → ℕ → List ℕ → ℕ → Parsed Head
read_after_depth field d s at2 =
    then (read_branch d s at2) λ g at3.
    then (read_size (most_trees d) s at3) λ t at4.
    then (read_size (most_terms d) s at4) λ l at5.
    then (read_size (most_outputs d) s at5) λ n at6.
    then (read_bytes 16 s at6) λ key at7.
    then (read_bytes 16 s at7) λ label at8.
    Whole (record { field = field; depth = d; branch_bits = g; trees = t; terms = l; outputs = n; code_key = key; label = label }, at8)

-- d, then the rest of the head, after the field byte
unfoldable pub read_sizes : ℕ → List ℕ → ℕ → Parsed Head
read_sizes field s at1 = then (read_size 16 s at1) λ d at2. read_after_depth field d s at2

-- the head
unfoldable pub read_head : ℕ → List ℕ → Parsed Head
read_head end s = then (read_field end s) λ field at. read_sizes field s at

-- a tree with so many blocks beside its path, after positions below `base`
unfoldable pub read_tree : ℕ → ℕ → ℕ → ℕ → List ℕ → ℕ → Parsed NoiseTree
read_tree field depth beside base s at =
    then (read_position base (2 ^ depth) s at) λ position at1.
    then (read_value field s at1) λ value at2.
    then (read_correction field s at2) λ correction at3.
    then (read_blocks beside s at3) λ siblings at4.
    Whole (record { position = position; value = value; correction = correction; siblings = siblings }, at4)

-- n trees, one after the other
unfoldable pub read_trees : ℕ → ℕ → ℕ → ℕ → ℕ → List ℕ → ℕ → Parsed (List NoiseTree)
read_trees field depth beside zero base s at = Whole ([], at)
read_trees field depth beside (suc n) base s at =
    then (read_tree field depth beside base s at) λ t next.
    then (read_trees field depth beside n (t.position + 1) s next) λ ts end.
    Whole (t ∷ ts, end)

-- the end of a record; 12: bytes after it
abbrev pub ended : {A : Type 0} → List ℕ → ℕ → A → Reading A
ended s at x = choose (ltb at (length s)) (Refused bytes_after) (Whole x)

-- the noise record
unfoldable pub read_noise : List ℕ → Reading NoisePart
read_noise s =
    then (read_head 1 s) λ h body.
    then (read_trees h.field h.depth (sibling_count h.depth h.branch_bits) h.trees 0 s body) λ trees end.
    ended s end (record { head = h; trees = trees })

-- the scalar record
unfoldable pub read_scalar : List ℕ → Reading ScalarPart
read_scalar s =
    then (read_head 2 s) λ h body.
    then (read_delta h.field s body) λ delta at.
    then (read_blocks h.trees s at) λ roots end.
    ended s end (record { head = h; delta = delta; roots = roots })
