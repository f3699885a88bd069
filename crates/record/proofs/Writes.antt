-- The writing functions: each part is stored after the one before it, so the buffer holds the definition's bytes. Assumes nothing.
use Prim.Native.Nat.{ℕ, ◌+◌, ◌*◌, ◌≤◌, ◌<◌}
use mathlib.Core.Bool.{Bool, false}
use mathlib.Core.List.{List, [], ◌∷◌, ◌++◌, append_assoc}
use mathlib.Core.Path.{◌≡◌, refl, sym, ap, ◌∙◌}
use native.Mathlib.Numerals.{add-one}
use native.Mathlib.Omega.{arith}
use lib.ListN.{length, get_or, take, set, length-set}
use lib.Seq.{sets, take-suc, take_all, length-take-le}
use Rattle.algebra.proofs.Written.{sets_append}
use Rattle.field.proofs.ByteWords.{length-le_bytes}
use Rattle.field.specs.Bytes.{le_bytes}
use Rattle.field.specs.ByNumber.{one_noise, element_of}
use Rattle.field.specs.Inner.Elements.{element_length}
use Rattle.field.specs.Inner.Written.{with_word, with_words}
use Rattle.number.proofs.Places.{choose_no, wrote_then, room-front, room_back}
use Rattle.number.specs.Inner.Written.{Room, Wrote}
use Rattle.record.proofs.Lengths.{length-element, blocks-part}
use Rattle.record.specs.Inner.Heads.{head_from, scalar_with}
use Rattle.record.specs.declared.Layout.{Layout}
use Rattle.record.specs.Reading.{items, block_at}
use Rattle.record.specs.Writing.{write_each, write_words, write_blocks, write_head, write_value, write_scalar}
use Rattle.record.specs.Inner.Lengths.{sizes_bytes}

-- one part after another
pub after : {b c : List ℕ} (b₀ : List ℕ) (at : ℕ) {next : ℕ} (u v : List ℕ) → b ≡ sets b₀ at u → next ≡ at + length u → c ≡ sets b next v → c ≡ sets b₀ at (u ++ v)
after {b} b₀ at u v e p f = f ∙ ap (λ (n : ℕ). sets b n v) p ∙ ap (λ (x : List ℕ). sets x (at + length u) v) e ∙ sym (sets_append b₀ at u v)

-- ---- a run of bytes

-- one byte more is stored
pub byte-stored : {b : List ℕ} (b₀ : List ℕ) (at : ℕ) (u : List ℕ) (i : ℕ) → b ≡ sets b₀ at (take i u) → i < length u → set b (at + i) (get_or u i 0) ≡ sets b₀ at (take (i + 1) u)
byte-stored b₀ at u i e h =
    after b₀ at (take i u) (get_or u i 0 ∷ []) e (ap (λ (n : ℕ). at + n) (sym (length-take-le i u (omega arith)))) refl
    ∙ ap (sets b₀ at) (sym (take-suc u i 0 h) ∙ ap (λ (n : ℕ). take n u) (sym (add-one i)))

-- every byte is stored
pub bytes-wrote : {b : List ℕ} (b₀ : List ℕ) (at : ℕ) (u : List ℕ) (i : ℕ) → b ≡ sets b₀ at (take i u) → i ≡ length u → Wrote b₀ at u (at + length u) b
bytes-wrote b₀ at u i e h =
    record {
      place = refl;
      stored = e ∙ ap (sets b₀ at) (take_all i u (omega arith));
    }

-- ---- noise values and elements

module _ (b₀ : List ℕ) (at field value : ℕ) {o : Bool} (one : o ≡ one_noise field) where
  module _ (many : o ≡ false) where
    word : write_value field value ≡ le_bytes 8 value
    word = choose_no [] (le_bytes 8 value) (sym one ∙ many)

    pub value_room : Room b₀ at (write_value field value) → at + 8 ≤ length b₀
    value_room r = omega (arith, r.fits, ap length word, length-le_bytes 8 value)

    pub value-wrote : {b : List ℕ} → b ≡ with_word b₀ at value → Wrote b₀ at (write_value field value) (at + 8) b
    unfolding with_word
    value-wrote w = rw word (record { place = rw length-le_bytes; stored = w })

-- words stored one after the other
stored-words : (b₀ : List ℕ) (at : ℕ) (ws : List ℕ) → with_words b₀ at ws ≡ sets b₀ at (write_words ws)
unfolding with_words with_word write_each
stored-words b₀ at [] = refl
stored-words b₀ at (w ∷ ws) =
    stored-words (sets b₀ at (le_bytes 8 w)) (at + 8) ws
    ∙ after b₀ at (le_bytes 8 w) (write_words ws) refl (ap (λ (n : ℕ). at + n) (sym (length-le_bytes 8 w))) refl

module _ (b₀ : List ℕ) (at field low high : ℕ) where
  pub element-room : Room b₀ at (write_words (element_of field low high)) → at + element_length field ≤ length b₀
  element-room r = omega (arith, r.fits, length-element field low high)

  module _ {n : ℕ} (long : n ≡ element_length field) where
    pub element-wrote : {b : List ℕ} → b ≡ with_words b₀ at (element_of field low high) → Wrote b₀ at (write_words (element_of field low high)) (at + n) b
    element-wrote w =
        record {
          place = ap (λ (k : ℕ). at + k) (long ∙ sym (length-element field low high));
          stored = w ∙ stored-words b₀ at (element_of field low high);
        }

-- ---- four parts one after the other

module _ (b₀ : List ℕ) (at : ℕ) (u v w x : List ℕ) (room : Room b₀ at (u ++ (v ++ (w ++ x)))) {at₁ : ℕ} {b₁ : List ℕ} (w₁ : Wrote b₀ at u at₁ b₁) where
  pub second-room : Room b₁ at₁ v
  second-room = room-front v (w ++ x) (room_back u (v ++ (w ++ x)) w₁ room)

  module _ {at₂ : ℕ} {b₂ : List ℕ} (w₂ : Wrote b₁ at₁ v at₂ b₂) where
    rest_2 : Room b₂ at₂ (w ++ x)
    rest_2 = room_back v (w ++ x) w₂ (room_back u (v ++ (w ++ x)) w₁ room)

    pub third_room : Room b₂ at₂ w
    third_room = room-front w x rest_2

    module _ {at₃ : ℕ} {b₃ : List ℕ} (w₃ : Wrote b₂ at₂ w at₃ b₃) where
      pub fourth_room : Room b₃ at₃ x
      fourth_room = room_back w x w₃ rest_2

      pub four-wrote : {at₄ : ℕ} {b₄ : List ℕ} → Wrote b₃ at₃ x at₄ b₄ → Wrote b₀ at (u ++ (v ++ (w ++ x))) at₄ b₄
      four-wrote w₄ = wrote_then w₁ (wrote_then w₂ (wrote_then w₃ w₄))

-- ---- the head

-- the buffer after the end byte and the field byte
abbrev begun : List ℕ → ℕ → ℕ → List ℕ
begun b end field = set (set b 0 end) 1 field

head_bytes : (end : ℕ) (f : Layout) (key label : List ℕ) → write_head end (head_from f key label) ≡ end ∷ f.field ∷ (sizes_bytes f ++ (key ++ label))
unfolding write_head
head_bytes end f key label = simp append_assoc

module _ (b₀ : List ℕ) (end : ℕ) (f : Layout) (key label : List ℕ) (room : Room b₀ 0 (write_head end (head_from f key label))) {first : ℕ} (is : first ≡ end) where
  whole-head : length (sizes_bytes f ++ (key ++ label)) + 2 ≤ length b₀
  whole-head = omega (arith, room.fits, ap length (head_bytes end f key label))

  pub head-room_0 : 0 < length b₀
  head-room_0 = omega (arith, whole-head)

  pub head-room_1 : 1 < length (set b₀ 0 first)
  head-room_1 = omega (arith, whole-head, length-set b₀ 0 first)

  head-rest : Room (begun b₀ first f.field) 2 (sizes_bytes f ++ (key ++ label))
  head-rest = record { fits = omega (arith, whole-head, length-set b₀ 0 first, length-set (set b₀ 0 first) 1 f.field) }

  pub head-sizes : Room (begun b₀ first f.field) 2 (sizes_bytes f)
  head-sizes = room-front (sizes_bytes f) (key ++ label) head-rest

  module _ {at : ℕ} {b₁ : List ℕ} (w₁ : Wrote (begun b₀ first f.field) 2 (sizes_bytes f) at b₁) where
    keys_rest : Room b₁ at (key ++ label)
    keys_rest = room_back (sizes_bytes f) (key ++ label) w₁ head-rest

    pub head-key : Room b₁ at key
    head-key = room-front key label keys_rest

    module _ {next : ℕ} {b₂ : List ℕ} (w₂ : Wrote b₁ at key next b₂) where
      pub head-label : Room b₂ next label
      head-label = room_back key label w₂ keys_rest

      pub head-wrote : {last : ℕ} {b₃ : List ℕ} → Wrote b₂ next label last b₃ → Wrote b₀ 0 (write_head end (head_from f key label)) last b₃
      head-wrote w₃ =
          let all = wrote_then w₁ (wrote_then w₂ w₃) in
          rw (head_bytes, ← is) (record { place = omega (arith, all.place); stored = all.stored })

-- ---- a tree up to its siblings

module _ (b₀ : List ℕ) (at : ℕ) (u v w : List ℕ) (room : Room b₀ at (u ++ (v ++ w))) {next : ℕ} {b₁ : List ℕ} (w₁ : Wrote b₀ at u next b₁) where
  module _ {middle : ℕ} {b₂ : List ℕ} (w₂ : Wrote b₁ next v middle b₂) where
    pub front-wrote : {end : ℕ} {b₃ : List ℕ} → Wrote b₂ middle w end b₃ → Wrote b₀ at (u ++ (v ++ w)) end b₃
    front-wrote w₃ = wrote_then w₁ (wrote_then w₂ w₃)

-- ---- the scalar record

module _ (b₀ : List ℕ) (f : Layout) (key label words roots : List ℕ) (room : Room b₀ 0 (write_scalar (scalar_with f key label words roots))) where
  pub scalar-head : Room b₀ 0 (write_head 2 (head_from f key label))
  unfolding write_scalar
  scalar-head = room-front (write_head 2 (head_from f key label)) _ room

  module _ {at : ℕ} {b₁ : List ℕ} (w₁ : Wrote b₀ 0 (write_head 2 (head_from f key label)) at b₁) where
    pub scalar-delta : Room b₁ at (write_words words)
    unfolding write_scalar
    scalar-delta = room-front (write_words words) _ (room_back (write_head 2 (head_from f key label)) _ w₁ room)

    module _ (many : length roots ≡ 16 * f.trees) {next : ℕ} {b₂ : List ℕ} (w₂ : Wrote b₁ at (write_words words) next b₂) where
      same : write_blocks (items block_at 16 roots 0 f.trees) ≡ roots
      same = blocks-part roots f.trees 0 (omega arith) ∙ take_all (16 * f.trees) roots (omega arith)

      pub scalar-roots : Room b₂ next roots
      unfolding write_scalar
      scalar-roots = rw same at (room_back (write_words words) _ w₂ (room_back (write_head 2 (head_from f key label)) _ w₁ room))

      pub scalar-wrote : {end : ℕ} {b₃ : List ℕ} → Wrote b₂ next roots end b₃
          → Wrote b₀ 0 (write_scalar (scalar_with f key label words roots)) end b₃
      unfolding write_scalar
      scalar-wrote w₃ = rw same (wrote_then w₁ (wrote_then w₂ w₃))
