-- The second pass over a tree that was accepted: no test of its reading can fail, so its parts stand where they are taken.
-- Assumes nothing.
use Prim.Native.Nat.{ℕ, ◌+◌, ◌*◌, ◌^◌, ◌≤◌, ◌<◌}
use mathlib.Core.Bool.{true, false}
use mathlib.Core.List.{List}
use mathlib.Core.Path.{◌≡◌, sym, ap, ◌∙◌}
use borrow.Author.Tests.{ltb-true, leb-true}
use native.Mathlib.Omega.{arith}
use lib.Dec.{ltb, leb}
use lib.ListN.{length}
use Rattle.field.specs.Bytes.{word_at}
use Rattle.field.specs.ByNumber.{is_noise, one_noise, is_element}
use Rattle.field.specs.Kind.{element_words}
use Rattle.number.proofs.Places.{whole_is, whole_of, then-whole, tested-whole, choose-whole, choose_yes, choose_no}
use Rattle.number.specs.Number.{read_number}
use Rattle.number.specs.Reading.{Whole, Parsed, then, tested}
use Rattle.number.specs.Inner.Known.{is_whole}
use Rattle.record.specs.Inner.Answers.{word_field}
use Rattle.record.proofs.Items.{items-whole}
use Rattle.record.proofs.Parts.{TreeParts, tree_parts}
use Rattle.record.specs.Content.{NoiseTree}
use Rattle.record.specs.Reading.{items, block_at, read_words, read_position, read_value, read_correction, read_tree}

-- the parts of a position, a noise value and a correction that were read
pub position_parts : (base all : ℕ) (s : List ℕ) (at : ℕ) {p next : ℕ} → read_position base all s at ≡ Whole (p, next)
    → (x : ℕ) × (read_number s at ≡ Whole (x, next)) × (p ≡ base + x) × (p < all)
unfolding read_position
position_parts base all s at {p} {next} e =
    let b = tested-whole (then (read_number s at) λ x next. Whole (base + x, next)) (λ p. ltb p all) 4 e in
    let c = then-whole (read_number s at) _ b.0 in
    let z = whole_is c.3 in
    (c.0, c.2 ∙ ap (λ (y : ℕ × ℕ). Whole (c.0, y.1)) z, ap (λ (y : ℕ × ℕ). y.0) (sym z), ltb-true _ _ b.1)

pub value_parts_1 : (field : ℕ) (s : List ℕ) (at : ℕ) {y next : ℕ} → one_noise field ≡ true → read_value field s at ≡ Whole (y, next) → (y ≡ 1) × (next ≡ at)
unfolding read_value
value_parts_1 field s at f e =
    let z = whole_is (sym (choose_yes {A = Parsed ℕ} (Whole (1, at)) (tested (word_field s at) (λ y. is_noise field y) 5) f) ∙ e) in
    (ap (λ (x : ℕ × ℕ). x.0) (sym z), ap (λ (x : ℕ × ℕ). x.1) (sym z))

pub value_parts_2 : (field : ℕ) (s : List ℕ) (at : ℕ) {y next : ℕ} → one_noise field ≡ false → read_value field s at ≡ Whole (y, next)
    → (at + 8 ≤ length s) × (y ≡ word_at s at) × (next ≡ at + 8) × (is_noise field y ≡ true)
unfolding read_value
value_parts_2 field s at f e =
    let t = tested-whole (word_field s at) (λ y. is_noise field y) 5
    (sym (choose_no {A = Parsed ℕ} (Whole (1, at)) (tested (word_field s at) (λ y. is_noise field y) 5) f) ∙ e) in
    let c = choose-whole {A = ℕ × ℕ} (leb (at + 8) (length s)) (word_at s at, at + 8) 10 t.0 in
    (leb-true _ _ c.0, ap (λ (x : ℕ × ℕ). x.0) (sym c.1), ap (λ (x : ℕ × ℕ). x.1) (sym c.1), t.1)

pub correction_parts : (field : ℕ) (s : List ℕ) (at : ℕ) {c : List ℕ} {next : ℕ} → read_correction field s at ≡ Whole (c, next)
    → (at + 8 * element_words field ≤ length s) × (c ≡ items word_at 8 s at (element_words field)) × (next ≡ at + 8 * element_words field) × (is_element field c ≡ true)
unfolding read_correction
correction_parts field s at e =
    let t = tested-whole (read_words (element_words field) s at) (λ c. is_element field c) 8 e in
    let i = items-whole word_at 8 (element_words field) s at t.0 in
    (i.0, i.1, i.2, t.1)

-- ---- the second pass

module _ (field depth beside base : ℕ) (s : List ℕ) (at : ℕ) (known : is_whole (read_tree field depth beside base s at) ≡ true) where
  -- the tree and the reading of its fields
  tree : (z : NoiseTree × ℕ) × (read_tree field depth beside base s at ≡ Whole z)
  tree = whole_of (read_tree field depth beside base s at) known

  parts : TreeParts field depth beside base s at tree.0.0 tree.0.1
  parts = tree_parts field depth beside base s at tree.1

  pub known-below : base ≤ 2 ^ depth
  known-below = let p = position_parts base (2 ^ depth) s at parts.position in omega (arith, p.2, p.3)

  pub known-siblings : 16 * beside ≤ length s
  known-siblings = omega (arith, (items-whole block_at 16 beside s parts.at3 parts.siblings).0)
