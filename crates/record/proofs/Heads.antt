-- What a head that was read says of its sizes. Assumes nothing.
use Prim.Native.Nat.{ℕ, ◌+◌, ◌-◌, ◌%◌, ◌^◌, ◌≤◌}
use mathlib.Core.Bool.{Bool, true, false}
use mathlib.Core.List.{List}
use mathlib.Core.Path.{◌≡◌, refl, sym, ap, ◌∙◌}
use borrow.Author.Tests.{leb-true, le-leb, eqb-true}
use native.Mathlib.Nat.{le_trans, min-le_left}
use native.Mathlib.Omega.{arith}
use lib.Dec.{leb, eqb}
use lib.ListN.{length}
use Rattle.std.specs.Prelude.{Result, Ok, Err, IfOk}
use Rattle.answer.specs.declared.Refusal.{Refusal}
use Rattle.number.proofs.Places.{tested-whole}
use Rattle.number.specs.Answer.{number_read}
use Rattle.number.specs.Number.{read_number}
use Rattle.number.specs.Reading.{Reading, Whole, Refused, then, part, read_bytes}
use Rattle.record.proofs.Fields.{and_both, skip-refused, skip-whole}
use Rattle.record.proofs.Parts.{head_parts}
use Rattle.record.specs.Admitted.{is_size, most_trees}
use Rattle.record.specs.Content.{Head}
use Rattle.record.specs.Inner.Answers.{skipped}
use Rattle.record.specs.Reading.{read_size, read_branch, read_head}

-- a size that was read is in its range
pub size-range : (top : ℕ) (s : List ℕ) (at : ℕ) {n next : ℕ} → read_size top s at ≡ Whole (n, next) → (1 ≤ n) × (n ≤ top)
unfolding read_size
size-range top s at {n} e =
    let b = and_both _ _ (tested-whole (read_number s at) (λ m. is_size top m) 2 e).1 in
    (leb-true _ _ b.0, leb-true _ _ b.1)

pub size-some : (top : ℕ) (s : List ℕ) (at : ℕ) (r : Result (ℕ × ℕ) Refusal) → number_read r ≡ read_size top s at → IfOk r (λ read. 1 ≤ read.0)
size-some top s at (Ok read) e = (size-range top s at (sym e)).0
size-some top s at (Err refusal) e = tt

-- g that was read is 1, 2 or 3
pub branch-range : (depth : ℕ) (s : List ℕ) (at : ℕ) {g next : ℕ} → read_branch depth s at ≡ Whole (g, next) → (1 ≤ g) × (g ≤ 3)
unfolding read_branch
branch-range depth s at e = size-range 3 s at (tested-whole (read_size 3 s at) (λ g. eqb (depth % g) 0) 2 e).0

pub branch-multiple : (depth : ℕ) (s : List ℕ) (at : ℕ) {g next : ℕ} → read_branch depth s at ≡ Whole (g, next) → depth % g ≡ 0
unfolding read_branch
branch-multiple depth s at e = eqb-true _ _ (tested-whole (read_size 3 s at) (λ g. eqb (depth % g) 0) 2 e).1

either_way : {X : Type 0} (b : Bool) → (b ≡ true → X) → (b ≡ false → X) → X
either_way true f g = f refl
either_way false f g = g refl

-- the code key and the label, where the 32 bytes that both take are passed over
module _ (s : List ℕ) (at : ℕ) {A : Type 0} where
  abbrev keys_then : (List ℕ → List ℕ → ℕ → Reading A) → Reading A
  keys_then f = then (read_bytes 16 s at) (λ key at7. then (read_bytes 16 s at7) (λ label at8. f key label at8))

  pub keys-refused : {k : ℕ} → Refused k ≡ skipped 32 s at → (f : List ℕ → List ℕ → ℕ → Reading A) → keys_then f ≡ Refused k
  unfolding read_bytes
  keys-refused {k} e f =
      let c = skip-refused 32 s at e in
      let late : leb (at + 16 + 16) (length s) ≡ false = ap (λ (n : ℕ). leb n (length s)) {x = at + 16 + 16} {y = at + 32} (omega arith) ∙ c.0 in
      either_way (leb (at + 16) (length s)) (λ h. simp (h, late, c.1)) (λ h. simp (h, c.1))

  pub keys-whole : {body : ℕ} → Whole body ≡ skipped 32 s at → (f : List ℕ → List ℕ → ℕ → Reading A)
      → keys_then f ≡ f (part s (body - 32) 16) (part s (body - 16) 16) body
  unfolding read_bytes
  keys-whole {body} e f =
      let c = skip-whole 32 s at e in
      let room : at + 32 ≤ length s = leb-true _ _ c.0 in
      let key : leb (at + 16) (length s) ≡ true = le-leb (at + 16) (length s) (omega arith) in
      let label : leb body (length s) ≡ true = le-leb body (length s) (omega arith) in
      let end : at + 16 + 16 ≡ body = omega arith in
      let start : body - 32 ≡ at = omega arith in
      let middle : body - 16 ≡ at + 16 = omega arith in
      simp (key, label, start, middle, end)

-- the depth of a head that was read
pub head-depth : (end : ℕ) (s : List ℕ) {h : Head} {body : ℕ} → read_head end s ≡ Whole (h, body) → h.depth ≤ 16
head-depth end s e = let p = head_parts end s e in (size-range 16 s p.at1 p.depth).1

pub head-branch : (end : ℕ) (s : List ℕ) {h : Head} {body : ℕ} → read_head end s ≡ Whole (h, body) → (1 ≤ h.branch_bits) × (h.branch_bits ≤ 3)
head-branch end s {h} e = let p = head_parts end s e in branch-range h.depth s p.at2 p.branch

pub head-trees : (end : ℕ) (s : List ℕ) {h : Head} {body : ℕ} → read_head end s ≡ Whole (h, body) → h.trees ≤ 64
head-trees end s {h} e =
    let p = head_parts end s e in
    let a = (size-range (most_trees h.depth) s p.at3 p.trees).1 in
    le_trans a (min-le_left 64 (2 ^ h.depth))
