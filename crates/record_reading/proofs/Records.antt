-- `read_noise` and `read_scalar`: what is left to read is the answer, turn by turn, and at each return. Assumes nothing.
use Prim.Native.Nat.{ℕ, suc, ◌+◌, ◌-◌, ◌*◌, ◌^◌, ◌≤◌, ◌<◌}
use mathlib.Core.Bool.{Bool, true, false}
use mathlib.Core.List.{List, ◌∷◌}
use mathlib.Core.Path.{◌≡◌, refl, sym, ap, ◌∙◌}
use borrow.Author.Tests.{lt-ltb, le-ltb, ltb-true}
use native.Mathlib.Omega.{arith}
use lib.Dec.{ltb}
use lib.ListN.{length}
use lib.Pow.{pow_mono}
use mir.Syntax.{w64}
use mir.Val.{Fits}
use Rattle.number.proofs.Places.{tested-whole}
use Rattle.number.specs.Number.{read_number}
use Rattle.number.specs.Reading.{Whole, Refused, Parsed, then, choose}
use Rattle.record.proofs.Fields.{skip-refused, skip-whole}
use Rattle.record.proofs.Heads.{head-depth, head-branch, head-trees}
use Rattle.record.proofs.Parts.{tree_parts}
use Rattle.record.specs.Content.{Head, NoiseTree, NoisePart, ScalarPart, sibling_count}
use Rattle.record.specs.Reading.{read_items, read_position, read_delta, read_head, read_tree, read_trees, ended, read_noise, read_scalar}
use Rattle.record.specs.Inner.Answers.{skipped}
use Rattle.record.specs.Answer.{head_of, head_if_whole}
use Rattle.record.specs.declared.Layout.{Layout}

-- ---- the noise record

-- what is answered once the trees are read
unfoldable pub left : List ℕ → Head × ℕ → Parsed (List NoiseTree) → Parsed Head
left s z (Whole r) = choose (ltb r.1 (length s)) (Refused 12) (Whole z)
left s z (Refused k) = Refused k

left_more : (s : List ℕ) (z : Head × ℕ) (t : NoiseTree) (x : Parsed (List NoiseTree)) → left s z (then x λ ts end. Whole (t ∷ ts, end)) ≡ left s z x
unfolding left
left_more s z t (Whole r) = refl
left_more s z t (Refused k) = refl

-- a test at the end of a record, seen from its head
ended-head : {A : Type 0} (b : Bool) (x : A) (z : Parsed Head) → head_if_whole (choose b (Refused 12) (Whole x)) z ≡ choose b (Refused 12) z
ended-head true x z = refl
ended-head false x z = refl

noise-left : (s : List ℕ) (h : Head) (body : ℕ) (x : Parsed (List NoiseTree))
    → head_if_whole {A = NoisePart} (then x λ trees end. ended s end (record { head = h; trees = trees })) (Whole (h, body)) ≡ left s (h, body) x
unfolding left
noise-left s h body (Whole r) = ended-head {A = NoisePart} (ltb r.1 (length s)) (record { head = h; trees = r.0 }) (Whole (h, body))
noise-left s h body (Refused k) = refl

-- the answer of `read_noise`
abbrev pub noise_answer : List ℕ → Parsed Head
noise_answer s = head_if_whole (read_noise s) (read_head 1 s)

-- what an accepted head has for the number of siblings
module _ (s : List ℕ) {f : Layout} (read : Whole (head_of s f, f.body) ≡ read_head 1 s) where
  pub deep : f.depth ≤ 16
  deep = head-depth 1 s (sym read)

  pub branch-some : 1 ≤ f.branch_bits
  branch-some = (head-branch 1 s (sym read)).0

  pub branch-few : f.branch_bits ≤ 3
  branch-few = (head-branch 1 s (sym read)).1

-- the loop's invariant: what is left of the trees is the answer
pub record Turn (s : List ℕ) (f : Layout) (beside at base i : ℕ) : Type 0 where
  pub siblings : beside ≡ sibling_count f.depth f.branch_bits
  pub few : beside ≤ 112
  pub answer : noise_answer s ≡ left s (head_of s f, f.body) (read_trees f.field f.depth (sibling_count f.depth f.branch_bits) (f.trees - i) base s at)
  pub below : base ≤ 2 ^ f.depth
  pub depth : f.depth ≤ 16
  pub trees : f.trees ≤ 64

pub noise-refused : (s : List ℕ) {k : ℕ} → Refused k ≡ read_head 1 s → Refused k ≡ noise_answer s
unfolding read_noise
noise-refused s read = rw (← read)

pub turn_start : (s : List ℕ) {f : Layout} → Whole (head_of s f, f.body) ≡ read_head 1 s
    → {beside : ℕ} → (beside ≡ sibling_count f.depth f.branch_bits) × (beside ≤ 112) → Turn s f beside f.body 0 0
unfolding read_noise
turn_start s {f} read {beside} b =
    record {
      siblings = b.0;
      few = b.1;
      answer =
          ap (λ (x : Parsed Head). head_if_whole {A = NoisePart} (then x λ h body. then (read_trees h.field h.depth (sibling_count h.depth h.branch_bits) h.trees 0 s body) λ trees end. ended s end (record { head = h; trees = trees })) x) (sym read)
          ∙ noise-left s (head_of s f) f.body (read_trees f.field f.depth (sibling_count f.depth f.branch_bits) f.trees 0 s f.body)
          ∙ ap (λ (n : ℕ). left s (head_of s f, f.body) (read_trees f.field f.depth (sibling_count f.depth f.branch_bits) n 0 s f.body)) {x = f.trees} {y = f.trees - 0} (omega arith);
      below = omega arith;
      depth = head-depth 1 s (sym read);
      trees = head-trees 1 s (sym read);
    }

module _ {s : List ℕ} {f : Layout} {beside at base i : ℕ} (turn : Turn s f beside at base i) where
  module _ (more : i < f.trees) where
    -- one turn of the definition
    step : (x : Parsed NoiseTree) → read_tree f.field f.depth (sibling_count f.depth f.branch_bits) base s at ≡ x
        → noise_answer s ≡ left s (head_of s f, f.body) (then x λ tree next. then (read_trees f.field f.depth (sibling_count f.depth f.branch_bits) (f.trees - (i + 1)) (tree.position + 1) s next) λ ts end. Whole (tree ∷ ts, end))
    unfolding read_trees
    step x e =
        turn.answer
        ∙ ap (λ (n : ℕ). left s (head_of s f, f.body) (read_trees f.field f.depth (sibling_count f.depth f.branch_bits) n base s at)) {x = f.trees - i} {y = suc (f.trees - (i + 1))} (omega arith)
        ∙ ap (λ (y : Parsed NoiseTree). left s (head_of s f, f.body) (then y λ tree next. then (read_trees f.field f.depth (sibling_count f.depth f.branch_bits) (f.trees - (i + 1)) (tree.position + 1) s next) λ ts end. Whole (tree ∷ ts, end))) e

    -- the tree by its head's number of siblings
    seen : {x : Parsed NoiseTree} → x ≡ read_tree f.field f.depth beside base s at → read_tree f.field f.depth (sibling_count f.depth f.branch_bits) base s at ≡ x
    seen e = sym (e ∙ ap (λ (n : ℕ). read_tree f.field f.depth n base s at) turn.siblings)

    pub turn_refused : {k : ℕ} → Refused k ≡ read_tree f.field f.depth beside base s at → Refused k ≡ noise_answer s
    unfolding left
    turn_refused {k} e = sym (step (Refused k) (seen e))

    module _ {t : NoiseTree} {next : ℕ} (e : Whole (t, next) ≡ read_tree f.field f.depth beside base s at) where
      pub turn_position : t.position < 2 ^ f.depth
      unfolding read_position
      turn_position =
          let q = (tree_parts f.field f.depth beside base s at (sym e)).position in
          let b = (tested-whole (then (read_number s at) λ x next. Whole (base + x, next)) (λ p. ltb p (2 ^ f.depth)) 4 q).1 in
          ltb-true _ _ b

      pub turn_fits : (k : ℕ) → k ≤ 16 → Fits w64 (t.position + k)
      turn_fits k h = record { fits = omega (arith, turn_position, pow_mono turn.depth) }

      pub turn_next : Turn s f beside next (t.position + 1) (i + 1)
      turn_next =
          record {
            siblings = turn.siblings;
            few = turn.few;
            answer =
                step (Whole (t, next)) (seen e)
                ∙ left_more s (head_of s f, f.body) t (read_trees f.field f.depth (sibling_count f.depth f.branch_bits) (f.trees - (i + 1)) (t.position + 1) s next);
            below = omega (arith, turn_position);
            depth = turn.depth;
            trees = turn.trees;
          }

  module _ (over : f.trees ≤ i) where
    done : noise_answer s ≡ choose (ltb at (length s)) (Refused 12) (Whole (head_of s f, f.body))
    unfolding read_trees left
    done =
        turn.answer
        ∙ ap (λ (n : ℕ). left s (head_of s f, f.body) (read_trees f.field f.depth (sibling_count f.depth f.branch_bits) n base s at)) {x = f.trees - i} {y = 0} (omega arith)

    pub turn_after : at < length s → Refused 12 ≡ noise_answer s
    turn_after h = sym (done ∙ simp (lt-ltb _ _ h))

    pub turn_whole : length s ≤ at → Whole (head_of s f, f.body) ≡ noise_answer s
    turn_whole h = sym (done ∙ simp (le-ltb _ _ h))

-- ---- the scalar record

abbrev pub scalar_answer : List ℕ → Parsed Head
scalar_answer s = head_if_whole (read_scalar s) (read_head 2 s)

pub scalar-refused : (s : List ℕ) {k : ℕ} → Refused k ≡ read_head 2 s → Refused k ≡ scalar_answer s
unfolding read_scalar
scalar-refused s read = rw (← read)

module _ (s : List ℕ) {f : Layout} (read : Whole (head_of s f, f.body) ≡ read_head 2 s) where
  pub roots_fit : Fits w64 (16 * f.trees)
  roots_fit = record { fits = omega (arith, head-trees 2 s (sym read)) }

  pub delta-refused : {k : ℕ} → Refused k ≡ read_delta f.field s f.body → Refused k ≡ scalar_answer s
  unfolding read_scalar
  delta-refused e = simp (← read, ← e)

  module _ {delta : List ℕ} {at : ℕ} (e : Whole (delta, at) ≡ read_delta f.field s f.body) where
    pub roots-refused : {k : ℕ} → Refused k ≡ skipped (16 * f.trees) s at → Refused k ≡ scalar_answer s
    unfolding read_scalar read_items
    roots-refused g = let y = skip-refused (16 * f.trees) s at g in simp (← read, ← e, y.0, y.1)

    module _ {end : ℕ} (g : Whole end ≡ skipped (16 * f.trees) s at) where
      scalar-end : scalar_answer s ≡ choose (ltb end (length s)) (Refused 12) (Whole (head_of s f, f.body))
      unfolding read_scalar read_items
      scalar-end =
          let y = skip-whole (16 * f.trees) s at g in
          simp (← read, ← e, y.0, y.1) (ended-head {A = ScalarPart} (ltb (at + 16 * f.trees) (length s)) _ (Whole (head_of s f, f.body)))

      pub scalar-after : end < length s → Refused 12 ≡ scalar_answer s
      scalar-after h = sym (scalar-end ∙ simp (lt-ltb _ _ h))

      pub scalar-whole : length s ≤ end → Whole (head_of s f, f.body) ≡ scalar_answer s
      scalar-whole h = sym (scalar-end ∙ simp (le-ltb _ _ h))
