-- What a head, a tree, trees and a record that were read whole were read from: the reading of each of their fields. Assumes nothing.
use Prim.Native.Nat.{ℕ, suc, ◌+◌, ◌^◌, ◌≤◌}
use mathlib.Core.List.{List, [], ◌∷◌}
use mathlib.Core.Path.{◌≡◌, sym, ap, ◌∙◌}
use borrow.Author.Tests.{ltb-false}
use lib.Dec.{ltb}
use lib.ListN.{length}
use Rattle.number.proofs.Places.{then-whole, whole_is, ended-whole}
use Rattle.number.specs.Reading.{Whole, read_bytes}
use Rattle.record.specs.Admitted.{most_trees, most_terms, most_outputs}
use Rattle.record.specs.Content.{Head, NoiseTree, NoisePart, ScalarPart, sibling_count}
use Rattle.record.specs.Reading.{read_size, read_branch, read_position, read_value, read_correction, read_blocks, read_field, read_after_depth, read_sizes, read_head, read_delta, read_tree, read_trees, read_noise, read_scalar}

pub record HeadParts (end : ℕ) (s : List ℕ) (h : Head) (body : ℕ) : Type 0 where
  pub at1 : ℕ
  pub at2 : ℕ
  pub at3 : ℕ
  pub at4 : ℕ
  pub at5 : ℕ
  pub at6 : ℕ
  pub at7 : ℕ
  pub field : read_field end s ≡ Whole (h.field, at1)
  pub depth : read_size 16 s at1 ≡ Whole (h.depth, at2)
  pub branch : read_branch h.depth s at2 ≡ Whole (h.branch_bits, at3)
  pub trees : read_size (most_trees h.depth) s at3 ≡ Whole (h.trees, at4)
  pub terms : read_size (most_terms h.depth) s at4 ≡ Whole (h.terms, at5)
  pub outputs : read_size (most_outputs h.depth) s at5 ≡ Whole (h.outputs, at6)
  pub code_key : read_bytes 16 s at6 ≡ Whole (h.code_key, at7)
  pub label : read_bytes 16 s at7 ≡ Whole (h.label, body)

-- what follows d
record AfterParts (field d : ℕ) (s : List ℕ) (at2 : ℕ) (h : Head) (body : ℕ) : Type 0 where
  pub at3 : ℕ
  pub at4 : ℕ
  pub at5 : ℕ
  pub at6 : ℕ
  pub at7 : ℕ
  pub same-field : field ≡ h.field
  pub same-depth : d ≡ h.depth
  pub branch : read_branch d s at2 ≡ Whole (h.branch_bits, at3)
  pub trees : read_size (most_trees d) s at3 ≡ Whole (h.trees, at4)
  pub terms : read_size (most_terms d) s at4 ≡ Whole (h.terms, at5)
  pub outputs : read_size (most_outputs d) s at5 ≡ Whole (h.outputs, at6)
  pub code_key : read_bytes 16 s at6 ≡ Whole (h.code_key, at7)
  pub label : read_bytes 16 s at7 ≡ Whole (h.label, body)

after_parts : (field d : ℕ) (s : List ℕ) (at2 : ℕ) {h : Head} {body : ℕ} → read_after_depth field d s at2 ≡ Whole (h, body) → AfterParts field d s at2 h body
unfolding read_after_depth
after_parts field d s at2 e =
    let g = then-whole (read_branch d s at2) _ e in
    let t = then-whole (read_size (most_trees d) s g.1) _ g.3 in
    let l = then-whole (read_size (most_terms d) s t.1) _ t.3 in
    let n = then-whole (read_size (most_outputs d) s l.1) _ l.3 in
    let k = then-whole (read_bytes 16 s n.1) _ n.3 in
    let a = then-whole (read_bytes 16 s k.1) _ k.3 in
    let z = whole_is a.3 in
    record {
      at3 = g.1;
      at4 = t.1;
      at5 = l.1;
      at6 = n.1;
      at7 = k.1;
      same-field = ap (λ (x : Head × ℕ). x.0.field) z;
      same-depth = ap (λ (x : Head × ℕ). x.0.depth) z;
      branch = g.2 ∙ ap (λ (x : Head × ℕ). Whole (x.0.branch_bits, g.1)) z;
      trees = t.2 ∙ ap (λ (x : Head × ℕ). Whole (x.0.trees, t.1)) z;
      terms = l.2 ∙ ap (λ (x : Head × ℕ). Whole (x.0.terms, l.1)) z;
      outputs = n.2 ∙ ap (λ (x : Head × ℕ). Whole (x.0.outputs, n.1)) z;
      code_key = k.2 ∙ ap (λ (x : Head × ℕ). Whole (x.0.code_key, k.1)) z;
      label = a.2 ∙ ap (λ (x : Head × ℕ). Whole (x.0.label, x.1)) z;
    }

pub head_parts : (end : ℕ) (s : List ℕ) {h : Head} {body : ℕ} → read_head end s ≡ Whole (h, body) → HeadParts end s h body
unfolding read_head read_sizes
head_parts end s {h} {body} e =
    let a = then-whole (read_field end s) _ e in
    let b = then-whole (read_size 16 s a.1) _ a.3 in
    let r = after_parts a.0 b.0 s b.1 b.3 in
    record {
      at1 = a.1;
      at2 = b.1;
      at3 = r.at3;
      at4 = r.at4;
      at5 = r.at5;
      at6 = r.at6;
      at7 = r.at7;
      field = a.2 ∙ ap (λ (n : ℕ). Whole (n, a.1)) r.same-field;
      depth = b.2 ∙ ap (λ (n : ℕ). Whole (n, b.1)) r.same-depth;
      branch = ap (λ (n : ℕ). read_branch n s b.1) (sym r.same-depth) ∙ r.branch;
      trees = ap (λ (n : ℕ). read_size (most_trees n) s r.at3) (sym r.same-depth) ∙ r.trees;
      terms = ap (λ (n : ℕ). read_size (most_terms n) s r.at4) (sym r.same-depth) ∙ r.terms;
      outputs = ap (λ (n : ℕ). read_size (most_outputs n) s r.at5) (sym r.same-depth) ∙ r.outputs;
      code_key = r.code_key;
      label = r.label;
    }

pub record TreeParts (field depth beside base : ℕ) (s : List ℕ) (at : ℕ) (t : NoiseTree) (next : ℕ) : Type 0 where
  pub at1 : ℕ
  pub at2 : ℕ
  pub at3 : ℕ
  pub position : read_position base (2 ^ depth) s at ≡ Whole (t.position, at1)
  pub value : read_value field s at1 ≡ Whole (t.value, at2)
  pub correction : read_correction field s at2 ≡ Whole (t.correction, at3)
  pub siblings : read_blocks beside s at3 ≡ Whole (t.siblings, next)

pub tree_parts : (field depth beside base : ℕ) (s : List ℕ) (at : ℕ) {t : NoiseTree} {next : ℕ} → read_tree field depth beside base s at ≡ Whole (t, next)
    → TreeParts field depth beside base s at t next
unfolding read_tree
tree_parts field depth beside base s at e =
    let a = then-whole (read_position base (2 ^ depth) s at) _ e in
    let b = then-whole (read_value field s a.1) _ a.3 in
    let c = then-whole (read_correction field s b.1) _ b.3 in
    let d = then-whole (read_blocks beside s c.1) _ c.3 in
    let z = whole_is d.3 in
    record {
      at1 = a.1;
      at2 = b.1;
      at3 = c.1;
      position = a.2 ∙ ap (λ (x : NoiseTree × ℕ). Whole (x.0.position, a.1)) z;
      value = b.2 ∙ ap (λ (x : NoiseTree × ℕ). Whole (x.0.value, b.1)) z;
      correction = c.2 ∙ ap (λ (x : NoiseTree × ℕ). Whole (x.0.correction, c.1)) z;
      siblings = d.2 ∙ ap (λ (x : NoiseTree × ℕ). Whole (x.0.siblings, x.1)) z;
    }

-- trees: the first, and those after it
pub trees_parts : (field depth beside n base : ℕ) (s : List ℕ) (at : ℕ) {ts : List NoiseTree} {end : ℕ} → read_trees field depth beside (suc n) base s at ≡ Whole (ts, end)
    → (t : NoiseTree) × (rest : List NoiseTree) × (next : ℕ) × (ts ≡ t ∷ rest)
    × (read_tree field depth beside base s at ≡ Whole (t, next)) × (read_trees field depth beside n (t.position + 1) s next ≡ Whole (rest, end))
unfolding read_trees
trees_parts field depth beside n base s at e =
    let a = then-whole (read_tree field depth beside base s at) _ e in
    let b = then-whole (read_trees field depth beside n (a.0.position + 1) s a.1) _ a.3 in
    let z = whole_is b.3 in
    (a.0, b.0, a.1, ap (λ (x : List NoiseTree × ℕ). x.0) (sym z), a.2, b.2 ∙ ap (λ (x : List NoiseTree × ℕ). Whole (b.0, x.1)) z)

pub trees-none : (field depth beside base : ℕ) (s : List ℕ) (at : ℕ) {ts : List NoiseTree} {end : ℕ} → read_trees field depth beside 0 base s at ≡ Whole (ts, end)
    → (ts ≡ []) × (end ≡ at)
unfolding read_trees
trees-none field depth beside base s at e =
    let z = whole_is e in
    (ap (λ (x : List NoiseTree × ℕ). x.0) (sym z), ap (λ (x : List NoiseTree × ℕ). x.1) (sym z))

-- ---- records

pub noise_parts : (s : List ℕ) {p : NoisePart} → read_noise s ≡ Whole p
    → (body : ℕ) × (end : ℕ) × (read_head 1 s ≡ Whole (p.head, body))
    × (read_trees p.head.field p.head.depth (sibling_count p.head.depth p.head.branch_bits) p.head.trees 0 s body ≡ Whole (p.trees, end)) × (length s ≤ end)
unfolding read_noise
noise_parts s {p} e =
    let a = then-whole (read_head 1 s) _ e in
    let b = then-whole (read_trees a.0.field a.0.depth (sibling_count a.0.depth a.0.branch_bits) a.0.trees 0 s a.1) _ a.3 in
    let c = ended-whole {A = NoisePart} (ltb b.1 (length s)) (record { head = a.0; trees = b.0 }) 12 b.3 in (
      a.1,
      b.1,
      a.2 ∙ ap (λ (x : NoisePart). Whole (x.head, a.1)) c.1,
      ap (λ (x : NoisePart). read_trees x.head.field x.head.depth (sibling_count x.head.depth x.head.branch_bits) x.head.trees 0 s a.1) (sym c.1) ∙ b.2 ∙ ap (λ (x : NoisePart). Whole (x.trees, b.1)) c.1,
      ltb-false _ _ c.0,
    )

pub scalar_parts : (s : List ℕ) {p : ScalarPart} → read_scalar s ≡ Whole p
    → (body : ℕ) × (at : ℕ) × (end : ℕ) × (read_head 2 s ≡ Whole (p.head, body))
    × (read_delta p.head.field s body ≡ Whole (p.delta, at)) × (read_blocks p.head.trees s at ≡ Whole (p.roots, end)) × (length s ≤ end)
unfolding read_scalar
scalar_parts s {p} e =
    let a = then-whole (read_head 2 s) _ e in
    let b = then-whole (read_delta a.0.field s a.1) _ a.3 in
    let c = then-whole (read_blocks a.0.trees s b.1) _ b.3 in
    let d = ended-whole {A = ScalarPart} (ltb c.1 (length s)) (record { head = a.0; delta = b.0; roots = c.0 }) 12 c.3 in (
      a.1,
      b.1,
      c.1,
      a.2 ∙ ap (λ (x : ScalarPart). Whole (x.head, a.1)) d.1,
      ap (λ (x : ScalarPart). read_delta x.head.field s a.1) (sym d.1) ∙ b.2 ∙ ap (λ (x : ScalarPart). Whole (x.delta, b.1)) d.1,
      ap (λ (x : ScalarPart). read_blocks x.head.trees s b.1) (sym d.1) ∙ c.2 ∙ ap (λ (x : ScalarPart). Whole (x.roots, c.1)) d.1,
      ltb-false _ _ d.0,
    )
