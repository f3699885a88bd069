-- Key records have one writing for each content: reading the writing of admitted content gives it back, what reads as a content
-- is exactly the writing of it and is admitted, and no record is read at both ends. The length of a writing. Assumes nothing.
use Prim.Native.Nat.{ℕ, ◌+◌, ◌≤◌}
use mathlib.Core.Bool.{false}
use mathlib.Core.List.{List, [], ◌∷◌, ◌++◌}
use mathlib.Core.Path.{◌≡◌, sym, ap, ◌∙◌, subst}
use borrow.Author.Tests.{leb-true, le-ltb}
use native.Mathlib.Nat.{zero-add}
use native.Mathlib.Omega.{arith}
use lib.Dec.{leb, ltb}
use lib.ListN.{length, get_or, length-append}
use Rattle.number.proofs.Places.{has-front, has-back, has-next, has-byte, whole_has, has-whole}
use Rattle.number.specs.Reading.{Whole, Bytes}
use Rattle.number.specs.Inner.Known.{Has}
use Rattle.record.proofs.Exact.{head-reads, head-exact, trees-reads, trees-exact, delta-reads, delta-exact, blocks-reads, blocks-exact, field-exact, within}
use Rattle.record.proofs.Fields.{and_both}
use Rattle.record.proofs.Parts.{head_parts, noise_parts, scalar_parts}
use Rattle.record.specs.Admitted.{AdmittedHead, AdmittedNoise, AdmittedScalar}
use Rattle.record.proofs.Rising.{trees-each, trees-rising, trees-from}
use Rattle.record.specs.Content.{Head, NoisePart, ScalarPart, sibling_count}
use Rattle.record.specs.Reading.{read_head, read_trees, read_noise, read_scalar}
use Rattle.record.specs.Writing.{write_words, write_blocks, write_head, write_trees, write_noise, write_scalar}

-- the depth of an admitted head
shallow : {h : Head} → AdmittedHead h → h.depth ≤ 16
shallow {h} ok = leb-true h.depth 16 (and_both (leb 1 h.depth) (leb h.depth 16) ok.depth).1

-- ---- reading a writing

pub noise-reads : (p : NoisePart) → AdmittedNoise p → read_noise (write_noise p) ≡ Whole p
unfolding write_noise read_noise
noise-reads p ok =
    let h : Head = p.head in
    let H : List ℕ = write_head 1 h in
    let R : List ℕ = write_trees h.field 0 p.trees in
    let s : List ℕ = H ++ R in
    let g : Has s 0 (H ++ R) = whole_has s in
    let e₀ = head-reads s 1 h ok.head (has-front s 0 H R g) in
    let rest : Has s (length H) R = subst (λ (i : ℕ). Has s i R) (zero-add (length H)) (has-back s 0 H R g) in
    let e₁ : read_trees h.field h.depth (sibling_count h.depth h.branch_bits) h.trees 0 s (length H) ≡ Whole (p.trees, length H + length R) =
    ap (λ (n : ℕ). read_trees h.field h.depth (sibling_count h.depth h.branch_bits) n 0 s (length H)) (sym ok.count)
    ∙ trees-reads s h.field h.depth (sibling_count h.depth h.branch_bits) 0 (length H) p.trees (shallow ok.head) (trees-from p ok) rest in
    let end : ltb (length H + length R) (length s) ≡ false = le-ltb (length H + length R) (length s) (omega (arith, length-append H R)) in
    simp (e₀, e₁, end)

pub scalar-reads : (p : ScalarPart) → AdmittedScalar p → read_scalar (write_scalar p) ≡ Whole p
unfolding write_scalar read_scalar
scalar-reads p ok =
    let h : Head = p.head in
    let H : List ℕ = write_head 2 h in
    let D : List ℕ = write_words p.delta in
    let R : List ℕ = write_blocks p.roots in
    let s : List ℕ = H ++ (D ++ R) in
    let g : Has s 0 (H ++ (D ++ R)) = whole_has s in
    let e₀ = head-reads s 2 h ok.head (has-front s 0 H (D ++ R) g) in
    let rest : Has s (length H) (D ++ R) = subst (λ (i : ℕ). Has s i (D ++ R)) (zero-add (length H)) (has-back s 0 H (D ++ R) g) in
    let e₁ = delta-reads s h.field (length H) p.delta ok.words ok.delta (has-front s (length H) D R rest) in
    let e₂ = blocks-reads s (length H + length D) h.trees p.roots ok.roots.0 ok.roots.1 (has-back s (length H) D R rest) in
    let end : ltb (length H + length D + length R) (length s) ≡ false =
    le-ltb (length H + length D + length R) (length s) (omega (arith, length-append H (D ++ R), length-append D R)) in
    simp (e₀, e₁, e₂, end)

-- ---- what reads as a content

pub noise-exact : (s : List ℕ) → Bytes s → {p : NoisePart} → read_noise s ≡ Whole p → AdmittedNoise p × (s ≡ write_noise p)
unfolding write_noise
noise-exact s bytes {p} e =
    let a = noise_parts s e in
    let h : Head = p.head in
    let H : List ℕ = write_head 1 h in
    let R : List ℕ = write_trees h.field 0 p.trees in
    let b = head-exact s bytes 1 a.2 in
    let place : a.0 ≡ 0 + length H = b.2 ∙ sym (zero-add (length H)) in
    let c = trees-exact s bytes h.field h.depth (sibling_count h.depth h.branch_bits) h.trees 0 a.0 (within s 0 H b.1 place) a.3 in (
      record { head = b.0; count = c.0; rising = trees-rising h.field h.depth (sibling_count h.depth h.branch_bits) 0 p.trees c.0 c.1; trees = trees-each h.field h.depth (sibling_count h.depth h.branch_bits) 0 p.trees c.1 },
      has-whole s (H ++ R) (has-next s 0 H R b.1 place c.2)
          (omega (arith, a.4, b.2, c.3, length-append H R, within s a.0 R c.2 c.3)),
    )

pub scalar-exact : (s : List ℕ) → Bytes s → {p : ScalarPart} → read_scalar s ≡ Whole p → AdmittedScalar p × (s ≡ write_scalar p)
unfolding write_scalar
scalar-exact s bytes {p} e =
    let a = scalar_parts s e in
    let h : Head = p.head in
    let H : List ℕ = write_head 2 h in
    let D : List ℕ = write_words p.delta in
    let R : List ℕ = write_blocks p.roots in
    let b = head-exact s bytes 2 a.3 in
    let place : a.0 ≡ 0 + length H = b.2 ∙ sym (zero-add (length H)) in
    let c = delta-exact s bytes h.field a.0 a.4 in
    let d = blocks-exact s bytes a.1 h.trees a.5 in (
      record { head = b.0; words = c.0; delta = c.1; roots = (d.0, d.1) },
      has-whole s (H ++ (D ++ R)) (has-next s 0 H (D ++ R) b.1 place (has-next s a.0 D R c.2 c.3 d.2))
          (omega (arith, a.6, b.2, c.3, d.3, length-append H (D ++ R), length-append D R, within s a.1 R d.2 d.3)),
    )

-- an accepted record is the only writing of its content
pub noise-one : (s u : List ℕ) → Bytes s → Bytes u → {p : NoisePart} → read_noise s ≡ Whole p → read_noise u ≡ Whole p → s ≡ u
noise-one s u bs bu e f = (noise-exact s bs e).1 ∙ sym (noise-exact u bu f).1

pub scalar-one : (s u : List ℕ) → Bytes s → Bytes u → {p : ScalarPart} → read_scalar s ≡ Whole p → read_scalar u ≡ Whole p → s ≡ u
scalar-one s u bs bu e f = (scalar-exact s bs e).1 ∙ sym (scalar-exact u bu f).1

-- no record is accepted at both ends
first_byte : (end : ℕ) (s : List ℕ) {h : Head} {body : ℕ} → read_head end s ≡ Whole (h, body) → get_or s 0 0 ≡ end
first_byte end s {h} e =
    let f = field-exact s end (head_parts end s e).field in
    (has-byte s 0 end (has-front s 0 (end ∷ []) (h.field ∷ []) f.1)).1

pub one_end : (s : List ℕ) {p : NoisePart} {q : ScalarPart} → read_noise s ≡ Whole p → read_scalar s ≡ Whole q → ⊥
one_end s e f =
    let a = first_byte 1 s (noise_parts s e).2 in
    let b = first_byte 2 s (scalar_parts s f).3 in
    omega arith
