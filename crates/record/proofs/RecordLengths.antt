-- The length of each record from its sizes and positions: d, g, t and ℓ are below 128, so each is one byte. Assumes nothing.
use Prim.Native.Nat.{ℕ, ◌+◌, ◌*◌, ◌%◌, ◌^◌, ◌≤◌, ◌<◌}
use mathlib.Core.Bool.{true}
use mathlib.Core.List.{List, [], ◌∷◌, ◌++◌}
use mathlib.Core.Path.{◌≡◌, sym, ap, ◌∙◌}
use borrow.Author.Tests.{leb-true}
use native.Mathlib.Nat.{min-le_left}
use native.Mathlib.Omega.{arith}
use lib.Dec.{leb, eqb}
use lib.ListN.{length, length-append}
use Rattle.number.proofs.Laws.{length-number, writing_1}
use Rattle.number.specs.Number.{number_length}
use Rattle.record.proofs.Fields.{and_both}
use Rattle.record.proofs.Items.{length-flat}
use Rattle.record.proofs.Laws.{noise-exact, scalar-exact}
use Rattle.record.proofs.Lengths.{length-head, length-words, tree-start-long}
use Rattle.record.specs.Admitted.{is_size, most_trees, most_terms, Each, SixteenBytes, AdmittedHead, AdmittedTree, AdmittedNoise, AdmittedScalar}
use Rattle.record.specs.Content.{Head, NoiseTree, NoisePart, ScalarPart, sibling_count}
use Rattle.record.specs.Inner.Lengths.{head_length, tree_start_length}
use Rattle.record.specs.Lengths.{head_bytes, tree_bytes, position_bytes, noise_bytes, scalar_bytes, RecordLengths}
use Rattle.record.specs.Reading.{block_at}
use Rattle.record.specs.Writing.{write_words, write_blocks, write_head, write_tree_start, write_tree, write_trees, write_noise, write_scalar}

-- a number below 128 is one byte
one_byte : (n : ℕ) → n < 128 → number_length n ≡ 1
one_byte n h = sym (length-number n) ∙ ap length (writing_1 n h)

most : (top n : ℕ) → is_size top n ≡ true → n ≤ top
most top n e = leb-true n top (and_both (leb 1 n) (leb n top) e).1

blocks : (bs : List (List ℕ)) → Each SixteenBytes bs → length (write_blocks bs) ≡ 16 * length bs
blocks bs ok = length-flat block_at 16 (λ b. b) SixteenBytes (λ b ok. ok.0) bs ok

module _ (h : Head) (ok : AdmittedHead h) where
  small-branch : h.branch_bits < 128
  small-branch = let m = most 3 h.branch_bits (and_both (is_size 3 h.branch_bits) (eqb (h.depth % h.branch_bits) 0) ok.branch).0 in omega arith

  small-depth : h.depth < 128
  small-depth = let m = most 16 h.depth ok.depth in omega arith

  small-trees : h.trees < 128
  small-trees = let m = most (most_trees h.depth) h.trees ok.trees in let l = min-le_left 64 (2 ^ h.depth) in omega (arith, m, l)

  small-terms : h.terms < 128
  small-terms = let m = most (most_terms h.depth) h.terms ok.terms in let l = min-le_left 32 (2 ^ h.depth) in omega (arith, m, l)

  head_bytes_lem : (end : ℕ) → length (write_head end h) ≡ head_bytes h
  unfolding head_length head_bytes
  head_bytes_lem end =
      length-head end h ok.code_key.0 ok.label.0
      ∙ omega (arith, one_byte _ small-depth, one_byte _ small-branch, one_byte _ small-trees, one_byte _ small-terms)

trees-bytes : (field depth beside base : ℕ) (ts : List NoiseTree) → Each (AdmittedTree field depth beside) ts
    → length (write_trees field base ts) ≡ length ts * (16 + 16 * beside) + position_bytes base ts
unfolding write_trees write_tree position_bytes tree_start_length Each
trees-bytes field depth beside base [] ok = omega arith
trees-bytes field depth beside base (t ∷ ts) ok =
    let layout = tree-start-long field base t.position t.value t.correction ok.0.words.0 in
    let beneath = blocks t.siblings ok.0.siblings.1 in
    let rest = trees-bytes field depth beside (t.position + 1) ts ok.1 in
    omega (
      arith,
      length-append (write_tree field base t) (write_trees field (t.position + 1) ts),
      length-append (write_tree_start field base t.position t.value t.correction) (write_blocks t.siblings),
      layout,
      beneath,
      ok.0.siblings.0,
      rest,
    )

noise-bytes : (p : NoisePart) → AdmittedNoise p → length (write_noise p) ≡ noise_bytes p
unfolding write_noise noise_bytes tree_bytes
noise-bytes p ok =
    let h : Head = p.head in
    let beside : ℕ = sibling_count h.depth h.branch_bits in
    let trees = trees-bytes h.field h.depth beside 0 p.trees ok.trees in
    let count : length p.trees * (16 + 16 * beside) ≡ h.trees * (16 + 16 * beside) = ap (λ n. n * (16 + 16 * beside)) ok.count in
    omega (arith, length-append (write_head 1 h) (write_trees h.field 0 p.trees), head_bytes_lem h ok.head 1, trees, count)

scalar-bytes : (p : ScalarPart) → AdmittedScalar p → length (write_scalar p) ≡ scalar_bytes p.head
unfolding write_scalar scalar_bytes
scalar-bytes p ok =
    let h : Head = p.head in
    omega (
      arith,
      length-append (write_head 2 h) (write_words p.delta ++ write_blocks p.roots),
      length-append (write_words p.delta) (write_blocks p.roots),
      head_bytes_lem h ok.head 2,
      length-words p.delta,
      ok.words.0,
      blocks p.roots ok.roots.1,
      ok.roots.0,
    )

pub record-lengths : RecordLengths
record-lengths =
    record {
      branch = λ h ok. writing_1 h.branch_bits (small-branch h ok);
      head = λ end h ok. head_bytes_lem h ok end;
      noise = noise-bytes;
      scalar = scalar-bytes;
      noise-read = λ s bytes p e. let x = noise-exact s bytes e in ap length x.1 ∙ noise-bytes p x.0;
      scalar_read = λ s bytes p e. let x = scalar-exact s bytes e in ap length x.1 ∙ scalar-bytes p x.0;
    }
