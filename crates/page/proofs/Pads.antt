-- The page's pads and pad calls are the library's.
use Prim.Native.Nat.{ℕ, zero, suc, ◌+◌, ◌*◌}
use native.Mathlib.Nat.{mul_comm}
use native.Mathlib.Omega.{arith}
use mathlib.Core.Path.{◌≡◌, refl, sym, ap, ap₂, ◌∙◌, fun_ext}
use mathlib.Core.Bool.{Bool, true, false, not, true≢false}
use mathlib.Core.List.{List, [], ◌∷◌, ◌++◌}
use package.lib.ListN.{length, get_or}
use borrow.Author.Tests.{le-leb, lt-leb, leb-true, ne_eqb}
use package.lib.Dec.{eqb, leb}
use Rattle.algebra.specs.Choice.{choose}
use Rattle.algebra.specs.Coding.{at}
use Rattle.algebra.specs.Every.{every}
use Rattle.algebra.proofs.Every.{every-all, every_at}
use Rattle.aes128.specs.Cipher.{aes}
use Rattle.answer.specs.Bytes as answer_bytes
use Rattle.answer.specs.Tests.{Test, is_met, first_fault}
use Rattle.answer.specs.Outcome.{Outcome, by_number, answered}
use Rattle.answer.proofs.Above.{none_above, above-none}
use Rattle.field.specs.Bytes.{le_bytes, low_of, high_of}
use Rattle.field.specs.Binary.{block_add}
use Rattle.field.specs.declared.block.Block.{Block}
use Rattle.pads.specs.Bytes.{block_bytes, pad_pair_bytes}
use Rattle.pads.specs.Pad as lib
use Rattle.pads.specs.Calls.{NoiseLent, ScalarLent, noise_pads_by, scalar_pads_by, noise_pads, scalar_pads}
use Rattle.pads.proofs.Blocks.{wide-block, wide_pair}
use Rattle.tree.specs.Columns.{columns_at}
use Rattle.page.specs.Document01 as page
use Rattle.page.proofs.Cipher.{cipher_is}
use Rattle.page.proofs.Trees.{word_low, word-high, word-at}
use Rattle.page.proofs.Fields.{joined-long, front-over}
use Rattle.page.proofs.Rows.{block_is}
use Rattle.page.proofs.Calls.{Tests, none, more, room_is}

-- the words of a block
abbrev pub pair : Block → List ℕ
pair b = b.low ∷ b.high ∷ []

under_is : (b : Block) → page.under_ff (pair b) ≡ pair (lib.under_pad_key b)
unfolding page.under_ff page.words lib.under_pad_key lib.pad_key page.list columns_at
under_is b =
    let y = page.E (page.list 16 (λ i. 255)) (page.block (pair b)) in
    let e = cipher_is (page.list 16 (λ i. 255)) (page.block (pair b)) ∙ ap (aes lib.pad_key) (block_is (pair b)) in
    ap₂ (λ (x z : ℕ). x ∷ z ∷ []) (word_low y ∙ ap low_of e) (word-high y ∙ ap high_of e)

xor_pair : (a b : Block) → page.xor 2 (pair a) (pair b) ≡ pair (block_add a b)
unfolding page.xor page.list
xor_pair a b = refl

pub pad_is : (x : ℕ) (b : Block) → page.pad x (pair b) ≡ pair (lib.pad x b)
unfolding page.pad lib.pad
pad_is x b =
    ap (λ (a : List ℕ). page.xor 2 (page.under_ff (page.xor 2 a (x ∷ 0 ∷ []))) a) (under_is b)
    ∙ ap (λ (c : List ℕ). page.xor 2 (page.under_ff c) (pair (lib.under_pad_key b))) (xor_pair (lib.under_pad_key b) (lib.index_block x))
    ∙ ap (λ (c : List ℕ). page.xor 2 c (pair (lib.under_pad_key b))) (under_is (block_add (lib.under_pad_key b) (lib.index_block x)))
    ∙ xor_pair _ (lib.under_pad_key b)

pub block-at : (l : List ℕ) (k : ℕ) → page.block_at l k ≡ pair (at block_bytes l k)
block-at l k = ap₂ (λ (x z : ℕ). x ∷ z ∷ []) (word-at l (k * 16)) (word-at l (k * 16 + 8))

pad-at : (x : ℕ) (l : List ℕ) (k : ℕ) → page.block (page.pad x (page.block_at l k)) ≡ block_bytes.words (lib.pad x (at block_bytes l k))
unfolding page.block page.to_bytes le_bytes
pad-at x l k = ap page.block (ap (page.pad x) (block-at l k) ∙ pad_is x (at block_bytes l k))

second_at : (x : ℕ) (l d : List ℕ) (k : ℕ) → page.block (page.pad x (page.xor 2 (page.block_at l k) (page.block_at d 0)))
    ≡ block_bytes.words (lib.pad x (block_add (at block_bytes l k) (at block_bytes d 0)))
unfolding page.block page.to_bytes le_bytes
second_at x l d k =
    ap page.block
    (ap (page.pad x) (ap₂ (page.xor 2) (block-at l k) (block-at d 0) ∙ xor_pair (at block_bytes l k) (at block_bytes d 0))
    ∙ pad_is x (block_add (at block_bytes l k) (at block_bytes d 0)))

-- no number of a list is above a limit
pub none_over : (limit : ℕ) (l : List ℕ) → page.every (length l) (λ i. leb (get_or l i 0) limit) ≡ not (answer_bytes.any_above limit l)
unfolding page.every every
none_over limit l = go (answer_bytes.any_above limit l) refl
  where
    some : (t : Bool) → (t ≡ true → ⊥) → t ≡ false
    some true h = absurd (h refl)
    some false h = refl

    go : (t : Bool) → answer_bytes.any_above limit l ≡ t → every (length l) (λ i. leb (get_or l i 0) limit) ≡ not t
    go false e = every-all _ (length l) (λ i h. le-leb _ _ (none_above limit l e i))
    go true e =
        some _ λ all.
        true≢false (sym e ∙ above-none limit l (λ k h. leb-true _ _ (every_at (λ i. leb (get_or l i 0) limit) k (length l) all h)))

zero_at_most : (x : ℕ) → eqb x 0 ≡ leb x 0
zero_at_most zero = refl
zero_at_most (suc x) = ne_eqb (suc x) 0 (omega arith) ∙ sym (lt-leb (suc x) 0 (omega arith))

-- some byte is not 0
some_byte : (l : List ℕ) → not (page.every (length l) (λ i. eqb (get_or l i 0) 0)) ≡ answer_bytes.any_above 0 l
some_byte l =
    ap (λ (f : ℕ → Bool). not (page.every (length l) (λ i. f (get_or l i 0)))) (fun_ext zero_at_most)
    ∙ ap not (none_over 0 l)
    ∙ twice (answer_bytes.any_above 0 l)
  where
    twice : (t : Bool) → not (not t) ≡ t
    twice true = refl
    twice false = refl

abbrev pub noise_return : Outcome (Unit {0}) NoiseLent → page.Return
noise_return o = page.returned o.number [] (o.lent.v ∷ o.lent.choices ∷ []) (o.lent.pads ∷ [])

abbrev pub scalar_return : Outcome (Unit {0}) ScalarLent → page.Return
scalar_return o = page.returned o.number [] (o.lent.w ∷ o.lent.delta ∷ []) (o.lent.pads ∷ [])

-- a call with one output buffer that returns its number alone
alone_is : {O : Type 0} (o : O → page.Return) (inputs : List (List ℕ)) (buffer l : List ℕ) (refusal : ℕ → O)
    → ((n : ℕ) → page.returned n [] inputs (buffer ∷ []) ≡ o (refusal n))
    → (acceptance : O) → page.returned 0 [] inputs (page.front l buffer ∷ []) ≡ o acceptance
    → {page-tests : List page.Test} {tests : List Test} → Tests page-tests tests
    → page.alone (page.answer inputs ((buffer, l) ∷ []) page-tests) ≡ o (answered tests refusal acceptance)
unfolding page.answer answered by_number first_fault page.when◌then◌else◌
alone_is o inputs buffer l refusal f acceptance e none = e
alone_is o inputs buffer l refusal f acceptance e (more {page-tests} {tests} ask k ok m rest) =
    ap (λ (t : Bool). page.alone (page.when◌then◌else◌ t (page.answer inputs ((buffer, l) ∷ []) page-tests) (page.refused inputs (buffer ∷ []) (suc k)))) m
    ∙ go (is_met ask) (alone_is o inputs buffer l refusal f acceptance e rest)
  where
    go : (t : Bool) → page.alone (page.answer inputs ((buffer, l) ∷ []) page-tests) ≡ o (answered tests refusal acceptance)
        → page.alone (page.when◌then◌else◌ t (page.answer inputs ((buffer, l) ∷ []) page-tests) (page.refused inputs (buffer ∷ []) (suc k)))
        ≡ o (by_number (choose t (first_fault tests) (suc k)) refusal acceptance)
    go true h = h
    go false h = f (suc k)

module _ (first count : ℕ) where
  pub noise-pads : (v choices pads : List ℕ) → page.noise_pads first count v choices pads ≡ noise_return (noise_pads first count v choices pads)
  unfolding page.noise_pads noise_pads_by is_met
  noise-pads v choices pads =
      let all : (k : ℕ) → page.block (page.pad (first + k) (page.block_at v k)) ≡ block_bytes.words (lib.pad (first + k) (at block_bytes v k)) =
      λ k. pad-at (first + k) v k in
      let long = joined-long block_bytes wide-block count _ _ all ∙ mul_comm count 16 in
      let written = front-over block_bytes wide-block count _ _ all pads in
      alone_is noise_return _ pads _ _ (λ n. refl) _ (λ i. page.returned 0 [] (v ∷ choices ∷ []) (written i ∷ []))
      (more _ _ _ refl (more _ _ _ refl (more _ _ _ refl (more _ _ _ (room_is pads long) (more _ _ _ (none_over 1 choices) none)))))

  pub scalar-pads : (w delta pads : List ℕ) → page.scalar_pads first count w delta pads ≡ scalar_return (scalar_pads first count w delta pads)
  unfolding page.scalar_pads scalar_pads_by is_met lib.pad_pair
  scalar-pads w delta pads =
      let all : (k : ℕ) → page.block (page.pad (first + k) (page.block_at w k))
      ++ page.block (page.pad (first + k) (page.xor 2 (page.block_at w k) (page.block_at delta 0)))
      ≡ pad_pair_bytes.words (lib.pad_pair lib.pad (first + k) (at block_bytes w k) (at block_bytes delta 0)) =
      λ k. ap₂ (λ (a b : List ℕ). a ++ b) (pad-at (first + k) w k) (second_at (first + k) w delta k) in
      let long = joined-long pad_pair_bytes wide_pair count _ _ all ∙ mul_comm count 32 in
      let written = front-over pad_pair_bytes wide_pair count _ _ all pads in
      alone_is scalar_return _ pads _ _ (λ n. refl) _ (λ i. page.returned 0 [] (w ∷ delta ∷ []) (written i ∷ []))
      (more _ _ _ refl (more _ _ _ refl (more _ _ _ refl (more _ _ _ (some_byte delta) (more _ _ _ (room_is pads long) none)))))
