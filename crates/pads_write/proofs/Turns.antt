-- The loops of both calls: one turn more of each pass, and both passes together.
use mathlib.Core.Path.{◌≡◌, refl, ap, ◌∙◌}
use mathlib.Core.List.{List}
use Prim.Native.Nat.{ℕ, ◌+◌, ◌*◌, ◌≤◌, ◌<◌}
use native.Mathlib.Omega.{arith}
use native.Mathlib.Nat.{mul_comm}
use lib.ListN.{length}
use Rattle.algebra.specs.Coding.{at, over}
use Rattle.algebra.specs.Inner.Put.{with_value}
use Rattle.algebra.proofs.Written.{front_more, read_past, two-passes}
use Rattle.field.specs.declared.block.Block.{Block}
use Rattle.field.specs.Binary.{block_add}
use Rattle.pads.specs.Bytes.{PadPair, block_bytes, pad_pair_bytes}
use Rattle.pads.specs.Pad.{under_pad_key, pad, pad_pair}
use Rattle.pads.specs.Inner.Passes.{second_step, first_steps, second_steps}
use Rattle.pads.proofs.Blocks.{wide-block, wide_pair, two_blocks, placed-block, placed_pair, back_pair, back_step}

-- the pad, and both pads, of output k of a window
abbrev pub pad_of : ℕ → List ℕ → ℕ → Block
pad_of first vs k = pad (first + k) (at block_bytes vs k)

abbrev pub both_pads_of : ℕ → List ℕ → Block → ℕ → PadPair
both_pads_of first ws Δ k = pad_pair pad (first + k) (at block_bytes ws k) Δ

-- two blocks more
two_more : (f : ℕ → Block) (k pairs : ℕ) (b l l' : List ℕ) (p q : Block) → k < pairs → pairs * 32 ≤ length b
    → l ≡ over block_bytes (2 * k) f b → p ≡ f (2 * k) → q ≡ f (2 * k + 1)
    → l' ≡ with_value block_bytes (with_value block_bytes l (32 * k) p) (32 * k + 16) q → l' ≡ over block_bytes (2 * (k + 1)) f b
two_more f k pairs b l l' p q h room e pe qe g =
    let m = with_value block_bytes l (32 * k) (f (2 * k)) in
    let both : 2 * (k + 1) ≡ 2 * k + 1 + 1 = omega arith in
    let one : m ≡ over block_bytes (2 * k + 1) f b =
    front_more block_bytes wide-block f b (2 * k) (32 * k) l m (omega arith) (omega arith) e refl in
    rw both (front_more block_bytes wide-block f b (2 * k + 1) (32 * k + 16) m l' (omega arith) (omega arith) one (g ∙ rw (pe, qe)))

-- the first steps of two blocks more
pub pairs_started : (k pairs : ℕ) (vs b l l' : List ℕ) (a c : Block) → k < pairs → pairs * 32 ≤ length b
    → l ≡ over block_bytes (2 * k) (λ i. under_pad_key (at block_bytes vs i)) b
    → a ≡ block_bytes.read vs (32 * k) → c ≡ block_bytes.read vs (32 * k + 16)
    → l' ≡ with_value block_bytes (with_value block_bytes l (32 * k) (under_pad_key a)) (32 * k + 16) (under_pad_key c)
    → l' ≡ over block_bytes (2 * (k + 1)) (λ i. under_pad_key (at block_bytes vs i)) b
pairs_started k pairs vs b l l' a c h room e ae ce =
    let place : 32 * k ≡ 2 * k * 16 = omega arith in
    let next : 32 * k + 16 ≡ (2 * k + 1) * 16 = omega arith in
    two_more (λ i. under_pad_key (at block_bytes vs i)) k pairs b l l' _ _ h room e (rw (ae, place)) (rw (ce, next))

-- two pads more finished
pub pairs_finished : (first k pairs x : ℕ) (b l l' : List ℕ) → k < pairs → pairs * 32 ≤ length b
    → l ≡ over block_bytes (2 * k) (λ i. second_step (first + i) (at block_bytes b i)) b → x ≡ first + 2 * k
    → l' ≡ with_value block_bytes (with_value block_bytes l (32 * k) (second_step x (block_bytes.read l (32 * k)))) (32 * k + 16) (second_step (x + 1) (block_bytes.read l (32 * k + 16)))
    → l' ≡ over block_bytes (2 * (k + 1)) (λ i. second_step (first + i) (at block_bytes b i)) b
pairs_finished first k pairs x b l l' h room e index =
    let next : x + 1 ≡ first + (2 * k + 1) = omega arith in
    two_more (λ i. second_step (first + i) (at block_bytes b i)) k pairs b l l' _ _ h room e
    (cc (index, read_past block_bytes wide-block placed-block (2 * k) (2 * k) (32 * k) _ b l (omega arith) (omega arith) e))
    (cc (next, read_past block_bytes wide-block placed-block (2 * k) (2 * k + 1) (32 * k + 16) _ b l (omega arith) (omega arith) e))

-- the last pad of an odd count
pub pads-last : (first k count : ℕ) (vs b l l' : List ℕ) (w p : Block) → k < count → count ≤ k + 1 → count * 16 ≤ length b
    → l ≡ over block_bytes k (pad_of first vs) b → w ≡ block_bytes.read vs (16 * k) → p ≡ pad (first + k) w
    → l' ≡ with_value block_bytes l (16 * k) p → l' ≡ over block_bytes count (pad_of first vs) b
pads-last first k count vs b l l' w p h last room e we pe g =
    let all : count ≡ k + 1 = omega arith in
    rw all (front_more block_bytes wide-block (pad_of first vs) b k (16 * k) l l' (omega arith) (omega arith) e (g ∙ rw (pe, we, mul_comm 16 k)))

-- two pads more
both-pads_more : (f : ℕ → PadPair) (k count : ℕ) (b l l' : List ℕ) (p q : Block) → k < count → count * 32 ≤ length b
    → l ≡ over pad_pair_bytes k f b → p ≡ (f k).pad0 → q ≡ (f k).pad1
    → l' ≡ with_value block_bytes (with_value block_bytes l (32 * k) p) (32 * k + 16) q → l' ≡ over pad_pair_bytes (k + 1) f b
both-pads_more f k count b l l' p q h room e pe qe g =
    front_more pad_pair_bytes wide_pair f b k (32 * k) l l' (omega arith) (omega arith) e (g ∙ rw (pe, qe) (two_blocks l (32 * k) (f k)))

-- the first steps of two pads more
pub both-pads_started : (k count : ℕ) (ws b l l' : List ℕ) (w s Δ : Block) → k < count → count * 32 ≤ length b
    → l ≡ over pad_pair_bytes k (λ i. first_steps (at block_bytes ws i) Δ) b → w ≡ block_bytes.read ws (16 * k) → s ≡ block_add w Δ
    → l' ≡ with_value block_bytes (with_value block_bytes l (32 * k) (under_pad_key w)) (32 * k + 16) (under_pad_key s)
    → l' ≡ over pad_pair_bytes (k + 1) (λ i. first_steps (at block_bytes ws i) Δ) b
unfolding first_steps
both-pads_started k count ws b l l' w s Δ h room e we se =
    both-pads_more (λ i. first_steps (at block_bytes ws i) Δ) k count b l l' _ _ h room e
    (rw (we, mul_comm 16 k)) (rw (se, we, mul_comm 16 k))

-- two pads more finished
pub both-pads-finished : (first k count x : ℕ) (b l l' : List ℕ) → k < count → count * 32 ≤ length b
    → l ≡ over pad_pair_bytes k (λ i. second_steps (first + i) (at pad_pair_bytes b i)) b → x ≡ first + k
    → l' ≡ with_value block_bytes (with_value block_bytes l (32 * k) (second_step x (block_bytes.read l (32 * k)))) (32 * k + 16) (second_step x (block_bytes.read l (32 * k + 16)))
    → l' ≡ over pad_pair_bytes (k + 1) (λ i. second_steps (first + i) (at pad_pair_bytes b i)) b
unfolding second_steps
both-pads-finished first k count x b l l' h room e index =
    let unfinished : pad_pair_bytes.read l (32 * k) ≡ at pad_pair_bytes b k =
    read_past pad_pair_bytes wide_pair placed_pair k k (32 * k) _ b l (omega arith) (omega arith) e in
    both-pads_more (λ i. second_steps (first + i) (at pad_pair_bytes b i)) k count b l l' _ _ h room e
    (rw index (ap (λ (m : PadPair). second_step (first + k) m.pad0) unfinished))
    (rw index (ap (λ (m : PadPair). second_step (first + k) m.pad1) unfinished))

-- the pads in two passes
pub pairs_passes : (first n : ℕ) (vs b l l' : List ℕ) → l ≡ over block_bytes n (λ i. under_pad_key (at block_bytes vs i)) b
    → l' ≡ over block_bytes n (λ i. second_step (first + i) (at block_bytes l i)) l → l' ≡ over block_bytes n (pad_of first vs) b
unfolding pad second_step
pairs_passes first n vs b l l' =
    two-passes block_bytes wide-block placed-block n (λ i. under_pad_key (at block_bytes vs i)) (pad_of first vs)
    (λ i. second_step (first + i)) b l l' (λ i. back_step (at block_bytes vs i)) (λ i. refl)

-- the pads in two passes
pub both-pads-passes : (first n : ℕ) (ws b l l' : List ℕ) (Δ : Block)
    → l ≡ over pad_pair_bytes n (λ i. first_steps (at block_bytes ws i) Δ) b
    → l' ≡ over pad_pair_bytes n (λ i. second_steps (first + i) (at pad_pair_bytes l i)) l
    → l' ≡ over pad_pair_bytes n (both_pads_of first ws Δ) b
unfolding pad_pair pad second_step first_steps second_steps
both-pads-passes first n ws b l l' Δ =
    two-passes pad_pair_bytes wide_pair placed_pair n (λ i. first_steps (at block_bytes ws i) Δ) (both_pads_of first ws Δ)
    (λ i. second_steps (first + i)) b l l'
    (λ i. back_pair (first_steps (at block_bytes ws i) Δ) (back_step _) (back_step _)) (λ i. refl)
