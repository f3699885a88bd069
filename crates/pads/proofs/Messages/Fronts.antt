-- Bytes one by one: of a list, of a block, and of two blocks; and a block masked as two words.
use mathlib.Core.Path.{◌≡◌, sym, ap, ◌∙◌}
use mathlib.Core.List.{List, [], ◌∷◌}
use mathlib.Core.Logic.{⊎_elim}
use Prim.Native.Nat.{ℕ, zero, suc, ◌+◌, ◌≤◌, ◌<◌}
use native.Mathlib.Omega.{arith}
use native.Mathlib.Nat.{mul-one, eq-or-lt_of_le, le_of_suc-le-suc}
use lib.ListN.{length, get_or, take, drop, get_or-append, length-drop}
use lib.Seq.{sets, get_or-drop, get_or-take, get_or_at, get_or-append-add, length-take-le, ext_get_or}
use mir.Syntax.{w8}
use mir.Val.{Fits}
use Rattle.algebra.specs.Coding.{flat}
use Rattle.algebra.specs.Inner.Put.{with_value}
use Rattle.algebra.proofs.Written.{flat-length}
use Rattle.field.specs.declared.block.Block.{Block}
use Rattle.field.specs.Binary.{block_add}
use Rattle.pads.specs.Bytes.{block_bytes}
use Rattle.pads.proofs.Blocks.{wide-block, block-xor}
use Rattle.pads.specs.Messages.Bytes.{Two, byte, sixteen, thirty_two, masked}
use Rattle.pads.proofs.Messages.Turns.{wide-byte, wide-sixteen}

-- byte i of the bytes of f
pub byte-flat : (n : ℕ) (f : ℕ → ℕ) (i : ℕ) → i < n → get_or (flat byte n f) i 0 ≡ f i
unfolding flat
byte-flat zero f i h = absurd (omega arith)
byte-flat (suc n) f i h =
    let l : length (flat byte n f) ≡ n = flat-length byte wide-byte n f ∙ mul-one n in
    ⊎_elim
    (λ (e : i ≡ n). rw e (get_or_at (flat byte n f) (f n) [] 0 n l))
    (λ (s : i < n). get_or-append (flat byte n f) (f n ∷ []) 0 i (omega arith) ∙ byte-flat n f i s)
    (eq-or-lt_of_le (le_of_suc-le-suc h))

-- bytes of a list, one after the other
pub take-flat : (n : ℕ) (l : List ℕ) (j : ℕ) → j + n ≤ length l → take n (drop j l) ≡ flat byte n (λ i. get_or l (j + i) 0)
take-flat n l j h =
    let t : length (take n (drop j l)) ≡ n = length-take-le n (drop j l) (simp length-drop (omega arith)) in
    let s : length (flat byte n (λ i. get_or l (j + i) 0)) ≡ n = flat-length byte wide-byte n (λ i. get_or l (j + i) 0) ∙ mul-one n in
    ext_get_or 0 _ _ (t ∙ sym s)
    (λ i k.
    get_or-take n (drop j l) i 0 (omega arith) ∙ get_or-drop j l i 0 ∙ sym (byte-flat n (λ i. get_or l (j + i) 0) i (omega arith)))

-- byte i of each of two blocks
pub byte_0 : (t : Two) (i : ℕ) → i < 16 → get_or (thirty_two.words t) i 0 ≡ t.block0 i
byte_0 t i h =
    get_or-append (sixteen.words t.block0) (sixteen.words t.block1) 0 i (omega (arith, wide-sixteen t.block0))
    ∙ byte-flat 16 t.block0 i h

pub byte_1 : (t : Two) (i : ℕ) → i < 16 → get_or (thirty_two.words t) (16 + i) 0 ≡ t.block1 i
byte_1 t i h =
    ap (λ (n : ℕ). get_or (thirty_two.words t) (n + i) 0) (sym (wide-sixteen t.block0))
    ∙ get_or-append-add (sixteen.words t.block0) (sixteen.words t.block1) i 0
    ∙ byte-flat 16 t.block1 i h

-- the block of the words' exclusive or is the block masked
masked-words : (from by : List ℕ) (at start : ℕ) → ((k : ℕ) → get_or from k 0 < 256) → ((k : ℕ) → get_or by k 0 < 256)
    → at + 16 ≤ length from → start + 16 ≤ length by
    → block_bytes.words (block_add (block_bytes.read from at) (block_bytes.read by start))
    ≡ sixteen.words (masked (sixteen.read from at) (sixteen.read by start))
masked-words from by at start left right h k =
    let f = masked (sixteen.read from at) (sixteen.read by start) in
    let b = block_add (block_bytes.read from at) (block_bytes.read by start) in
    let size : length (block_bytes.words b) ≡ 16 = wide-block b in
    ext_get_or 0 _ _ (size ∙ sym (wide-sixteen f))
    (λ i j. block-xor from by at start left right h k i (omega arith) ∙ sym (byte-flat 16 f i (omega arith)))

-- so it is written
pub put-masked : (from by out l : List ℕ) (at start to : ℕ) (a b s : Block) → ((k : ℕ) → Fits w8 (get_or from k 0)) → ((k : ℕ) → Fits w8 (get_or by k 0))
    → at + 16 ≤ length from → start + 16 ≤ length by → a ≡ block_bytes.read from at → b ≡ block_bytes.read by start → s ≡ block_add a b
    → l ≡ with_value block_bytes out to s → l ≡ with_value sixteen out to (masked (sixteen.read from at) (sixteen.read by start))
unfolding with_value
put-masked from by out l at start to a b s left right h k ae be se e =
    e ∙ rw (se, ae, be) (ap (sets out to) (masked-words from by at start (λ i. (left i).fits) (λ i. (right i).fits) h k))
