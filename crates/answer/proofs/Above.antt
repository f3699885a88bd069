-- A search for a byte above a limit, and what is known where there is none.
use mathlib.Core.Path.{◌≡◌, refl, sym, ◌∙◌}
use mathlib.Core.Bool.{Bool, true, false, ◌||◌, or-false}
use mathlib.Core.List.{List, [], ◌∷◌}
use Prim.Native.Nat.{ℕ, zero, suc, ◌+◌, ◌≤◌, ◌<◌}
use native.Mathlib.Omega.{arith}
use Rattle.std.proofs.Math.Nat.{le-max_left, le-max_right, max-le}
use Rattle.std.specs.Prelude.{max}
use native.Mathlib.Numerals.{add-one}
use lib.Dec.{ltb}
use lib.ListN.{length, get_or, drop, drop_of_length-le}
use lib.Seq.{drop-cons}
use borrow.Author.Tests.{ltb-true, ltb-false, lt-ltb, le-ltb}
use Rattle.algebra.proofs.Tests.{or_none}
use Rattle.answer.specs.Bytes.{any_above, AreBits}

-- no byte is above the limit
pub none_above : (limit : ℕ) (bytes : List ℕ) → any_above limit bytes ≡ false → (k : ℕ) → get_or bytes k 0 ≤ limit
unfolding any_above
none_above limit [] e k = omega arith
none_above limit (b ∷ bytes) e zero = ltb-false limit b (or_none (ltb limit b) (any_above limit bytes) e).0
none_above limit (b ∷ bytes) e (suc k) = none_above limit bytes (or_none (ltb limit b) (any_above limit bytes) e).1 k

pub above-none : (limit : ℕ) (bytes : List ℕ) → ((k : ℕ) → k < length bytes → get_or bytes k 0 ≤ limit) → any_above limit bytes ≡ false
unfolding any_above
above-none limit [] all = refl
above-none limit (b ∷ bytes) all =
    rw (le-ltb limit b (all 0 (omega arith))) (above-none limit bytes (λ k h. all (suc k) (omega arith)))

-- the bytes of a slice are bits everywhere, if those below its length are
pub bits-all : (count : ℕ) (bytes : List ℕ) → length bytes ≡ count → AreBits count bytes → (k : ℕ) → get_or bytes k 0 ≤ 1
bits-all count bytes e all = none_above 1 bytes (above-none 1 bytes (λ k h. all k (omega arith)))

-- of two bytes the larger decides
larger : (limit a b : ℕ) (rest : Bool) → ltb limit a || (ltb limit b || rest) ≡ ltb limit (max a b) || rest
larger limit a b rest = side (ltb limit a) refl (ltb limit b) refl
  where
    side : (s : Bool) → ltb limit a ≡ s → (t : Bool) → ltb limit b ≡ t → ltb limit a || (ltb limit b || rest) ≡ ltb limit (max a b) || rest
    side true e t f = rw (e, lt-ltb limit (max a b) (omega (arith, ltb-true limit a e, le-max_left a b)))
    side false e true f = rw (e, f, lt-ltb limit (max a b) (omega (arith, ltb-true limit b f, le-max_right a b)))
    side false e false f = rw (e, f, le-ltb limit (max a b) (max-le (ltb-false limit a e) (ltb-false limit b f)))

-- before the first byte
pub above-start : (limit : ℕ) (l : List ℕ) → any_above limit l ≡ ltb limit 0 || any_above limit (drop 0 l)
above-start limit l = rw (le-ltb limit 0 (omega arith))

-- the search, where the largest of the first i bytes and the bytes left decide
module _ (limit : ℕ) (l : List ℕ) (i most : ℕ) (so : any_above limit l ≡ ltb limit most || any_above limit (drop i l)) where
  -- the larger of them and of byte i
  pub above_more : {now : ℕ} → i < length l → now ≡ max most (get_or l i 0) → any_above limit l ≡ ltb limit now || any_above limit (drop (i + 1) l)
  unfolding any_above
  above_more h e = so ∙ rw (e, drop-cons l i 0 h, add-one) (larger limit most (get_or l i 0) _)

  -- after the last byte
  pub above_largest : length l ≤ i → ltb limit most ≡ any_above limit l
  unfolding any_above
  above_largest h = sym (so ∙ rw (drop_of_length-le l h) (or-false (ltb limit most)))
