-- Laws of bits: exclusive or and AND of 0 and 1, and the share of an AND. Assumes nothing.
use Prim.Native.Nat.{ℕ, ◌≤◌}
use mathlib.Core.Bool.{Bool, true, ◌&&◌}
use mathlib.Core.Path.{◌≡◌, refl, sym, ap, ap₂, ◌∙◌, subst}
use borrow.Author.Tests.{eqb-true}
use native.Mathlib.Omega.{arith}
use lib.Bits.{bit_xor, bit_and, xor_comm}
use lib.Dec.{eqb}
use Rattle.algebra.proofs.Tests.{and_left, and_right}
use Rattle.circuit_run.proofs.Bits.{xor-bit}
use Rattle.circuit_run.specs.Step.{and_share}
use Rattle.field.proofs.Xor.{xor_assoc}
use Rattle.number.proofs.Places.{split}

-- NOT of one of two shares
pub not-shares : (x y : ℕ) → bit_xor (bit_xor x 1) y ≡ bit_xor (bit_xor x y) 1
not-shares x y = xor_assoc x 1 y ∙ ap (bit_xor x) (xor_comm 1 y) ∙ sym (xor_assoc x y 1)

-- exclusive or of shares is the share of the exclusive or
pub xor-shares : (x y z u : ℕ) → bit_xor (bit_xor x y) (bit_xor z u) ≡ bit_xor (bit_xor x z) (bit_xor y u)
xor-shares x y z u =
    xor_assoc x y (bit_xor z u)
    ∙ ap (bit_xor x) (sym (xor_assoc y z u) ∙ ap (λ (n : ℕ). bit_xor n u) (xor_comm y z) ∙ xor_assoc z y u)
    ∙ sym (xor_assoc x z (bit_xor y u))

-- a test of bits holds if it does of 0 and of 1
unfoldable every : (ℕ → Bool) → Bool
every t = t 0 && t 1

at_bit : (t : ℕ → Bool) → every t ≡ true → {x : ℕ} → x ≤ 1 → t x ≡ true
unfolding every
at_bit t e {x} h =
    split x 1
    (λ l. subst (λ (n : ℕ). t n ≡ true) {x = 0} {y = x} (omega arith) (and_left (t 0) (t 1) e))
    (λ g. subst (λ (n : ℕ). t n ≡ true) {x = 1} {y = x} (omega arith) (and_right (t 0) (t 1) e))

at_bits : (t : ℕ → ℕ → ℕ → ℕ → Bool) → every (λ x. every (λ y. every (λ z. every (λ u. t x y z u)))) ≡ true
    → {x y z u : ℕ} → x ≤ 1 → y ≤ 1 → z ≤ 1 → u ≤ 1 → t x y z u ≡ true
at_bits t e {x} {y} {z} {u} h g k l =
    at_bit (λ d. t x y z d)
    (at_bit (λ c. every (λ d. t x y c d))
    (at_bit (λ b. every (λ c. every (λ d. t x b c d)))
    (at_bit (λ a. every (λ b. every (λ c. every (λ d. t a b c d)))) e h) g) k) l

-- AND of a bit and a sum
spread : {x y z : ℕ} → x ≤ 1 → y ≤ 1 → z ≤ 1 → bit_xor (bit_and x y) (bit_and x z) ≡ bit_and x (bit_xor y z)
unfolding every
spread h g k = eqb-true _ _ (at_bits (λ x y z _. eqb (bit_xor (bit_and x y) (bit_and x z)) (bit_and x (bit_xor y z))) refl h g k k)

-- x AND y from both masked by a and b
abbrev unmasked : ℕ → ℕ → ℕ → ℕ → ℕ
unmasked x y a b =
    bit_xor (bit_xor (bit_xor (bit_and a b) (bit_and (bit_xor x a) b)) (bit_and (bit_xor y b) a)) (bit_and (bit_xor x a) (bit_xor y b))

unmasks : {x y a b : ℕ} → x ≤ 1 → y ≤ 1 → a ≤ 1 → b ≤ 1 → unmasked x y a b ≡ bit_and x y
unfolding every
unmasks h g k l = eqb-true _ _ (at_bits (λ x y a b. eqb (unmasked x y a b) (bit_and x y)) refl h g k l)

-- the parts of both ends' sums, brought together
gathered : (c p q r c' p' q' : ℕ)
    → bit_xor (bit_xor (bit_xor (bit_xor c p) q) r) (bit_xor (bit_xor c' p') q') ≡ bit_xor (bit_xor (bit_xor (bit_xor c c') (bit_xor p p')) (bit_xor q q')) r
gathered c p q r c' p' q' =
    let u : ℕ = bit_xor (bit_xor c p) q in
    let v : ℕ = bit_xor (bit_xor c' p') q' in
    xor_assoc u r v
    ∙ ap (bit_xor u) (xor_comm r v)
    ∙ sym (xor_assoc u v r)
    ∙ ap (λ (n : ℕ). bit_xor n r)
    (xor-shares (bit_xor c p) q (bit_xor c' p') q' ∙ ap (λ (n : ℕ). bit_xor n (bit_xor q q')) (xor-shares c p c' p'))

-- the shares of an AND of both ends: x and y are the wires' shares, a, b and t the triples' bits, D and E as each end combines them
pub and-shares : {x y a b t x' y' a' b' t' : ℕ} → x ≤ 1 → y ≤ 1 → a ≤ 1 → b ≤ 1 → t ≤ 1 → x' ≤ 1 → y' ≤ 1 → a' ≤ 1 → b' ≤ 1 → t' ≤ 1
    → bit_xor t t' ≡ bit_and (bit_xor a a') (bit_xor b b')
    → bit_xor
    (and_share 1 (bit_xor (bit_xor x a) (bit_xor x' a')) (bit_xor (bit_xor y b) (bit_xor y' b')) a b t)
    (and_share 2 (bit_xor (bit_xor x' a') (bit_xor x a)) (bit_xor (bit_xor y' b') (bit_xor y b)) a' b' t')
    ≡ bit_and (bit_xor x x') (bit_xor y y')
unfolding and_share
and-shares {x} {y} {a} {b} {t} {x'} {y'} {a'} {b'} {t'} hx hy ha hb ht hx' hy' ha' hb' ht' m =
    let d : ℕ = bit_xor (bit_xor x a) (bit_xor x' a') in
    let e : ℕ = bit_xor (bit_xor y b) (bit_xor y' b') in
    let hd : d ≤ 1 = xor-bit (xor-bit hx ha) (xor-bit hx' ha') in
    let he : e ≤ 1 = xor-bit (xor-bit hy hb) (xor-bit hy' hb') in
    ap₂ (λ (n k : ℕ). bit_xor (bit_xor (bit_xor (bit_xor t (bit_and d b)) (bit_and e a)) (bit_and d e)) (bit_xor (bit_xor t' (bit_and n b')) (bit_and k a')))
    (xor_comm (bit_xor x' a') (bit_xor x a)) (xor_comm (bit_xor y' b') (bit_xor y b))
    ∙ gathered t (bit_and d b) (bit_and e a) (bit_and d e) t' (bit_and d b') (bit_and e a')
    ∙ ap (λ (n : ℕ). bit_xor (bit_xor (bit_xor n (bit_xor (bit_and d b) (bit_and d b'))) (bit_xor (bit_and e a) (bit_and e a'))) (bit_and d e)) m
    ∙ ap₂ (λ (n k : ℕ). bit_xor (bit_xor (bit_xor (bit_and (bit_xor a a') (bit_xor b b')) n) k) (bit_and d e)) (spread hd hb hb') (spread he ha ha')
    ∙ ap₂ (λ (n k : ℕ). bit_xor (bit_xor (bit_xor (bit_and (bit_xor a a') (bit_xor b b')) (bit_and n (bit_xor b b'))) (bit_and k (bit_xor a a'))) (bit_and n k))
    (xor-shares x a x' a') (xor-shares y b y' b')
    ∙ unmasks (xor-bit hx hx') (xor-bit hy hy') (xor-bit ha ha') (xor-bit hb hb')
