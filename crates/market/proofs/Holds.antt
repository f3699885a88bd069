-- What parts give, whatever wire they begin at: if one fact holds of each gate and its wire, another does, and the result is as said. No
-- law here or above speaks of a wire's number. Assumes nothing.
use Prim.Native.Nat.{ℕ, zero, suc, ◌+◌, ◌<◌, ◌≤◌}
use mathlib.Core.List.{List, [], ◌∷◌, ◌++◌, map}
use mathlib.Core.Path.{◌≡◌, refl, sym, subst}
use native.Mathlib.Nat.{add-zero}
use native.Mathlib.Omega.{arith}
use lib.Bits.{bit_xor, bit_and}
use lib.ListN.{length, get_or}
use Rattle.circuit.specs.Content.{Gate, Xor, And, Not}
use Rattle.number.proofs.Places.{split}
use Rattle.market.specs.Building.{Part, give, then, each, xor, and, invert}
use Rattle.market.specs.Circuit.{from}

-- members numbered from k, n of them
pub data From {A : Type 0} (R : ℕ → A → Type 0) : ℕ → ℕ → List A → Type 0 where
  end : {k : ℕ} → From R k 0 []
  more : {k n : ℕ} {x : A} {xs : List A} → R k x → From R (suc k) n xs → From R k (suc n) (x ∷ xs)

pub from-map : {A : Type 0} {R S : ℕ → A → Type 0} {k n : ℕ} {xs : List A} → ((i : ℕ) (x : A) → k < suc i → i < k + n → R i x → S i x)
    → From R k n xs → From S k n xs
from-map f end = end
from-map {k = k} f (more {n = n} {x = x} r s) =
    more (f k x (omega arith) (omega arith) r) (from-map (λ i y h g. f i y (omega arith) (omega arith)) s)

pub from-over : {A B : Type 0} {R : ℕ → A → Type 0} {S : ℕ → B → Type 0} {k n : ℕ} {xs : List A} (f : A → B)
    → ((i : ℕ) (x : A) → R i x → S i (f x)) → From R k n xs → From S k n (map f xs)
from-over f g end = end
from-over {k = k} f g (more {x = x} r s) = more (g k x r) (from-over f g s)

pub from_get : {A : Type 0} {R : ℕ → A → Type 0} {k n : ℕ} {xs : List A} (i : ℕ) (d : A) → i < n → From R k n xs → R (k + i) (get_or xs i d)
from_get i d h end = absurd (omega (arith, h))
from_get {R = R} {k = k} zero d h (more {x = x} r s) = subst (λ (m : ℕ). R m x) (sym (add-zero k)) r
from_get {R = R} {k = k} (suc i) d h (more {xs = xs} r s) =
    subst (λ (m : ℕ). R m (get_or xs i d)) {x = suc k + i} {y = k + suc i} (omega arith) (from_get i d (omega (arith, h)) s)

pub from-length : {A : Type 0} {R : ℕ → A → Type 0} {k n : ℕ} {xs : List A} → From R k n xs → length xs ≡ n
from-length end = refl
from-length (more {n = n} {xs = xs} r s) = omega (arith, from-length s)

-- numbers from k, numbered from k, are their own numbers
pub from_self : (k n : ℕ) → From (λ i x. x ≡ i) k n (from k n)
unfolding from
from_self k zero = end
from_self k (suc n) = more refl (from_self (suc k) n)

-- a fact of each of a list, the first with number n
unfoldable pub Every : {A : Type 0} → (ℕ → A → Type 0) → ℕ → List A → Type 0
Every R n [] = Unit {0}
Every R n (x ∷ xs) = R n x × Every R (suc n) xs

module _ {A : Type 0} (R : ℕ → A → Type 0) where
  pub every_split : (n m : ℕ) (xs ys : List A) → n + length xs ≡ m → Every R n (xs ++ ys) → Every R n xs × Every R m ys
  unfolding Every
  every_split n m [] ys e f = (tt, subst (λ (k : ℕ). Every R k ys) {x = n} {y = m} (omega (arith, e)) f)
  every_split n m (x ∷ xs) ys e f = let r = every_split (suc n) m xs ys (omega (arith, e)) f.1 in ((f.0, r.0), r.1)

  pub every_join : (n m : ℕ) (xs ys : List A) → n + length xs ≡ m → Every R n xs → Every R m ys → Every R n (xs ++ ys)
  unfolding Every
  every_join n m [] ys e f g = subst (λ (k : ℕ). Every R k ys) {x = m} {y = n} (omega (arith, e)) g
  every_join n m (x ∷ xs) ys e f g = (f.0, every_join (suc n) m xs ys (omega (arith, e)) f.1 g)

  pub every_of : (d : A) (n : ℕ) (xs : List A) → ((i : ℕ) → i < length xs → R (n + i) (get_or xs i d)) → Every R n xs
  unfolding Every
  every_of d n [] f = tt
  every_of d n (x ∷ xs) f = (
    subst (λ (m : ℕ). R m x) (add-zero n) (f 0 (omega arith)),
    every_of d (suc n) xs λ i h.
        subst (λ (m : ℕ). R m (get_or xs i d)) {x = n + suc i} {y = suc n + i} (omega arith) (f (suc i) (omega (arith, h))),
  )

pub every_at : {A : Type 0} (P : ℕ → Type 0) (n : ℕ) (xs : List A) → Every (λ m x. P m) n xs → (w : ℕ) → n ≤ w → w < n + length xs → P w
unfolding Every
every_at P n [] f w h g = absurd (omega (arith, h, g))
every_at P n (x ∷ xs) f w h g =
    split n w (λ l. every_at P (suc n) xs f.1 w l (omega (arith, g))) (λ l. subst P {x = n} {y = w} (omega (arith, h, l)) f.0)

-- where F holds of a part's gates so does G, and the result is as said
pub record Holds (F G : ℕ → Gate → Type 0) {A : Type 0} (p : Part A) (Q : A → Type 0) : Type 0 where
  pub holds : (n : ℕ) → Every F n (p n).gates → Every G n (p n).gates × Q (p n).result

module _ {F G : ℕ → Gate → Type 0} where
  pub holds-give : {A : Type 0} (x : A) {Q : A → Type 0} → Q x → Holds F G (give x) Q
  unfolding give Every
  holds-give x q = record { holds = λ n f. (tt, q) }

  pub holds_then : {A B : Type 0} {p : Part A} {q : A → Part B} {P : A → Type 0} {Q : B → Type 0}
      → Holds F G p P → ((x : A) → P x → Holds F G (q x) Q) → Holds F G (then p q) Q
  unfolding then
  holds_then {p = p} {q = q} f g = record {
    holds = λ n h.
        let m : ℕ = n + length (p n).gates in
        let hs : List Gate = (q (p n).result m).gates in
        let s = every_split F n m (p n).gates hs refl h in
        let r = f.holds n s.0 in
        let t = (g (p n).result r.1).holds m s.1 in
        (every_join G n m (p n).gates hs refl r.0 t.0, t.1);
  }

  pub holds-map : {A : Type 0} {p : Part A} {P Q : A → Type 0} → ((x : A) → P x → Q x) → Holds F G p P → Holds F G p Q
  holds-map {p = p} f g = record { holds = λ n h. let r = g.holds n h in (r.0, f (p n).result r.1) }

  pub holds-each : {A B : Type 0} {p : A → Part B} {R : ℕ → A → Type 0} {S : ℕ → B → Type 0} {k n : ℕ} {xs : List A}
      → ((i : ℕ) (x : A) → k < suc i → i < k + n → R i x → Holds F G (p x) (S i)) → From R k n xs → Holds F G (each p xs) (From S k n)
  unfolding each
  holds-each f end = holds-give [] end
  holds-each {k = k} f (more {n = n} {x = x} r s) =
      holds_then (f k x (omega arith) (omega arith) r) λ y t.
      holds_then (holds-each (λ i z h g. f i z (omega arith) (omega arith)) s) λ ys u.
      holds-give (y ∷ ys) (more t u)

-- values of wires that fit a gate
unfoldable pub value_by : (ℕ → ℕ) → Gate → ℕ
value_by v (Xor a b) = bit_xor (v a) (v b)
value_by v (And a b) = bit_and (v a) (v b)
value_by v (Not a) = bit_xor (v a) 1

abbrev pub Fits : (ℕ → ℕ) → ℕ → Gate → Type 0
Fits v n g = v n ≡ value_by v g

-- where values of wires fit a part's gates its result is as said
abbrev pub Gives : (ℕ → ℕ) → {A : Type 0} → Part A → (A → Type 0) → Type 0
Gives v p Q = Holds (Fits v) (λ n g. Unit {0}) p Q

module _ (v : ℕ → ℕ) where
  pub gives-xor : (a b : ℕ) → Gives v (xor a b) (λ w. v w ≡ bit_xor (v a) (v b))
  unfolding xor Every value_by
  gives-xor a b = record { holds = λ n f. ((tt, tt), f.0) }

  pub gives-and : (a b : ℕ) → Gives v (and a b) (λ w. v w ≡ bit_and (v a) (v b))
  unfolding and Every value_by
  gives-and a b = record { holds = λ n f. ((tt, tt), f.0) }

  pub gives-invert : (a : ℕ) → Gives v (invert a) (λ w. v w ≡ bit_xor (v a) 1)
  unfolding invert Every value_by
  gives-invert a = record { holds = λ n f. ((tt, tt), f.0) }
