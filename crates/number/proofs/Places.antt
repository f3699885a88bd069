-- Laws of places in a record: bytes that stand there, fields read one after the other, and bytes written into a buffer.
-- Assumes nothing.
use Prim.Native.Nat.{ℕ, ◌+◌, ◌≤◌, ◌<◌}
use mathlib.Core.Bool.{Bool, true, false}
use mathlib.Core.List.{List, [], ◌∷◌, ◌++◌}
use mathlib.Core.Path.{◌≡◌, refl, sym, ap, ap₂, ◌∙◌, subst}
use native.Mathlib.Decide.{dec_lt}
use native.Mathlib.Omega.{arith}
use borrow.Author.Tests.{lt-ltb, le-leb, ltb-true, leb-true}
use lib.Dec.{ltb, leb}
use lib.ListN.{length, get_or, take, drop, length-append, length-drop}
use lib.Seq.{take-add, take-take, take_at, drop_at, drop-drop, drop-cons, take-length, length-take-le, length-sets}
use Rattle.algebra.proofs.Written.{sets_append}
use Rattle.number.specs.Reading.{Reading, Whole, Refused, Parsed, then, choose, tested, part, read_bytes, read_byte}
use Rattle.number.specs.Inner.Known.{is_whole, Has}
use Rattle.number.specs.Inner.Written.{Room, Wrote}

-- one order or the other
pub split {ℓ} : {X : Type ℓ} (a b : ℕ) → (a < b → X) → (b ≤ a → X) → X
split a b f g = elim (dec_lt a b) [ yes h ↦ f h | no h ↦ g (omega arith) ]

-- equal or not
pub either {ℓ} : {X : Type ℓ} (a b : ℕ) → (a ≡ b → X) → ((a ≡ b → ⊥) → X) → X
either a b f g = split a b (λ h. g (λ e. omega arith)) (λ h. split b a (λ k. g (λ e. omega arith)) (λ k. f (omega arith)))

-- ---- what was read

-- a refusal is no content
pub refused-whole : {A : Type 0} {r : Reading A} {k : ℕ} {z : A} → Refused k ≡ r → r ≡ Whole z → ⊥
refused-whole {A} {r} {k} {z} p q = let e : ◌≡◌ {A = ℕ} 0 1 = cc in omega arith

pub refused-known : {A : Type 0} {r : Reading A} {k : ℕ} → Refused k ≡ r → is_whole r ≡ true → ⊥
refused-known {A} {r} {k} p q = let e : false ≡ true = ap (λ (x : Reading A). is_whole x) p ∙ q in let z : ◌≡◌ {A = ℕ} 0 1 = cc in omega arith

pub whole_is : {A : Type 0} {x y : A} → Whole x ≡ Whole y → x ≡ y
whole_is e = cc

-- what is known to be whole
pub whole_of : {A : Type 0} (x : Reading A) → is_whole x ≡ true → (z : A) × (x ≡ Whole z)
whole_of (Whole z) e = (z, refl)
whole_of {A} (Refused k) e = absurd (refused-known {A = A} {k = k} refl e)

-- what a whole field was, and that the rest was whole
pub then-whole : {A B : Type 0} (r : Parsed A) (k : A → ℕ → Reading B) {z : B} → then r k ≡ Whole z
    → (x : A) × (next : ℕ) × (r ≡ Whole (x, next)) × (k x next ≡ Whole z)
then-whole (Whole r) k e = (r.0, r.1, refl, e)
then-whole (Refused n) k e = absurd (refused-whole refl e)

-- a test whose outcome is known
pub choose_yes : {A : Type 0} {b : Bool} (x y : A) → b ≡ true → choose b x y ≡ x
choose_yes x y e = simp e

pub choose_no : {A : Type 0} {b : Bool} (x y : A) → b ≡ false → choose b x y ≡ y
choose_no x y e = simp e

-- a test that was passed
pub choose-whole : {A : Type 0} (b : Bool) (x : A) (k : ℕ) {z : A} → choose b (Whole x) (Refused k) ≡ Whole z → (b ≡ true) × (x ≡ z)
choose-whole true x k e = (refl, cc)
choose-whole false x k e = absurd (refused-whole refl e)

pub ended-whole : {A : Type 0} (b : Bool) (x : A) (k : ℕ) {z : A} → choose b (Refused k) (Whole x) ≡ Whole z → (b ≡ false) × (x ≡ z)
ended-whole true x k e = absurd (refused-whole refl e)
ended-whole false x k e = (refl, cc)

pub tested-whole : {A : Type 0} (r : Parsed A) (ok : A → Bool) (k : ℕ) {x : A} {next : ℕ} → tested r ok k ≡ Whole (x, next)
    → (r ≡ Whole (x, next)) × (ok x ≡ true)
unfolding tested
tested-whole {A} (Whole r) ok k {x} {next} e =
    let c = choose-whole {A = A × ℕ} (ok r.0) (r.0, r.1) k e in
    (ap (λ (z : A × ℕ). Whole z) c.1, ap (λ (z : A × ℕ). ok z.0) (sym c.1) ∙ c.0)
tested-whole (Refused n) ok k e = absurd (refused-whole refl e)

pub tested_reads : {A : Type 0} {r : Parsed A} (ok : A → Bool) (k : ℕ) {x : A} {next : ℕ} → r ≡ Whole (x, next) → ok x ≡ true
    → tested r ok k ≡ Whole (x, next)
unfolding tested
tested_reads ok k e t = simp (e, t)

-- ---- bytes that stand at a place

module _ (s : List ℕ) where
  pub has-front : (at : ℕ) (u v : List ℕ) → Has s at (u ++ v) → Has s at u
  unfolding Has
  has-front at u v h = (
    omega (arith, h.0, length-append u v),
    sym (take-take (length u) (length (u ++ v)) (drop at s) (omega (arith, length-append u v)))
        ∙ ap (take (length u)) h.1 ∙ take_at u v (length u) refl,
  )

  pub has-back : (at : ℕ) (u v : List ℕ) → Has s at (u ++ v) → Has s (at + length u) v
  unfolding Has
  has-back at u v h = (
    omega (arith, h.0, length-append u v),
    sym (drop_at (part s at (length u)) (part s (at + length u) (length v)) (length u)
        (length-take-le (length u) (drop at s) (omega (arith, h.0, length-drop at s, length-append u v))))
        ∙ ap (drop (length u))
        (ap (λ (l : List ℕ). part s at (length u) ++ take (length v) l) (sym (drop-drop (length u) at s))
        ∙ sym (take-add (length u) (length v) (drop at s))
        ∙ ap (λ (n : ℕ). part s at n) (sym (length-append u v)) ∙ h.1)
        ∙ drop_at u v (length u) refl,
  )

  pub has_join : (at : ℕ) (u v : List ℕ) → Has s at u → Has s (at + length u) v → Has s at (u ++ v)
  unfolding Has
  has_join at u v h g = (
    omega (arith, g.0, length-append u v),
    ap (λ (n : ℕ). part s at n) (length-append u v) ∙ take-add (length u) (length v) (drop at s)
        ∙ ap₂ (λ (a b : List ℕ). a ++ b) h.1 (ap (take (length v)) (drop-drop (length u) at s) ∙ g.1),
  )

  pub has-next : (at : ℕ) {next : ℕ} (u v : List ℕ) → Has s at u → next ≡ at + length u → Has s next v → Has s at (u ++ v)
  has-next at u v h e g = has_join at u v h (subst (λ (i : ℕ). Has s i v) e g)

  pub has_is : (at : ℕ) {u v : List ℕ} → u ≡ v → Has s at u → Has s at v
  has_is at e h = subst (Has s at) e h

  pub has-byte : (at x : ℕ) → Has s at (x ∷ []) → (at < length s) × (get_or s at 0 ≡ x)
  unfolding Has
  has-byte at x h =
      let k : at < length s = omega (arith, h.0) in
      (k, let e : get_or s at 0 ∷ [] ≡ x ∷ [] = ap (take 1) (sym (drop-cons s at 0 k)) ∙ h.1 in cc)

  pub byte-has : (at : ℕ) → at < length s → Has s at (get_or s at 0 ∷ [])
  unfolding Has
  byte-has at h = (omega arith, ap (take 1) (drop-cons s at 0 h))

  pub part-has : (at n : ℕ) → at + n ≤ length s → (length (part s at n) ≡ n) × Has s at (part s at n)
  unfolding Has
  part-has at n h =
      let e : length (part s at n) ≡ n = length-take-le n (drop at s) (omega (arith, length-drop at s)) in
      (e, (omega arith, ap (λ (k : ℕ). part s at k) e))

  -- bytes that take up the whole record are the record
  pub has-whole : (w : List ℕ) → Has s 0 w → length s ≡ length w → s ≡ w
  unfolding Has
  has-whole w h e = sym (take-length s) ∙ ap (λ (n : ℕ). take n s) e ∙ h.1

  pub whole_has : Has s 0 s
  unfolding Has
  whole_has = (omega arith, take-length s)

  -- ---- fields

  pub byte_reads : (at x : ℕ) → Has s at (x ∷ []) → read_byte s at ≡ Whole (x, at + 1)
  unfolding read_byte
  byte_reads at x h = let b = has-byte at x h in simp (lt-ltb _ _ b.0, b.1)

  pub byte-whole : (at : ℕ) {x next : ℕ} → read_byte s at ≡ Whole (x, next) → Has s at (x ∷ []) × (next ≡ at + 1)
  unfolding read_byte
  byte-whole at {x} {next} e =
      let c = choose-whole (ltb at (length s)) (get_or s at 0, at + 1) 10 e in
      (subst (λ (z : ℕ × ℕ). Has s at (z.0 ∷ [])) c.1 (byte-has at (ltb-true _ _ c.0)), ap (λ (z : ℕ × ℕ). z.1) (sym c.1))

  pub bytes-reads : (at : ℕ) (w : List ℕ) {n : ℕ} → length w ≡ n → Has s at w → read_bytes n s at ≡ Whole (w, at + n)
  unfolding read_bytes Has
  bytes-reads at w {n} e h =
      let k : at + n ≤ length s = omega (arith, h.0) in
      let p : part s at n ≡ w = ap (λ (m : ℕ). part s at m) (sym e) ∙ h.1 in
      simp (le-leb _ _ k, p)

  pub bytes_whole : (at n : ℕ) {w : List ℕ} {next : ℕ} → read_bytes n s at ≡ Whole (w, next)
      → (length w ≡ n) × Has s at w × (next ≡ at + n) × (w ≡ part s at n)
  unfolding read_bytes
  bytes_whole at n {w} {next} e =
      let c = choose-whole (leb (at + n) (length s)) (part s at n, at + n) 10 e in
      let p : part s at n ≡ w = ap (λ (z : List ℕ × ℕ). z.0) c.1 in
      let h = part-has at n (leb-true _ _ c.0) in
      (ap length (sym p) ∙ h.0, subst (λ (l : List ℕ). Has s at l) p h.1, ap (λ (z : List ℕ × ℕ). z.1) (sym c.1), sym p)

-- ---- bytes written into a buffer, one run after the other

pub wrote_then : {b b₁ b₂ : List ℕ} {at next end : ℕ} {u v : List ℕ} → Wrote b at u next b₁ → Wrote b₁ next v end b₂ → Wrote b at (u ++ v) end b₂
wrote_then {b} {b₁} {b₂} {at} {next} {end} {u} {v} w x =
    record {
      place = omega (arith, w.place, x.place, length-append u v);
      stored = x.stored ∙ rw (w.place, w.stored) (sym (sets_append b at u v));
    }

pub room-front : {b : List ℕ} {at : ℕ} (u v : List ℕ) → Room b at (u ++ v) → Room b at u
room-front u v r = record { fits = omega (arith, r.fits, length-append u v) }

pub room_back : {b b₁ : List ℕ} {at next : ℕ} (u v : List ℕ) → Wrote b at u next b₁ → Room b at (u ++ v) → Room b₁ next v
room_back {b} {b₁} {at} u v w r =
    record { fits = omega (arith, w.place, r.fits, length-append u v, ap length w.stored, length-sets b at u) }
