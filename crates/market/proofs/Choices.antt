-- The marked level's number, and the word that is marked: at most one level is marked, so exclusive or gathers. Assumes nothing.
use Prim.Native.Nat.{ℕ, suc, ◌+◌, ◌*◌, ◌^◌, ◌<◌, ◌≤◌}
use mathlib.Core.Bool.{Bool, true, false}
use mathlib.Core.List.{List, [], ◌∷◌}
use mathlib.Core.Path.{◌≡◌, refl, sym, ap, ◌∙◌}
use borrow.Author.Tests.{eqb-true, eqb-false, eq-eqb, ne_eqb}
use native.Mathlib.Omega.{arith}
use lib.Bits.{bit_xor}
use lib.Dec.{eqb}
use lib.ListN.{length}
use Rattle.algebra.specs.Choice.{choose}
use Rattle.number.proofs.Places.{split, either}
use Rattle.market.specs.Circuit.{bit, gather_to, gather, having, level_bit, choose_to, chosen}
use Rattle.market.proofs.Holds.{From, end, more, Gives, holds-give, holds_then, holds-map, gives-xor, gives-and}
use Rattle.market.proofs.Words.{half, product}
use Rattle.market.proofs.Marks.{Marks, mark_here, mark_elsewhere}
use Rattle.market.proofs.Digits.{bit_below, bit-none, bit-own, power-some}
use Rattle.market.proofs.Shape.{having-length, sum-some}
use Rattle.market.specs.Counts.{sum_of}

module _ (v : ℕ → ℕ) (bits : (w : ℕ) → v w < 2) where
  -- how many of wires are 1
  unfoldable pub ones : List ℕ → ℕ
  ones [] = 0
  ones (w ∷ ws) = v w + ones ws

  few : {x y : ℕ} → x < 2 → y < 2 → x + y ≤ 1 → bit_xor x y ≡ x + y
  few {x} {y} h k l = omega (arith, half h k, l)

  gives-gather_to : (w : ℕ) (us : List ℕ) → v w + ones us ≤ 1 → Gives v (gather_to w us) (λ r. v r ≡ v w + ones us)
  unfolding gather_to ones
  gives-gather_to w [] h = holds-give w (omega arith)
  gives-gather_to w (u ∷ us) h =
      holds_then (gives-xor v w u) λ x e.
      let z : v x ≡ v w + v u = e ∙ few (bits w) (bits u) (omega (arith, h)) in
      holds-map (λ r f. omega (arith, f, z)) (gives-gather_to x us (omega (arith, h, z)))

  pub gives-gather : (ws : List ℕ) → 1 ≤ length ws → ones ws ≤ 1 → Gives v (gather ws) (λ r. v r ≡ ones ws)
  unfolding gather ones
  gives-gather [] h g = absurd (omega (arith, h))
  gives-gather (w ∷ ws) h g = gives-gather_to w ws g

  -- marks from level k on, each times what q says of its level
  unfoldable weighed : (ℕ → ℕ) → ℕ → List ℕ → ℕ
  weighed q k [] = 0
  weighed q k (m ∷ ms) = v m * q k + weighed q (suc k) ms

  weighed_out : (q : ℕ → ℕ) (j : ℕ) {k n : ℕ} {ms : List ℕ} → From (Marks v bits j) k n ms → j < k → weighed q k ms ≡ 0
  unfolding weighed
  weighed_out q j end h = refl
  weighed_out q j {k} (more {x = m} r s) h =
      let e : v m ≡ 0 = r ∙ mark_elsewhere k j (λ z. omega (arith, z, h)) in
      omega (arith, ap (λ (x : ℕ). x * q k) e, weighed_out q j s (omega (arith, h)))

  weighed_in : (q : ℕ → ℕ) (j : ℕ) {k n : ℕ} {ms : List ℕ} → From (Marks v bits j) k n ms → k ≤ j → j < k + n → weighed q k ms ≡ q j
  unfolding weighed
  weighed_in q j {k} end h g = absurd (omega (arith, h, g))
  weighed_in q j {k} (more {n = n} {x = m} r s) h g =
      either k j
      (λ e. let o : v m ≡ 1 = r ∙ mark_here k j e in
      omega (arith, ap (λ (x : ℕ). x * q k) o, ap q e, weighed_out q j s (omega (arith, e))))
      (λ e. let o : v m ≡ 0 = r ∙ mark_elsewhere k j e in
      omega (arith, ap (λ (x : ℕ). x * q k) o, weighed_in q j s (omega (arith, h, e)) (omega (arith, g))))

  -- at most one level is marked, so that is what q says of it
  weighed_all : (q : ℕ → ℕ) (j : ℕ) {n : ℕ} {ms : List ℕ} → From (Marks v bits j) 1 n ms → j < 1 + n
      → weighed q 1 ms ≡ choose (eqb j 0) 0 (q j)
  weighed_all q j f h =
      split j 1
      (λ l. weighed_out q j f l ∙ ap (λ (b : Bool). choose b 0 (q j)) (sym (eq-eqb j 0 (omega (arith, l)))))
      (λ l. weighed_in q j f l h ∙ ap (λ (b : Bool). choose b 0 (q j)) (sym (ne_eqb j 0 (λ z. omega (arith, l, z)))))

  having_weighed : (i : ℕ) {R : ℕ → ℕ → Type 0} {k n : ℕ} {ws : List ℕ} → From R k n ws → ones (having i k ws) ≡ weighed (bit i) k ws
  unfolding having ones weighed
  having_weighed i end = refl
  having_weighed i {k = k} (more {x = w} {xs = ws} r s) = at (eqb (bit i k) 1) refl (having_weighed i s)
    where
      at : (t : Bool) → eqb (bit i k) 1 ≡ t → ones (having i (suc k) ws) ≡ weighed (bit i) (suc k) ws
          → ones (choose t (w ∷ having i (suc k) ws) (having i (suc k) ws)) ≡ v w * bit i k + weighed (bit i) (suc k) ws
      at true e f = omega (arith, f, ap (λ (x : ℕ). v w * x) (eqb-true (bit i k) 1 e))
      at false e f =
          let z : bit i k ≡ 0 = omega (arith, eqb-false (bit i k) 1 e, bit_below i k) in
          omega (arith, f, ap (λ (x : ℕ). v w * x) z)

  -- bit i of the marked level's number, of levels 1 to n
  pub gives_level_bit : (i j n : ℕ) (ms : List ℕ) → From (Marks v bits j) 1 n ms → j < 1 + n → 2 ^ i ≤ n
      → Gives v (level_bit ms i) (λ r. v r ≡ bit i j)
  unfolding level_bit
  gives_level_bit i j n ms f h g =
      let e : ones (having i 1 ms) ≡ bit i j = having_weighed i f ∙ weighed_all (bit i) j f h ∙ none (eqb j 0) refl in
      let some : 1 ≤ sum_of (bit i) 1 n = sum-some (bit i) (2 ^ i) 1 n (bit-own i) (power-some i) (omega (arith, g)) in
      holds-map (λ r z. z ∙ e) (gives-gather (having i 1 ms) (omega (arith, having-length i f, some)) (omega (arith, e, bit_below i j)))
    where
      none : (t : Bool) → eqb j 0 ≡ t → choose t 0 (bit i j) ≡ bit i j
      none true e = sym (bit-none i) ∙ ap (bit i) (sym (eqb-true j 0 e))
      none false e = refl

  gives-choose_to : (q : ℕ → ℕ) {R : ℕ → ℕ → Type 0} (w : ℕ) {k n : ℕ} {ms ds : List ℕ} → From R k n ms → From (λ i d. v d ≡ q i) k n ds
      → v w + weighed q k ms ≤ 1 → Gives v (choose_to w ms ds) (λ r. v r ≡ v w + weighed q k ms)
  unfolding choose_to weighed
  gives-choose_to q w end end h = holds-give w (omega arith)
  gives-choose_to q w {k = k} (more {x = m} r s) (more {x = d} t u) h =
      holds_then (gives-and v m d) λ x ex.
      holds_then (gives-xor v w x) λ y ey.
      let p : v x ≡ v m * q k = ex ∙ product (bits m) (bits d) ∙ ap (λ (z : ℕ). v m * z) t in
      let z : v y ≡ v w + v x = ey ∙ few (bits w) (bits x) (omega (arith, h, p)) in
      holds-map (λ r f. omega (arith, f, z, p)) (gives-choose_to q y s u (omega (arith, h, z, p)))

  -- the marked one of values
  pub gives-chosen : (q : ℕ → ℕ) (j : ℕ) {n : ℕ} {ms ds : List ℕ} → From (Marks v bits j) 1 n ms → From (λ i d. v d ≡ q i) 1 n ds
      → ((i : ℕ) → q i < 2) → 1 ≤ n → j < 1 + n → Gives v (chosen ms ds) (λ r. v r ≡ choose (eqb j 0) 0 (q j))
  unfolding chosen weighed
  gives-chosen q j end end few-q h g = absurd (omega (arith, h))
  gives-chosen q j (more {n = n} {x = m} {xs = ms} r s) (more {x = d} t u) few-q h g =
      let e : v m * q 1 + weighed q 2 ms ≡ choose (eqb j 0) 0 (q j) = weighed_all q j (more {k = 1} {x = m} {xs = ms} r s) g in
      holds_then (gives-and v m d) λ x ex.
      let p : v x ≡ v m * q 1 = ex ∙ product (bits m) (bits d) ∙ ap (λ (z : ℕ). v m * z) t in
      holds-map (λ y f. f ∙ omega (arith, p) ∙ e) (gives-choose_to q x s u (omega (arith, p, e, small (eqb j 0))))
    where
      small : (b : Bool) → choose b 0 (q j) < 2
      small true = omega arith
      small false = few-q j
