-- How many gates and ANDs parts have, and that each gate and result uses wires that are there. Assumes nothing.
use Prim.Native.Nat.{ℕ, zero, suc, ◌+◌, ◌*◌, ◌-◌, ◌^◌, ◌<◌, ◌≤◌}
use mathlib.Core.Bool.{Bool, true, false}
use mathlib.Core.List.{List, [], ◌∷◌, ◌++◌}
use mathlib.Core.Path.{◌≡◌, refl, sym, ap, ap₂, ◌∙◌, subst}
use borrow.Author.Tests.{eqb-true, eqb-false}
use native.Mathlib.Nat.{add-zero, suc-mul, le_refl}
use native.Mathlib.Omega.{arith}
use lib.Dec.{eqb}
use lib.ListN.{length, length-append}
use Rattle.algebra.specs.Choice.{choose}
use Rattle.circuit.proofs.Ands.{ands_append}
use Rattle.circuit.specs.Admitted.{GateBelow, GatesBelow, WiresBelow}
use Rattle.circuit.specs.Content.{Gate, ands_in}
use Rattle.number.proofs.Places.{either}
use Rattle.market.specs.Building.{Part, give, then, each, xor, and, invert}
use Rattle.market.specs.Circuit.{carries, higher_sum, sum, last, highest_carry, less, Given, Total, total, meets, marks_above, marks, gather_to, gather, bit, having, level_bit, choose_to, chosen, quantity_bit, from, bit_length, given_from, clearing, clearing_circuit}
use Rattle.market.specs.Counts.{sum_of, ones_to}
use Rattle.market.proofs.Digits.{bit_below, bit-own, power-some, length_least}
use Rattle.market.proofs.Holds.{From, end, more, from-map, from-over, from_get, from-length, from_self}

gates_append : (n m : ℕ) (gs hs : List Gate) → n + length gs ≡ m → GatesBelow n gs → GatesBelow m hs → GatesBelow n (gs ++ hs)
unfolding GatesBelow
gates_append n m [] hs e f g = subst (λ (k : ℕ). GatesBelow k hs) {x = m} {y = n} (omega (arith, e)) g
gates_append n m (x ∷ gs) hs e f g = (f.0, gates_append (n + 1) m gs hs (omega (arith, e)) f.1 g)

-- a part whose first gate is wire n: so many gates and ANDs, gates on earlier wires, and a result that is as said once the part is made
pub record Shape (n : ℕ) {A : Type 0} (p : Part A) (gates ands : ℕ) (Q : ℕ → A → Type 0) : Type 0 where
  pub below : GatesBelow n (p n).gates
  pub counted : length (p n).gates ≡ gates
  pub opened : ands_in (p n).gates ≡ ands
  pub result : Q (n + gates) (p n).result

shape_as : {A : Type 0} {n : ℕ} {p : Part A} {g a g' a' : ℕ} {Q : ℕ → A → Type 0} → Shape n p g a Q → g ≡ g' → a ≡ a' → Shape n p g' a' Q
shape_as {n = n} {p = p} {Q = Q} s e f =
    let r = subst (λ (m : ℕ). Q (n + m) (p n).result) e s.result in
    record { below = s.below; counted = s.counted ∙ e; opened = s.opened ∙ f; result = r }

shape_give : {A : Type 0} {n : ℕ} (x : A) {Q : ℕ → A → Type 0} → Q n x → Shape n (give x) 0 0 Q
unfolding give GatesBelow ands_in
shape_give {n = n} x {Q} q = record { below = tt; counted = refl; opened = refl; result = subst (λ (m : ℕ). Q m x) (sym (add-zero n)) q }

shape_then : {A B : Type 0} {n : ℕ} {p : Part A} {q : A → Part B} {g a g' a' : ℕ} {P : ℕ → A → Type 0} {Q : ℕ → B → Type 0}
    → Shape n p g a P → ((x : A) → P (n + g) x → Shape (n + g) (q x) g' a' Q) → Shape n (then p q) (g + g') (a + a') Q
unfolding then
shape_then {n = n} {p = p} {q = q} {g = g} {g' = g'} {a' = a'} {Q = Q} s t =
    let m : ℕ = n + length (p n).gates in
    let x = (p n).result in
    let u = subst (λ (k : ℕ). Shape k (q x) g' a' Q) {x = n + g} {y = m} (omega (arith, s.counted)) (t x s.result) in
    record {
      below = gates_append n m (p n).gates (q x m).gates refl s.below u.below;
      counted = length-append (p n).gates (q x m).gates ∙ ap₂ ◌+◌ s.counted u.counted;
      opened = ands_append (p n).gates (q x m).gates ∙ ap₂ ◌+◌ s.opened u.opened;
      result = subst (λ (k : ℕ). Q k (q x m).result) {x = m + g'} {y = n + (g + g')} (omega (arith, s.counted)) u.result;
    }

-- a wire that is there
abbrev Wire : ℕ → ℕ → Type 0
Wire n w = w < n

shape_xor : {n : ℕ} (a b : ℕ) → a < n → b < n → Shape n (xor a b) 1 0 Wire
unfolding xor GatesBelow GateBelow ands_in
shape_xor a b h g = record { below = ((h, g), tt); counted = refl; opened = refl; result = omega arith }

shape_and : {n : ℕ} (a b : ℕ) → a < n → b < n → Shape n (and a b) 1 1 Wire
unfolding and GatesBelow GateBelow ands_in
shape_and a b h g = record { below = ((h, g), tt); counted = refl; opened = refl; result = omega arith }

shape_invert : {n : ℕ} (a : ℕ) → a < n → Shape n (invert a) 1 0 Wire
unfolding invert GatesBelow GateBelow ands_in
shape_invert a h = record { below = (h, tt); counted = refl; opened = refl; result = omega arith }

-- of results whose facts stay when there are more wires
abbrev Stays : {A : Type 0} → (ℕ → ℕ → A → Type 0) → Type 0
Stays {A} S = (m k i : ℕ) (x : A) → m ≤ k → S m i x → S k i x

shape_each : {A B : Type 0} {p : A → Part B} (g a : ℕ → ℕ) {R : ℕ → A → Type 0} (S : ℕ → ℕ → B → Type 0) {n k c : ℕ} {xs : List A}
    → Stays S → ((m i : ℕ) (x : A) → n ≤ m → i < k + c → R i x → Shape m (p x) (g i) (a i) (λ l. S l i))
    → From R k c xs → Shape n (each p xs) (sum_of g k c) (sum_of a k c) (λ m. From (S m) k c)
unfolding each sum_of
shape_each g a S s f end = shape_give [] end
shape_each g a S {n = n} {k = k} s f (more {n = c} {x = x} u v) =
    shape_as
    (shape_then (f n k x (omega arith) (omega arith) u) λ y t.
    shape_then (shape_each g a S {n = n + g k} s (λ m i z h l. f m i z (omega (arith, h)) (omega (arith, l))) v) λ ys w.
    shape_give (y ∷ ys) (more (s (n + g k) (n + g k + sum_of g (suc k) c) k y (omega arith) t) w))
    (omega arith) (omega arith)

sum_same : (c k n : ℕ) → sum_of (λ i. c) k n ≡ n * c
unfolding sum_of
sum_same c k zero = omega arith
sum_same c k (suc n) = omega (arith, sum_same c (suc k) n, suc-mul n c)

-- m wires that are there, numbered from j
abbrev pub Wires : ℕ → ℕ → ℕ → List ℕ → Type 0
Wires n j m = From (λ i w. w < n) j m

wires_more : {n k j m : ℕ} {ws : List ℕ} → n ≤ k → Wires n j m ws → Wires k j m ws
wires_more h = from-map (λ i w _ _ l. omega (arith, h, l))

wire_stays : Stays (λ m i w. w < m)
wire_stays m k i w h l = omega (arith, h, l)

-- words made before wire o
shape_carries : {o n j m : ℕ} (g : ℕ) {xs ys : List ℕ} → o ≤ n → g < n → Wires o j m xs → Wires o j m ys
    → Shape n (carries g xs ys) (4 * m) m (λ k. Wires k j m)
unfolding carries
shape_carries g e h end end = shape_give [] end
shape_carries {n = n} g e h (more {x = a} p r) (more {x = b} q s) =
    shape_as
    (shape_then (shape_xor b g (omega (arith, e, q)) h) λ w1 l1.
    shape_then (shape_xor a g (omega (arith, e, p)) (omega (arith, h))) λ w2 l2.
    shape_then (shape_and w2 w1 l2 (omega (arith, l1))) λ w3 l3.
    shape_then (shape_xor g w3 (omega (arith, h)) l3) λ w4 l4.
    shape_then (shape_carries {n = n + 1 + 1 + 1 + 1} w4 (omega (arith, e)) l4 r s) λ cs l5.
    shape_give (w4 ∷ cs) (more (omega (arith, l4)) l5))
    (omega arith) (omega arith)

shape_higher : {o n j m : ℕ} (g : ℕ) {xs ys cs : List ℕ} → o ≤ n → g < o → Wires o j m xs → Wires o j m ys → Wires o j m cs
    → Shape n (higher_sum xs ys (g ∷ cs)) (2 * m) 0 (λ k. Wires k j (suc m))
unfolding higher_sum
shape_higher g e h end end end = shape_give (g ∷ []) (more (omega (arith, e, h)) end)
shape_higher {n = n} g e h (more {x = a} p r) (more {x = b} q s) (more {x = c} u t) =
    shape_as
    (shape_then (shape_xor a b (omega (arith, e, p)) (omega (arith, e, q))) λ w1 l1.
    shape_then (shape_xor w1 g l1 (omega (arith, e, h))) λ w2 l2.
    shape_then (shape_higher {n = n + 1 + 1} c (omega (arith, e)) u r s t) λ ss l3.
    shape_give (w2 ∷ ss) (more (omega (arith, l2)) l3))
    (omega arith) (omega arith)

shape_sum : {n m : ℕ} {xs ys : List ℕ} → Wires n 0 (suc m) xs → Wires n 0 (suc m) ys
    → Shape n (sum xs ys) (6 * m + 2) (suc m) (λ k. Wires k 0 (suc (suc m)))
unfolding sum
shape_sum (more {x = a} p r) (more {x = b} q s) =
    shape_as
    (shape_then (shape_and a b p q) λ g l1.
    shape_then (shape_carries g (omega arith) l1 r s) λ cs l2.
    shape_then (shape_xor a b (omega (arith, p)) (omega (arith, q))) λ w l3.
    shape_then (shape_higher g (omega arith) (omega (arith, l1)) (wires_more (omega arith) r) (wires_more (omega arith) s) l2) λ ss l4.
    shape_give (w ∷ ss) (more (omega (arith, l3)) l4))
    (omega arith) (omega arith)

last_wire : {n j m : ℕ} (g : ℕ) {cs : List ℕ} → g < n → Wires n j m cs → last g cs < n
unfolding last
last_wire g h end = h
last_wire g h (more {x = c} p r) = last_wire c p r

shape_less : {n m : ℕ} {xs ys : List ℕ} → Wires n 0 (suc m) xs → Wires n 0 (suc m) ys → Shape n (less xs ys) (5 * m + 2) (suc m) Wire
unfolding less highest_carry
shape_less {m = m} r s =
    shape_as
    (shape_then (shape_each (λ i. 1) (λ i. 0) (λ k i w. w < k) wire_stays (λ k i w h _ l. shape_invert w (omega (arith, h, l))) r)
    λ ns t. highest t (wires_more (omega arith) s))
    (omega (arith, sum_same 1 0 (suc m))) (omega (arith, sum_same 0 0 (suc m)))
  where
    highest : {n : ℕ} {xs ys : List ℕ} → Wires n 0 (suc m) xs → Wires n 0 (suc m) ys → Shape n (highest_carry xs ys) (4 * m + 1) (suc m) Wire
    highest (more {x = a} p r) (more {x = b} q s) =
        shape_as
        (shape_then (shape_and a b p q) λ g l1.
        shape_then (shape_carries g (omega arith) l1 r s) λ cs l2.
        shape_give (last g cs) (last_wire g (omega (arith, l1)) l2))
        (omega arith) (omega arith)

-- words of b bits, as the houses give them, and sums
abbrev pub GivenWires : ℕ → ℕ → ℕ → Given → Type 0
GivenWires b n i g = Wires n 0 b g.buy₁ × Wires n 0 b g.sell₁ × Wires n 0 b g.buy₂ × Wires n 0 b g.sell₂

abbrev TotalWires : ℕ → ℕ → ℕ → Total → Type 0
TotalWires b n i t = Wires n 0 (suc b) t.demand × Wires n 0 (suc b) t.supply

shape_total : {n : ℕ} (c i : ℕ) (g : Given) → GivenWires (suc c) n i g
    → Shape n (total g) (12 * c + 4) (2 * c + 2) (λ k. TotalWires (suc c) k i)
unfolding total
shape_total c i g u =
    shape_as
    (shape_then (shape_sum u.0 u.2) λ d l1.
    shape_then (shape_sum (wires_more (omega arith) u.1) (wires_more (omega arith) u.3)) λ s l2.
    shape_give (record { demand = d; supply = s }) (wires_more (omega arith) l1, l2))
    (omega arith) (omega arith)

shape_meets : {n : ℕ} (b i : ℕ) (t : Total) → TotalWires b n i t → Shape n (meets t) (5 * b + 3) (suc b) Wire
unfolding meets
shape_meets b i t u = shape_as (shape_then (shape_less u.1 u.0) λ l k. shape_invert l k) (omega arith) (omega arith)

shape_above : {o n j m : ℕ} (none : ℕ) {ms : List ℕ} → o ≤ n → none < n → Wires o j m ms
    → Shape n (marks_above none ms) (2 * m) m (λ k. Wires k j m)
unfolding marks_above
shape_above none e h end = shape_give [] end
shape_above {n = n} none e h (more {x = w} p r) =
    shape_as
    (shape_then (shape_and w none (omega (arith, e, p)) h) λ l l1.
    shape_then (shape_xor none l (omega (arith, h)) l1) λ none' l2.
    shape_then (shape_above {n = n + 1 + 1} none' (omega (arith, e)) l2 r) λ ls l3.
    shape_give (l ∷ ls) (more (omega (arith, l1)) l3))
    (omega arith) (omega arith)

shape_marks : {n m : ℕ} {ms : List ℕ} → Wires n 1 (suc m) ms → Shape n (marks ms) (2 * m + 1) m (λ k. Wires k 1 (suc m))
unfolding marks
shape_marks (more {x = w} p r) =
    shape_as
    (shape_then (shape_invert w p) λ none l1.
    shape_then (shape_above none (omega arith) l1 r) λ ls l2.
    shape_give (w ∷ ls) (more (omega (arith, p)) l2))
    (omega arith) (omega arith)

-- a fact of all wires that are gathered
pub data All (P : ℕ → Type 0) : List ℕ → Type 0 where
  done : All P []
  with : {w : ℕ} {ws : List ℕ} → P w → All P ws → All P (w ∷ ws)

pub having-all : {P : ℕ → Type 0} (i : ℕ) {k n : ℕ} {ws : List ℕ} → From (λ j. P) k n ws → All P (having i k ws)
unfolding having
having-all i end = done
having-all {P} i {k = k} (more {x = w} {xs = ws} p r) = at (eqb (bit i k) 1) (having-all i r)
  where
    at : (t : Bool) → All P (having i (suc k) ws) → All P (choose t (w ∷ having i (suc k) ws) (having i (suc k) ws))
    at true s = with p s
    at false s = s

pub having-length : (i : ℕ) {R : ℕ → ℕ → Type 0} {k n : ℕ} {ws : List ℕ} → From R k n ws → length (having i k ws) ≡ sum_of (bit i) k n
unfolding having sum_of
having-length i end = refl
having-length i {k = k} (more {n = n} {x = w} {xs = ws} p r) = at (eqb (bit i k) 1) refl (having-length i r)
  where
    at : (t : Bool) → eqb (bit i k) 1 ≡ t → length (having i (suc k) ws) ≡ sum_of (bit i) (suc k) n
        → length (choose t (w ∷ having i (suc k) ws) (having i (suc k) ws)) ≡ bit i k + sum_of (bit i) (suc k) n
    at true f g = omega (arith, eqb-true (bit i k) 1 f, g)
    at false f g = omega (arith, eqb-false (bit i k) 1 f, bit_below i k, g)

shape_gather_to : {o n : ℕ} (w : ℕ) {us : List ℕ} → o ≤ n → w < n → All (λ u. u < o) us → Shape n (gather_to w us) (length us) 0 Wire
unfolding gather_to
shape_gather_to w e h done = shape_give w h
shape_gather_to {n = n} w e h (with {w = u} p r) =
    shape_as (shape_then (shape_xor w u h (omega (arith, e, p))) λ x l. shape_gather_to {n = n + 1} x (omega (arith, e)) l r) (omega arith) refl

shape_gather : {n : ℕ} {us : List ℕ} → 1 ≤ n → All (λ u. u < n) us → Shape n (gather us) (length us - 1) 0 Wire
unfolding gather
shape_gather one done = shape_give 0 one
shape_gather one (with {w = u} p r) = shape_as (shape_gather_to u (le_refl _) p r) (omega arith) refl

shape_level_bit : {n L : ℕ} {ms : List ℕ} (i : ℕ) → 1 ≤ n → Wires n 1 L ms → Shape n (level_bit ms i) (sum_of (bit i) 1 L - 1) 0 Wire
unfolding level_bit
shape_level_bit i one r = shape_as (shape_gather one (having-all i r)) (ap (λ (n : ℕ). n - 1) (having-length i r)) refl

shape_choose_to : {o n j m : ℕ} (w : ℕ) {ms ds : List ℕ} → o ≤ n → w < n → Wires o j m ms → Wires o j m ds
    → Shape n (choose_to w ms ds) (2 * m) m Wire
unfolding choose_to
shape_choose_to w e h end end = shape_give w h
shape_choose_to {n = n} w e h (more {x = u} p r) (more {x = d} q s) =
    shape_as
    (shape_then (shape_and u d (omega (arith, e, p)) (omega (arith, e, q))) λ x l1.
    shape_then (shape_xor w x (omega (arith, h)) l1) λ y l2.
    shape_choose_to {n = n + 1 + 1} y (omega (arith, e)) l2 r s)
    (omega arith) (omega arith)

shape_quantity_bit : {n b l : ℕ} {ms : List ℕ} {ts : List Total} (i : ℕ) → i < suc b → Wires n 1 (suc l) ms
    → From (TotalWires b n) 1 (suc l) ts → Shape n (quantity_bit ms ts i) (2 * l + 1) (suc l) Wire
unfolding quantity_bit chosen
shape_quantity_bit {l = l} i h r s = chosen_shape r (from-over _ (λ j t u. from_get i 0 h u.0) s)
  where
    chosen_shape : {n : ℕ} {ms ds : List ℕ} → Wires n 1 (suc l) ms → Wires n 1 (suc l) ds → Shape n (chosen ms ds) (2 * l + 1) (suc l) Wire
    chosen_shape (more {x = u} p r) (more {x = d} q s) =
        shape_as
        (shape_then (shape_and u d p q) λ x l1. shape_choose_to x (omega arith) l1 r s)
        (omega arith) (omega arith)

-- the inputs' wires
from-wires : (m k n j : ℕ) → k + n ≤ m → Wires m j n (from k n)
unfolding from
from-wires m k zero j h = end
from-wires m k (suc n) j h = more {x = k} (omega (arith, h)) (from-wires m (suc k) n (suc j) (omega (arith, h)))

pub given-wires : (curve b n k count : ℕ) → n + count * b ≤ curve → From (GivenWires b (4 * curve)) k count (given_from curve b n count)
unfolding given_from
given-wires curve b n k zero h = end
given-wires curve b n k (suc count) h =
    let e : suc count * b ≡ count * b + b = suc-mul count b in
    more (
      from-wires (4 * curve) n b 0 (omega (arith, h, e)),
      from-wires (4 * curve) (n + curve) b 0 (omega (arith, h, e)),
      from-wires (4 * curve) (n + 2 * curve) b 0 (omega (arith, h, e)),
      from-wires (4 * curve) (n + 3 * curve) b 0 (omega (arith, h, e)),
    )
    (given-wires curve b (n + b) (suc k) count (omega (arith, h, e)))

wires-below : {n i j m c : ℕ} (ws us : List ℕ) → Wires n i m ws → Wires n j c us → WiresBelow n (ws ++ us)
unfolding WiresBelow
wires-below [] [] r s = tt
wires-below [] (u ∷ us) r (more q s) = (q, wires-below [] us r s)
wires-below (w ∷ ws) us (more p r) s = (p, wires-below ws us r s)

-- the gates that gather the level's number
abbrev level_gates : ℕ → ℕ
level_gates L = sum_of (λ i. sum_of (bit i) 1 L - 1) 0 (bit_length L)

pub shape_clearing : (l c : ℕ) → Shape (4 * (suc l * suc c)) (clearing (suc l) (suc c))
    (suc l * (12 * c + 4) + (suc l * (5 * suc c + 3) + (2 * l + 1 + (level_gates (suc l) + (suc c + 1) * (2 * l + 1)))))
    (suc l * (2 * c + 2) + (suc l * suc (suc c) + (l + (suc c + 1) * suc l)))
    (λ m out. WiresBelow m out × (length out ≡ bit_length (suc l) + (suc c + 1)))
unfolding clearing
shape_clearing l c =
    let L : ℕ = suc l in
    let b : ℕ = suc c in
    shape_as
    (shape_then (shape_each (λ i. 12 * c + 4) (λ i. 2 * c + 2) (TotalWires b) total_stays
    (λ m i g h _ u. shape_total c i g (wires_more h u.0, wires_more h u.1, wires_more h u.2, wires_more h u.3))
    (given-wires (L * b) b 0 1 L (omega arith))) λ ts t.
    shape_then (shape_each (λ i. 5 * b + 3) (λ i. suc b) (λ m i w. w < m) wire_stays
    (λ m i u h _ e. shape_meets b i u (total_stays _ m i u h e)) t) λ ms met.
    shape_then (shape_marks met) λ marked k.
    shape_then (shape_each (λ i. sum_of (bit i) 1 L - 1) (λ i. 0) (λ m i w. w < m) wire_stays
    (λ m i u h _ e. subst (λ (n : ℕ). Shape m (level_bit marked n) (sum_of (bit i) 1 L - 1) 0 Wire) (sym e)
    (shape_level_bit i (omega (arith, h)) (wires_more h k))) (from_self 0 (bit_length L))) λ level f.
    shape_then (shape_each (λ i. 2 * l + 1) (λ i. L) (λ m i w. w < m) wire_stays
    (λ m i u h q e. shape_quantity_bit u (omega (arith, e, q)) (wires_more (omega (arith, h)) k)
    (from-map (λ j t _ _. total_stays _ m j t (omega (arith, h))) t)) (from_self 0 (b + 1))) λ quantity g.
    shape_give (level ++ quantity)
    (wires-below level quantity (wires_more (omega arith) f) g, length-append level quantity ∙ ap₂ ◌+◌ (from-length f) (from-length g)))
    (omega (arith, sum_same (12 * c + 4) 1 L, sum_same (5 * b + 3) 1 L, sum_same (2 * l + 1) 0 (b + 1)))
    (omega (arith, sum_same (2 * c + 2) 1 L, sum_same (suc b) 1 L, sum_same 0 0 (bit_length L), sum_same L 0 (b + 1)))
  where
    total_stays : Stays (TotalWires (suc c))
    total_stays m k i t h u = (wires_more h u.0, wires_more h u.1)

-- sums of sums, in either order
sum_both : (f g : ℕ → ℕ) (k n : ℕ) → sum_of (λ i. f i + g i) k n ≡ sum_of f k n + sum_of g k n
unfolding sum_of
sum_both f g k zero = refl
sum_both f g k (suc n) = omega (arith, sum_both f g (suc k) n)

sum_swap : (f : ℕ → ℕ → ℕ) (k n h m : ℕ) → sum_of (λ i. sum_of (f i) h m) k n ≡ sum_of (λ j. sum_of (λ i. f i j) k n) h m
unfolding sum_of
sum_swap f k n h zero = sum_same 0 k n ∙ omega arith
sum_swap f k n h (suc m) =
    sum_both (λ i. f i h) (λ i. sum_of (f i) (suc h) m) k n ∙ ap (λ (x : ℕ). sum_of (λ i. f i h) k n + x) (sum_swap f k n (suc h) m)

less_one : (f : ℕ → ℕ) (k n : ℕ) → ((i : ℕ) → i < k + n → 1 ≤ f i) → sum_of (λ i. f i - 1) k n + n ≡ sum_of f k n
unfolding sum_of
less_one f k zero h = refl
less_one f k (suc n) h = omega (arith, h k (omega arith), less_one f (suc k) n (λ i g. h i (omega (arith, g))))

pub sum-some : (f : ℕ → ℕ) (m k n : ℕ) → f m ≡ 1 → k ≤ m → m < k + n → 1 ≤ sum_of f k n
unfolding sum_of
sum-some f m k zero e h g = absurd (omega (arith, h, g))
sum-some f m k (suc n) e h g =
    either k m (λ q. omega (arith, ap f q, e)) (λ q. omega (arith, sum-some f m (suc k) n e (omega (arith, h, q)) (omega (arith, g))))

level-gates : (L : ℕ) → level_gates L + bit_length L ≡ ones_to L
unfolding ones_to
level-gates L =
    less_one (λ i. sum_of (bit i) 1 L) 0 (bit_length L)
    (λ i h. sum-some (bit i) (2 ^ i) 1 L (bit-own i) (power-some i) (omega (arith, length_least L L i (omega (arith, h)))))
    ∙ sum_swap bit 0 (bit_length L) 1 L

-- the whole circuit: its gates and outputs use wires that are there, and its wires, ANDs and outputs are counted
pub record Shaped (L b : ℕ) : Type 0 where
  pub gates : GatesBelow (clearing_circuit L b).inputs (clearing_circuit L b).gates
  pub outputs : WiresBelow ((clearing_circuit L b).inputs + length (clearing_circuit L b).gates) (clearing_circuit L b).outputs
  pub wires : (clearing_circuit L b).inputs + length (clearing_circuit L b).gates + (L + b + 2 + bit_length L) ≡ 23 * (L * b) + ones_to L
  pub ands : ands_in (clearing_circuit L b).gates + 1 ≡ 2 * (L * b) + 2 * (L * (b + 1)) + L
  pub out : length (clearing_circuit L b).outputs ≡ bit_length L + (b + 1)
  pub some : 1 ≤ (clearing_circuit L b).inputs

pub shaped : (L b : ℕ) → 1 ≤ L → 1 ≤ b → Shaped L b
unfolding clearing_circuit
shaped zero b h g = absurd (omega (arith, h))
shaped (suc l) zero h g = absurd (omega (arith, g))
shaped (suc l) (suc c) h g =
    let n : ℕ = 4 * (suc l * suc c) in
    let s = shape_clearing l c in
    record {
      gates = s.below;
      outputs = subst (λ (m : ℕ). WiresBelow (n + m) (clearing (suc l) (suc c) n).result) (sym s.counted) s.result.0;
      wires = omega (arith, s.counted, level-gates (suc l));
      ands = omega (arith, s.opened);
      out = s.result.1;
      some = omega arith;
    }
