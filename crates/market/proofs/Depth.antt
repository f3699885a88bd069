-- The levels of the wires of parts, by which the circuit takes L + b + 2 rounds, its counts together, and the demo's bytes. Assumes
-- nothing.
use Prim.Native.Nat.{ℕ, zero, suc, ◌+◌, ◌*◌, ◌<◌, ◌≤◌}
use mathlib.Core.List.{List, [], ◌∷◌, ◌++◌}
use mathlib.Core.Path.{◌≡◌, refl, ◌∙◌, subst}
use native.Mathlib.Nat.{le_refl}
use native.Mathlib.Omega.{arith}
use lib.ListN.{length, get_or}
use Rattle.circuit.proofs.Levels.{greater-below, greater-from, greatest-from, greatest-below, levels-length, level_input, level_gate}
use Rattle.circuit.specs.Content.{Gate, Xor, And, Not, Circuit}
use Rattle.circuit.specs.Levels.{greater, gate_level, levels, level_of, round_count}
use Rattle.circuit.specs.Writing.{write_circuit, write_gate, write_gates, write_wires}
use Rattle.number.proofs.Places.{split}
use Rattle.number.specs.Number.{write_number}
use Rattle.market.specs.Building.{Part, give, then, each, xor, and, invert}
use Rattle.market.specs.Circuit.{carries, higher_sum, sum, last, highest_carry, less, Given, Total, total, meets, marks_above, marks, gather_to, gather, having, level_bit, choose_to, chosen, quantity_bit, from, bit_length, given_from, clearing, clearing_circuit, length_within}
use Rattle.market.specs.Bytes.{market_bytes, MarketBytes}
use Rattle.market.specs.Counts.{MarketCounts}
use Rattle.market.proofs.Holds.{From, end, more, from-map, from-over, from_get, from_self, Every, every_of, every_at, Holds, holds-give, holds_then, holds-map, holds-each}
use Rattle.market.proofs.Shape.{All, done, with, having-all, Wires, given-wires, shaped}

level_by : (ℕ → ℕ) → Gate → ℕ
level_by v (Xor a b) = greater (v a) (v b)
level_by v (And a b) = 1 + greater (v a) (v b)
level_by v (Not a) = v a

-- where wires' levels fit a part's gates no gate is above level D, and its result is as said
abbrev Fits : (ℕ → ℕ) → ℕ → Gate → Type 0
Fits v n g = v n ≡ level_by v g

abbrev Deep : (ℕ → ℕ) → ℕ → {A : Type 0} → Part A → (A → Type 0) → Type 0
Deep v D p Q = Holds (Fits v) (λ n g. v n ≤ D) p Q

module _ (v : ℕ → ℕ) (D : ℕ) where
  deep_xor : (a b c : ℕ) → v a ≤ c → v b ≤ c → c ≤ D → Deep v D (xor a b) (λ w. (v w ≤ c) × (v a ≤ v w) × (v b ≤ v w))
  unfolding xor Every level_by
  deep_xor a b c h g k = record {
    holds = λ n f.
        let m = greater-below (v a) (v b) (suc c) (omega (arith, h)) (omega (arith, g)) in
        let l = greater-from (v a) (v b) in
        ((omega (arith, f.0, m, k), tt), (omega (arith, f.0, m), omega (arith, f.0, l.0), omega (arith, f.0, l.1)));
  }

  deep_and : (a b c : ℕ) → v a ≤ c → v b ≤ c → suc c ≤ D → Deep v D (and a b) (λ w. (v w ≤ suc c) × (suc (v a) ≤ v w) × (suc (v b) ≤ v w))
  unfolding and Every level_by
  deep_and a b c h g k = record {
    holds = λ n f.
        let m = greater-below (v a) (v b) (suc c) (omega (arith, h)) (omega (arith, g)) in
        let l = greater-from (v a) (v b) in
        ((omega (arith, f.0, m, k), tt), (omega (arith, f.0, m), omega (arith, f.0, l.0), omega (arith, f.0, l.1)));
  }

  deep_invert : (a : ℕ) → v a ≤ D → Deep v D (invert a) (λ w. v w ≡ v a)
  unfolding invert Every level_by
  deep_invert a h = record { holds = λ n f. ((omega (arith, f.0, h), tt), f.0) }

  -- bit i of a word is at most at level i
  abbrev Low : ℕ → ℕ → Type 0
  Low i w = v w ≤ i

  deep_carries : (g : ℕ) {k m : ℕ} {xs ys : List ℕ} → v g ≡ k → k + m ≤ D → From Low k m xs → From Low k m ys
      → Deep v D (carries g xs ys) (From (λ i c. v c ≡ suc i) k m)
  unfolding carries
  deep_carries g e h end end = holds-give [] end
  deep_carries g {k = k} e h (more {x = x} r s) (more {x = y} t u) =
      holds_then (deep_xor y g k t (omega (arith, e)) (omega (arith, h))) λ q lq.
      holds_then (deep_xor x g k r (omega (arith, e)) (omega (arith, h))) λ p lp.
      holds_then (deep_and p q k lp.0 lq.0 (omega (arith, h))) λ w lw.
      holds_then (deep_xor g w (suc k) (omega (arith, e)) lw.0 (omega (arith, h))) λ c lc.
      let z : v c ≡ suc k = omega (arith, lc.0, lc.2, lw.1, lp.2, e) in
      holds_then (deep_carries c z (omega (arith, h)) s u) λ cs l.
      holds-give (c ∷ cs) (more z l)

  deep_higher : (g : ℕ) {k m : ℕ} {xs ys cs : List ℕ} → v g ≡ k → k + m ≤ D → From Low k m xs → From Low k m ys
      → From (λ i c. v c ≡ suc i) k m cs → Deep v D (higher_sum xs ys (g ∷ cs)) (From Low k (suc m))
  unfolding higher_sum
  deep_higher g e h end end end = holds-give (g ∷ []) (more (omega (arith, e)) end)
  deep_higher g {k = k} e h (more {x = x} r s) (more {x = y} t u) (more {x = c} o w) =
      holds_then (deep_xor x y k r t (omega (arith, h))) λ d ld.
      holds_then (deep_xor d g k ld.0 (omega (arith, e)) (omega (arith, h))) λ a la.
      holds_then (deep_higher c o (omega (arith, h)) s u w) λ ss l.
      holds-give (a ∷ ss) (more la.0 l)

  deep_sum : {m : ℕ} {xs ys : List ℕ} → suc m ≤ D → From Low 0 (suc m) xs → From Low 0 (suc m) ys
      → Deep v D (sum xs ys) (From Low 0 (suc (suc m)))
  unfolding sum
  deep_sum h (more {x = x} r s) (more {x = y} t u) =
      holds_then (deep_and x y 0 r t (omega (arith, h))) λ g lg.
      let z : v g ≡ 1 = omega (arith, lg.0, lg.1) in
      holds_then (deep_carries g z (omega (arith, h)) s u) λ cs l.
      holds_then (deep_xor x y 0 r t (omega arith)) λ a la.
      holds_then (deep_higher g z (omega (arith, h)) s u l) λ ss k.
      holds-give (a ∷ ss) (more la.0 k)

  last_level : (g : ℕ) {k m : ℕ} {cs : List ℕ} → v g ≡ k → From (λ i c. v c ≡ suc i) k m cs → v (last g cs) ≡ k + m
  unfolding last
  last_level g e end = omega (arith, e)
  last_level g e (more {x = c} r s) = last_level c r s ∙ omega arith

  deep_highest : {m : ℕ} {xs ys : List ℕ} → suc m ≤ D → From Low 0 (suc m) xs → From Low 0 (suc m) ys
      → Deep v D (highest_carry xs ys) (λ w. v w ≡ suc m)
  unfolding highest_carry
  deep_highest h (more {x = x} r s) (more {x = y} t u) =
      holds_then (deep_and x y 0 r t (omega (arith, h))) λ g lg.
      let z : v g ≡ 1 = omega (arith, lg.0, lg.1) in
      holds_then (deep_carries g z (omega (arith, h)) s u) λ cs l.
      holds-give (last g cs) (last_level g z l ∙ omega arith)

  deep_less : {m : ℕ} {xs ys : List ℕ} → suc m ≤ D → From Low 0 (suc m) xs → From Low 0 (suc m) ys
      → Deep v D (less xs ys) (λ w. v w ≡ suc m)
  unfolding less
  deep_less h r s =
      holds_then (holds-each {S = Low} (λ i x _ g l. holds-map (λ w e. omega (arith, e, l)) (deep_invert x (omega (arith, l, g, h)))) r)
      λ ns l. deep_highest h l s

  abbrev Inputs : ℕ → ℕ → Given → Type 0
  Inputs b i g = From Low 0 b g.buy₁ × From Low 0 b g.sell₁ × From Low 0 b g.buy₂ × From Low 0 b g.sell₂

  abbrev Sums : ℕ → ℕ → Total → Type 0
  Sums b i t = From Low 0 (suc b) t.demand × From Low 0 (suc b) t.supply

  deep_total : (c i : ℕ) (g : Given) → suc c ≤ D → Inputs (suc c) i g → Deep v D (total g) (Sums (suc c) i)
  unfolding total
  deep_total c i g h u =
      holds_then (deep_sum h u.0 u.2) λ d l.
      holds_then (deep_sum h u.1 u.3) λ s k.
      holds-give (record { demand = d; supply = s }) (l, k)

  deep_meets : (b i : ℕ) (t : Total) → suc b ≤ D → Sums b i t → Deep v D (meets t) (λ w. v w ≡ suc b)
  unfolding meets
  deep_meets b i t h u = holds_then (deep_less h u.1 u.0) λ l e. holds-map (λ w f. f ∙ e) (deep_invert l (omega (arith, e, h)))

  -- the mark of level i is at level b + i
  deep_above : (b none : ℕ) {k m : ℕ} {ms : List ℕ} → suc (v none) ≡ b + k → b + 1 ≤ v none → b + k + m ≤ suc D
      → From (λ i w. v w ≡ suc b) k m ms → Deep v D (marks_above none ms) (From (λ i w. v w ≡ b + i) k m)
  unfolding marks_above
  deep_above b none e f h end = holds-give [] end
  deep_above b none {k = k} e f h (more {x = m} r s) =
      holds_then (deep_and m none (v none) (omega (arith, r, f)) (le_refl (v none)) (omega (arith, h, e))) λ l p.
      let z : v l ≡ b + k = omega (arith, p.0, p.2, e) in
      holds_then (deep_xor none l (b + k) (omega (arith, e)) (omega (arith, z)) (omega (arith, h))) λ none' q.
      holds_then (deep_above b none' (omega (arith, q.0, q.2, z)) (omega (arith, q.1, f)) (omega (arith, h)) s) λ ls u.
      holds-give (l ∷ ls) (more z u)

  deep_marks : (b : ℕ) {m : ℕ} {ms : List ℕ} → b + 1 + m ≤ D → From (λ i w. v w ≡ suc b) 1 (suc m) ms
      → Deep v D (marks ms) (From (λ i w. v w ≡ b + i) 1 (suc m))
  unfolding marks
  deep_marks b h (more {x = w} r s) =
      holds_then (deep_invert w (omega (arith, r, h))) λ none e.
      holds_then (deep_above b none (omega (arith, e, r)) (omega (arith, e, r)) (omega (arith, h)) s) λ ls u.
      holds-give (w ∷ ls) (more (omega (arith, r)) u)

  deep_gather_to : (c w : ℕ) {us : List ℕ} → c ≤ D → v w ≤ c → All (λ u. v u ≤ c) us → Deep v D (gather_to w us) (λ r. Unit {0})
  unfolding gather_to
  deep_gather_to c w h l done = holds-give w tt
  deep_gather_to c w h l (with {w = u} p r) = holds_then (deep_xor w u c l p h) λ x q. deep_gather_to c x h q.0 r

  deep_gather : (c : ℕ) {us : List ℕ} → c ≤ D → All (λ u. v u ≤ c) us → Deep v D (gather us) (λ r. Unit {0})
  unfolding gather
  deep_gather c h done = holds-give 0 tt
  deep_gather c h (with {w = u} p r) = deep_gather_to c u h p r

  deep_choose_to : (b w : ℕ) {k m : ℕ} {ms ds : List ℕ} → v w ≡ b + k → b + k + m ≤ D → From (λ i u. v u ≡ b + i) k m ms
      → From (λ i d. v d ≤ b) k m ds → Deep v D (choose_to w ms ds) (λ r. v r ≡ b + k + m)
  unfolding choose_to
  deep_choose_to b w e h end end = holds-give w (omega (arith, e))
  deep_choose_to b w {k = k} e h (more {x = m} r s) (more {x = d} t u) =
      holds_then (deep_and m d (b + k) (omega (arith, r)) (omega (arith, t)) (omega (arith, h))) λ x p.
      holds_then (deep_xor w x (b + suc k) (omega (arith, e)) (omega (arith, p.0)) (omega (arith, h))) λ y q.
      holds-map (λ z f. f ∙ omega arith) (deep_choose_to b y (omega (arith, q.0, q.2, p.1, r)) (omega (arith, h)) s u)

  deep_chosen : (b : ℕ) {m : ℕ} {ms ds : List ℕ} → b + 2 + m ≤ D → From (λ i u. v u ≡ b + i) 1 (suc m) ms
      → From (λ i d. v d ≤ b) 1 (suc m) ds → Deep v D (chosen ms ds) (λ r. v r ≡ b + 2 + m)
  unfolding chosen
  deep_chosen b h (more {x = m} r s) (more {x = d} t u) =
      holds_then (deep_and m d (b + 1) (omega (arith, r)) (omega (arith, t)) (omega (arith, h))) λ x p.
      deep_choose_to b x (omega (arith, p.0, p.1, r)) h s u

  word_low : {n b : ℕ} {ws : List ℕ} → ((w : ℕ) → w < n → v w ≡ 0) → Wires n 0 b ws → From Low 0 b ws
  word_low f = from-map (λ i w _ _ l. omega (arith, f w l))

  first_of : {S : ℕ → ℕ → Type 0} {k m : ℕ} {ws : List ℕ} → From S k (m + 1) ws → 0 < m → (w : ℕ) × S k w
  first_of {m = zero} f h = absurd (omega (arith, h))
  first_of {S} {k} {m = suc m} {ws} f h = at (subst (λ (n : ℕ). From S k n ws) {x = suc m + 1} {y = suc (m + 1)} (omega arith) f)
    where
      at : {n : ℕ} {us : List ℕ} → From S k (suc n) us → (w : ℕ) × S k w
      at (more {x = x} r s) = (x, r)

  deep_clearing : (l c : ℕ) → D ≡ suc l + suc c + 1 → ((w : ℕ) → w < 4 * (suc l * suc c) → v w ≡ 0)
      → Deep v D (clearing (suc l) (suc c)) (λ out. (w : ℕ) × (v w ≡ D))
  unfolding clearing level_bit quantity_bit
  deep_clearing l c e f =
      let b : ℕ = suc c in
      holds_then (holds-each {R = Inputs b} {S = Sums b} (λ i g _ _ u. deep_total c i g (omega (arith, e)) u)
      (from-map (λ i g _ _ u. (word_low f u.0, word_low f u.1, word_low f u.2, word_low f u.3))
      (given-wires (suc l * b) b 0 1 (suc l) (omega arith)))) λ ts t.
      holds_then (holds-each {S = λ i w. v w ≡ suc b} (λ i u _ _ s. deep_meets b i u (omega (arith, e)) s) t) λ ms m.
      holds_then (deep_marks b (omega (arith, e)) m) λ marked k.
      holds_then (holds-each {S = λ i w. Unit {0}} (λ i u _ _ _. deep_gather (b + suc l) (omega (arith, e))
      (having-all u (from-map (λ j w _ h e. omega (arith, e, h)) k))) (from_self 0 (bit_length (suc l)))) λ level _.
      holds_then (holds-each {S = λ i w. v w ≡ D} (λ i u _ h q. holds-map (λ w z. z ∙ omega (arith, e)) (deep_chosen b (omega (arith, e)) k
      (from-over _ (λ j t r. omega (arith, h, q, from_get u 0 (omega (arith, h, q)) r.0)) t))) (from_self 0 (b + 1))) λ quantity g.
      holds-give (level ++ quantity) (first_of g (omega arith))

gate-level : (g : Gate) (ws : List ℕ) → gate_level g ws ≡ level_by (λ w. get_or ws w 0) g
unfolding gate_level level_by
gate-level (Xor a b) ws = refl
gate-level (And a b) ws = refl
gate-level (Not a) ws = refl

rounds : (L b : ℕ) → 1 ≤ L → 1 ≤ b → round_count (clearing_circuit L b) ≡ L + b + 2
unfolding clearing_circuit
rounds zero b h g = absurd (omega (arith, h))
rounds (suc l) zero h g = absurd (omega (arith, g))
rounds (suc l) (suc c) h g =
    let C : Circuit = clearing_circuit (suc l) (suc c) in
    let v : ℕ → ℕ = level_of C in
    let n : ℕ = 4 * (suc l * suc c) in
    let D : ℕ = suc l + suc c + 1 in
    let ok = (shaped (suc l) (suc c) h g).gates in
    let fit = every_of (Fits v) (Not 0) n C.gates λ i k. level_gate C ok i k ∙ gate-level (get_or C.gates i (Not 0)) (levels C) in
    let r = (deep_clearing v D l c refl (level_input C)).holds n fit in
    let most : (w : ℕ) → w < length (levels C) → level_of C w ≤ D = λ w k. split w n
    (λ u. omega (arith, level_input C w u))
    (λ u. every_at (λ w. v w ≤ D) n C.gates r.0 w u (omega (arith, k, levels-length C))) in
    omega (arith, greatest-below (levels C) D most, greatest-from (levels C) r.1.0, r.1.1)

pub market_counts : MarketCounts
unfolding clearing_circuit
market_counts L b h g =
    let s = shaped L b h g in
    record { inputs = refl; wires = s.wires; ands = s.ands; outputs = s.out; rounds = omega (arith, rounds L b h g) }

-- the bytes of the demo's circuit, computed
pub market-bytes : MarketBytes
unfolding write_circuit write_gate write_gates write_wires write_number give then each xor and invert carries higher_sum sum last highest_carry less total meets marks_above marks gather_to gather having level_bit choose_to chosen quantity_bit from length_within given_from clearing clearing_circuit market_bytes
market-bytes = refl
