-- A run in rounds goes by levels: after m accepted rounds a wire is known exactly if its level is below m, and waits exactly if it is
-- an AND of level m. What holds of known bytes is a parameter: that they are known, or that they stand for a transcript's shares.
-- Assumes nothing.
use Prim.Native.Nat.{ℕ, zero, suc, ◌+◌, ◌-◌, ◌≤◌, ◌<◌}
use mathlib.Core.Bool.{Bool, true, false, ◌&&◌, true≢false}
use mathlib.Core.List.{List}
use mathlib.Core.Path.{◌≡◌, refl, sym, ap, ap₂, ◌∙◌, subst}
use borrow.Author.Tests.{le-leb, lt-leb, eq-eqb, ne_eqb}
use native.Mathlib.Omega.{arith}
use lib.Bits.{bit_xor}
use lib.Dec.{eqb}
use lib.ListN.{length, get_or, take, drop, replicate}
use lib.Seq.{get_or-drop, get_or-take, take-length, length-take-le}
use Rattle.algebra.proofs.Tests.{and-false}
use Rattle.algebra.specs.Choice.{choose}
use Rattle.circuit.proofs.Exact.{admitted}
use Rattle.circuit.proofs.Folds.{by_gates, below_at}
use Rattle.circuit.proofs.Levels.{greater-below, greater-from, level_input, level_gate}
use Rattle.circuit.specs.Admitted.{most_wires, GateBelow, GatesBelow}
use Rattle.circuit.specs.Content.{Gate, Xor, And, Not, Circuit, is_and}
use Rattle.circuit.specs.Levels.{greater, gate_level, levels, level_of, ands_of, ands_at_level}
use Rattle.circuit.specs.Reading.{read_circuit}
use Rattle.circuit_run.proofs.RoundGates.{share-at}
use Rattle.circuit_run.specs.Round.{RoundLent, RoundOutcome, waits, is_known, share_of, known_as, waiting}
use Rattle.circuit_run.specs.Round.{waiting_before, waiting_in, ready, opened_share, computed, wires_after, round}
use Rattle.circuit_run.specs.declared.RoundState.{RoundState}
use Rattle.circuit_run.specs.Step.{gate_at, flipped}
use Rattle.circuit_claims.proofs.Calls.{call_before}
use Rattle.number.proofs.Places.{split, choose_yes, choose_no}
use Rattle.number.specs.Reading.{Whole}
use Rattle.circuit_claims.proofs.Bytes.{at_input, at_gate}
use Rattle.circuit_claims.proofs.Counts.{wait_ands}
use Rattle.circuit_claims.proofs.RoundChains.{round_laws, Took, one_each, took_bytes}
use Rattle.circuit_claims.proofs.CircuitCalls.{first_had, next_had}
use Rattle.circuit_claims.specs.RoundProgress.{RoundsOn, is_and_wire}
use Rattle.circuit_claims.specs.RoundRuns.{fresh_state, RoundMade, rounds_of, IsRound, IsWire}

-- the byte of a wire after m rounds, by whether it is an AND's and by its level; P holds of the bytes that are known
pub data Stage (P : ℕ → Type 0) (and : Bool) (level m byte : ℕ) : Type 0 where
  known : level < m → P byte → Stage P and level m byte
  opened : and ≡ true → level ≡ m → byte ≡ 1 → Stage P and level m byte
  unknown : m ≤ level → (and ≡ true → m < level) → byte ≡ 0 → Stage P and level m byte

-- all wires of a circuit
abbrev pub Staged : (ℕ → ℕ → Type 0) → Circuit → ℕ → List ℕ → Type 0
Staged P c m bytes = (w : ℕ) → IsWire c w → Stage (P w) (is_and_wire c w) (level_of c w) m (get_or bytes w 0)

-- two wires are known, or one of them is not
data Pair (P Q : ℕ → Type 0) (level m x y : ℕ) : Type 0 where
  both : (is_known x && is_known y) ≡ true → level < m → P x → Q y → Pair P Q level m x y
  not-both : (is_known x && is_known y) ≡ false → m ≤ level → Pair P Q level m x y

pub low : (x : ℕ) → x < 2 → is_known x ≡ false
low x h = lt-leb 2 x h

pub high : (x : ℕ) → 2 ≤ x → is_known x ≡ true
high x h = le-leb 2 x h

module _ (P Q : ℕ → Type 0) (p-high : (x : ℕ) → P x → 2 ≤ x) (q-high : (x : ℕ) → Q x → 2 ≤ x) where
  pair : {f g : Bool} {a b m x y : ℕ} → Stage P f a m x → Stage Q g b m y → Pair P Q (greater a b) m x y
  pair {f} {g} {a} {b} {m} {x} {y} (known h p) (known k q) =
      both (ap₂ (λ (s t : Bool). s && t) (high x (p-high x p)) (high y (q-high y q))) (greater-below a b m h k) p q
  pair {f} {g} {a} {b} {m} {x} {y} (known h p) (opened t e z) =
      not-both (and-false (is_known x) (is_known y) (low y (omega arith))) (omega (arith, greater-from a b))
  pair {f} {g} {a} {b} {m} {x} {y} (known h p) (unknown k n z) =
      not-both (and-false (is_known x) (is_known y) (low y (omega arith))) (omega (arith, greater-from a b))
  pair {f} {g} {a} {b} {m} {x} {y} (opened t e z) s =
      not-both (ap (λ (r : Bool). r && is_known y) (low x (omega arith))) (omega (arith, greater-from a b))
  pair {f} {g} {a} {b} {m} {x} {y} (unknown k n z) s =
      not-both (ap (λ (r : Bool). r && is_known y) (low x (omega arith))) (omega (arith, greater-from a b))

pub is_known_lem : {P : ℕ → Type 0} {f : Bool} {a m x : ℕ} → Stage P f a m x → a < m → P x
is_known_lem (known h p) k = p
is_known_lem (opened t e z) k = absurd (omega arith)
is_known_lem (unknown h n z) k = absurd (omega arith)

pub and_wire : (c : Circuit) (i : ℕ) → is_and_wire c (c.inputs + i) ≡ is_and (gate_at c i)
and_wire c i =
    ap (λ (b : Bool). b && is_and (gate_at c (c.inputs + i - c.inputs))) (le-leb c.inputs (c.inputs + i) (omega arith))
    ∙ ap (λ (n : ℕ). is_and (gate_at c n)) {x = c.inputs + i - c.inputs} {y = i} (omega arith)

-- what P is to hold of in an accepted round, the ANDs of level m taking their far bits
pub record Closed (P : ℕ → ℕ → Type 0) (c : Circuit) (l : RoundLent) (before : List ℕ) (m : ℕ) : Type 0 where
  pub in_input : (w : ℕ) → w < c.inputs → P w (known_as (get_or l.shares w 0))
  pub in_xor : (i a b x y : ℕ) → i < length c.gates → gate_at c i ≡ Xor a b → P a x → P b y → P (c.inputs + i) (known_as (bit_xor (share_of x) (share_of y)))
  pub in_not : (i a x : ℕ) → i < length c.gates → gate_at c i ≡ Not a → P a x → P (c.inputs + i) (known_as (flipped l.role (share_of x)))
  pub in_and : (i a b : ℕ) → i < length c.gates → gate_at c i ≡ And a b → level_of c (c.inputs + i) ≡ m
      → P a (get_or (wires_after c l before) a 0) → P b (get_or (wires_after c l before) b 0)
      → P (c.inputs + i) (known_as (opened_share c l i (waiting_before c before i) (wires_after c l before)))

-- an accepted round takes a circuit's wires one level on
module _ (P : ℕ → ℕ → Type 0) (high-at : (w x : ℕ) → P w x → 2 ≤ x) (c : Circuit) (l : RoundLent) (before : List ℕ) (m : ℕ) (closed : Closed P c l before m)
    (one : length l.shares ≡ c.inputs) (ok : GatesBelow c.inputs c.gates) where
  abbrev after : List ℕ
  after = wires_after c l before

  abbrev Here : ℕ → Type 0
  Here w = Stage (P w) (is_and_wire c w) (level_of c w) (suc m) (get_or after w 0)

  stage_input : (w : ℕ) → w < c.inputs → {f : Bool} → Stage (P w) f (level_of c w) m (get_or before w 0) → Here w
  stage_input w h (known k p) =
      known (omega arith)
      (subst (P w) (sym (at_input c l before one ok w h ∙ choose_yes (get_or before w 0) _ (high _ (high-at w _ p)))) p)
  stage_input w h (opened t e z) =
      known (omega (arith, level_input c w h))
      (subst (P w) (sym (at_input c l before one ok w h ∙ choose_no (get_or before w 0) _ (low (get_or before w 0) (omega arith)))) (closed.in_input w h))
  stage_input w h (unknown k n z) =
      known (omega (arith, level_input c w h))
      (subst (P w) (sym (at_input c l before one ok w h ∙ choose_no (get_or before w 0) _ (low (get_or before w 0) (omega arith)))) (closed.in_input w h))

  -- a gate that was not known
  module _ (i : ℕ) (h : i < length c.gates) (lower : (v : ℕ) → v < c.inputs + i → Here v) where
    abbrev wire : ℕ
    wire = c.inputs + i

    abbrev before_wire : ℕ
    before_wire = get_or before wire 0

    abbrev step : Bool → Gate → ℕ
    step waited g = computed c l i (waiting_before c before i) waited g after

    no_and : {A : Type 0} (g : Gate) → gate_at c i ≡ g → is_and g ≡ false → is_and_wire c wire ≡ true → A
    no_and g e f t = absurd (true≢false (sym t ∙ and_wire c i ∙ ap is_and e ∙ f))

    level_is : (g : Gate) → gate_at c i ≡ g → level_of c wire ≡ gate_level g (levels c)
    level_is g e = level_gate c ok i h ∙ ap (λ (k : Gate). gate_level k (levels c)) e

    waited : (g : Gate) → gate_at c i ≡ g → GateBelow wire g → is_and_wire c wire ≡ true → level_of c wire ≡ m → get_or after wire 0 ≡ step true g → Here wire
    unfolding computed GateBelow gate_level
    waited (Xor a b) e below t lev is = no_and (Xor a b) e refl t
    waited (And a b) e below t lev is =
        let from = greater-from (level_of c a) (level_of c b) in
        let top : level_of c wire ≡ 1 + greater (level_of c a) (level_of c b) = level_is (And a b) e in
        known (omega arith)
        (subst (P wire) (sym is)
        (closed.in_and i a b h e lev (is_known_lem (lower a below.0) (omega (arith, top, from))) (is_known_lem (lower b below.1) (omega (arith, top, from)))))
    waited (Not a) e below t lev is = no_and (Not a) e refl t

    fresh : (g : Gate) → gate_at c i ≡ g → GateBelow wire g → m ≤ level_of c wire → (is_and_wire c wire ≡ true → m < level_of c wire) → get_or after wire 0 ≡ step false g → Here wire
    unfolding computed ready GateBelow gate_level
    fresh (Xor a b) e below k n is = of (pair (P a) (P b) (high-at a) (high-at b) (lower a below.0) (lower b below.1))
      where
        of : Pair (P a) (P b) (greater (level_of c a) (level_of c b)) (suc m) (get_or after a 0) (get_or after b 0) → Here wire
        of (both r lev p q) =
            known (omega (arith, level_is (Xor a b) e))
            (subst (P wire) (sym (is ∙ choose_yes _ 0 r ∙ ap₂ (λ (x y : ℕ). known_as (bit_xor x y)) (share-at after a) (share-at after b)))
            (closed.in_xor i a b _ _ h e p q))
        of (not-both r lev) = unknown (omega (arith, level_is (Xor a b) e)) (no_and (Xor a b) e refl) (is ∙ choose_no _ 0 r)
    fresh (And a b) e below k n is = of (pair (P a) (P b) (high-at a) (high-at b) (lower a below.0) (lower b below.1))
      where
        and : is_and_wire c wire ≡ true
        and = and_wire c i ∙ ap is_and e

        of : Pair (P a) (P b) (greater (level_of c a) (level_of c b)) (suc m) (get_or after a 0) (get_or after b 0) → Here wire
        of (both r lev p q) = opened and (omega (arith, level_is (And a b) e, n and)) (is ∙ choose_yes 1 0 r)
        of (not-both r lev) = unknown (omega (arith, level_is (And a b) e)) (λ t. omega (arith, level_is (And a b) e)) (is ∙ choose_no 1 0 r)
    fresh (Not a) e below k n is = of (lower a below)
      where
        of : Here a → Here wire
        of (known lev p) =
            known (omega (arith, level_is (Not a) e))
            (subst (P wire) (sym (is ∙ choose_yes _ 0 (high _ (high-at a _ p)) ∙ ap (λ (x : ℕ). known_as (flipped l.role x)) (share-at after a)))
            (closed.in_not i a _ h e p))
        of (opened t lev z) =
            unknown (omega (arith, level_is (Not a) e)) (no_and (Not a) e refl) (is ∙ choose_no _ 0 (low (get_or after a 0) (omega arith)))
        of (unknown lev t z) =
            unknown (omega (arith, level_is (Not a) e)) (no_and (Not a) e refl) (is ∙ choose_no _ 0 (low (get_or after a 0) (omega arith)))

    -- its byte, by the byte before
    at : get_or after wire 0 ≡ choose (is_known before_wire) before_wire (step (waits before_wire) (gate_at c i))
    at = at_gate c l before one ok i h

    by : (b : ℕ) → before_wire ≡ b → get_or after wire 0 ≡ choose (is_known b) b (step (waits b) (gate_at c i))
    by b e = at ∙ ap (λ (x : ℕ). choose (is_known x) x (step (waits x) (gate_at c i))) e

    stage_gate : Stage (P wire) (is_and_wire c wire) (level_of c wire) m before_wire → Here wire
    stage_gate (known k p) = known (omega arith) (subst (P wire) (sym (at ∙ choose_yes before_wire _ (high _ (high-at wire _ p)))) p)
    stage_gate (opened t e z) = waited (gate_at c i) refl (below_at c.gates c.inputs i ok h) t e (by 1 z)
    stage_gate (unknown k n z) = fresh (gate_at c i) refl (below_at c.gates c.inputs i ok h) k n (by 0 z)

  pub next_stage : Staged P c m before → Staged P c (suc m) after
  next_stage s =
      by_gates Here c.inputs (length c.gates) (λ w h. stage_input w h (s w (omega arith)))
      (λ i h lower. stage_gate i h lower (s (c.inputs + i) (omega arith)))

-- ---- how many gates wait

wait_stage : {P : ℕ → Type 0} → ((x : ℕ) → P x → 2 ≤ x) → {f : Bool} {level m b : ℕ} → Stage P f level m b → waits b ≡ (f && eqb level m)
wait_stage high-at {f} {level} {m} {b} (known h p) =
    ne_eqb b 1 (λ z. omega (arith, high-at b p)) ∙ sym (and-false f (eqb level m) (ne_eqb level m (λ z. omega arith)))
wait_stage high-at {f} {level} {m} {b} (opened t e z) =
    eq-eqb b 1 z ∙ sym (ap₂ (λ (p q : Bool). p && q) t (eq-eqb level m e))
wait_stage high-at {f} {level} {m} {b} (unknown h n z) = ne_eqb b 1 (λ y. omega arith) ∙ of f n
  where
    of : (g : Bool) → (g ≡ true → m < level) → false ≡ (g && eqb level m)
    of true k = sym (ne_eqb level m (λ y. omega (arith, k refl)))
    of false k = refl

-- those that wait before gate i are the ANDs of level m before it
module _ (P : ℕ → ℕ → Type 0) (high-at : (w x : ℕ) → P w x → 2 ≤ x) (c : Circuit) (m : ℕ) (bytes : List ℕ) (s : Staged P c m bytes) where
  pub waiting_is : (w : ℕ) → IsWire c w → waits (get_or bytes w 0) ≡ (is_and_wire c w && eqb (level_of c w) m)
  waiting_is w h = wait_stage (high-at w) (s w h)

  pub waiting-ands : (i : ℕ) → i ≤ length c.gates → waiting_before c bytes i ≡ ands_of m (take i c.gates) (drop c.inputs (levels c))
  waiting-ands i h =
      let n : length (take i c.gates) ≡ i = length-take-le i c.gates h in
      ap (λ (k : ℕ). waiting (take k (drop c.inputs bytes))) (sym n)
      ∙ wait_ands m (take i c.gates) (drop c.inputs bytes) (drop c.inputs (levels c))
      (λ j k.
      ap waits (get_or-drop c.inputs bytes j 0) ∙ waiting_is (c.inputs + j) (omega arith)
      ∙ ap₂ (λ (p : Bool) (x : ℕ). p && eqb x m) (and_wire c j ∙ ap is_and (sym (get_or-take i c.gates j (Not 0) (omega arith))))
      (sym (get_or-drop c.inputs (levels c) j 0)))

  pub waiting-all : waiting_in c bytes ≡ ands_at_level c m
  waiting-all =
      waiting-ands (length c.gates) (omega arith) ∙ ap (λ (gs : List Gate). ands_of m gs (drop c.inputs (levels c))) (take-length c.gates)

-- ---- the fresh state

pub and_level : (c : Circuit) → GatesBelow c.inputs c.gates → (w : ℕ) → IsWire c w → is_and_wire c w ≡ true → 0 < level_of c w
unfolding gate_level
and_level c ok w h e =
    split w c.inputs
    (λ k. absurd (true≢false (sym e ∙ ap (λ (b : Bool). b && is_and (gate_at c (w - c.inputs))) (lt-leb c.inputs w k))))
    (λ k.
    let n : c.inputs + (w - c.inputs) ≡ w = omega arith in
    let a : is_and (gate_at c (w - c.inputs)) ≡ true = sym (and_wire c (w - c.inputs)) ∙ ap (is_and_wire c) n ∙ e in
    subst (λ (v : ℕ). 0 < level_of c v) n
    (of (gate_at c (w - c.inputs)) a (level_gate c ok (w - c.inputs) (omega arith))))
  where
    of : {x : ℕ} (g : Gate) → is_and g ≡ true → x ≡ gate_level g (levels c) → 0 < x
    of (Xor a b) f z = absurd (true≢false (sym f))
    of (And a b) f z = omega arith
    of (Not a) f z = absurd (true≢false (sym f))

pub fresh-byte : (w : ℕ) → get_or fresh_state.wires w 0 ≡ 0
unfolding fresh_state
fresh-byte = zeros most_wires
  where
    zeros : (n i : ℕ) → ◌≡◌ {A = ℕ} (get_or (replicate n 0) i 0) 0
    zeros zero i = refl
    zeros (suc n) zero = refl
    zeros (suc n) (suc i) = zeros n i

pub fresh_staged : (P : ℕ → ℕ → Type 0) (c : Circuit) → GatesBelow c.inputs c.gates → Staged P c 0 fresh_state.wires
fresh_staged P c ok w h = unknown (omega arith) (and_level c ok w h) (fresh-byte w)

-- ---- a run

module _ (circuit : List ℕ) (c : Circuit) (read : read_circuit circuit ≡ Whole c) (calls : List RoundLent) (stays : RoundsOn circuit (rounds_of calls)) where
  pub gates-below : GatesBelow c.inputs c.gates
  gates-below = (admitted circuit c read).gates

  -- accepted round k, on the state that the one before left, which is staged by k
  module _ (P : ℕ → ℕ → Type 0) (high-at : (w x : ℕ) → P w x → 2 ≤ x)
      (closed : (k : ℕ) (m : RoundMade) → IsRound (rounds_of calls) k m → (s : RoundState) → Took c m.got s → Staged P c k s.wires
      → Closed P c m.got s.wires k) where
    went : (k : ℕ) (m : RoundMade) → IsRound (rounds_of calls) k m → (s : RoundState) → m.gave ≡ round m.got s → Took c m.got s
        → Staged P c k s.wires → Staged P c (suc k) m.gave.state.wires
    went k m e s g t before =
        subst (λ (b : List ℕ). Staged P c (suc k) b) (sym (ap (λ (o : RoundOutcome). o.state.wires) g ∙ took_bytes t))
        (next_stage P high-at c m.got s.wires k (closed k m e s t before) (one_each t) gates-below before)

    pub staged : (k : ℕ) (m : RoundMade) → IsRound (rounds_of calls) k m → Staged P c (suc k) m.gave.state.wires
    staged zero m e = let t = first_had round_laws fresh_state calls circuit read stays e in went zero m e fresh_state t.0 t.1 (fresh_staged P c gates-below)
    staged (suc k) m e =
        let b = call_before k (rounds_of calls) e in
        let t = next_had round_laws fresh_state calls circuit read stays k b.1 e in
        went (suc k) m e b.0.gave.state t.0 t.1 (staged k b.0 b.1)
