-- Progress of a run in rounds: what an accepted round does on any state, and where a run from the fresh state stands after each accepted
-- round. Assumes nothing.
use Prim.Native.Nat.{ℕ, suc, ◌+◌, ◌-◌, ◌*◌, ◌≤◌, ◌<◌}
use mathlib.Core.Bool.{Bool, true, false, ◌&&◌, true≢false}
use mathlib.Core.List.{List}
use mathlib.Core.Logic.{◌↔◌}
use mathlib.Core.Path.{◌≡◌, refl, sym, ap, ap₂, ◌∙◌, subst}
use borrow.Author.Tests.{eq-eqb, ne_eqb, eqb-true, leb-true}
use native.Mathlib.Omega.{arith}
use lib.Dec.{eqb}
use lib.ListN.{length, get_or, length-drop}
use lib.Seq.{ext_get_or}
use Rattle.algebra.specs.Choice.{choose}
use Rattle.circuit.proofs.Exact.{admitted}
use Rattle.circuit.proofs.Folds.{by_gates, below_at}
use Rattle.circuit.proofs.Levels.{levels-length, greatest-from, greatest-below}
use Rattle.circuit.specs.Admitted.{GateBelow, GatesBelow}
use Rattle.circuit.specs.Content.{Gate, Xor, And, Not, Circuit, is_and}
use Rattle.circuit.specs.Levels.{levels, level_of}
use Rattle.circuit.specs.Reading.{read_circuit}
use Rattle.circuit.specs.Value.{at_wires}
use Rattle.circuit_run.specs.Round.{RoundLent, RoundOutcome, waits, is_known, known_as, state_with}
use Rattle.circuit_run.specs.Round.{shares_in, waiting_before, waiting_in, ready, computed, wires_after, round}
use Rattle.circuit_run.specs.declared.RoundState.{RoundState}
use Rattle.circuit_run.specs.Step.{gate_at}
use Rattle.circuit_claims.proofs.AndGates.{and-inside, and_is}
use Rattle.number.proofs.Places.{split, either, choose_yes, choose_no}
use Rattle.number.specs.Reading.{Whole}
use Rattle.circuit_claims.proofs.Bytes.{outside, after-length, at_input, at_gate}
use Rattle.circuit_claims.proofs.Counts.{wait_none, none-waits}
use Rattle.circuit_claims.proofs.Gives.{count, outputs_are, writes}
use Rattle.circuit_claims.proofs.RoundChains.{round_laws, Took, triple-bits, one_each, took_state, took_bytes}
use Rattle.circuit_claims.proofs.CircuitCalls.{had_on, had, refused_is, had_some}
use Rattle.circuit_claims.proofs.Stages.{Stage, known, opened, unknown, Staged, low, high, fresh-byte, staged, waiting_is, waiting-all}
use Rattle.circuit_claims.specs.RoundProgress.{RoundsOn, is_and_wire, Writes, Moves, StandsAt, RoundProgress}
use Rattle.circuit_claims.specs.RoundRuns.{fresh_state, RoundMade, rounds_of, IsRound, outputs_by, Finished, IsWire, byte_of, Known, Waits}

-- ---- an accepted round on any state

module _ {c : Circuit} {l : RoundLent} {s : RoundState} (t : Took c l s) where
  pub below : GatesBelow c.inputs c.gates
  below = (admitted l.circuit c t.read).gates

  abbrev before : List ℕ
  before = s.wires

  abbrev after : List ℕ
  after = wires_after c l s.wires

  pub byte : (w : ℕ) → byte_of (round l s).state w ≡ get_or after w 0
  byte w = ap (λ (r : RoundState). byte_of r w) (took_state t)

  pub counted : (round l s).bits_written ≡ 2 * waiting_in c after
  counted = ap (λ (o : RoundOutcome). o.bits_written) t.is ∙ count c l after

  -- known wires stay
  keeps : (w : ℕ) → is_known (get_or before w 0) ≡ true → get_or after w 0 ≡ get_or before w 0
  keeps w e =
      split w c.inputs (λ h. at_input c l before (one_each t) below w h ∙ choose_yes (get_or before w 0) _ e)
      (λ h. split w (c.inputs + length c.gates)
      (λ k.
      let n : c.inputs + (w - c.inputs) ≡ w = omega arith in
      subst (λ (v : ℕ). is_known (get_or before v 0) ≡ true → get_or after v 0 ≡ get_or before v 0) n
      (λ f. at_gate c l before (one_each t) below (w - c.inputs) (omega arith) ∙ choose_yes (get_or before (c.inputs + (w - c.inputs)) 0) _ f) e)
      (λ k.
      let n : c.inputs + length c.gates + (w - (c.inputs + length c.gates)) ≡ w = omega arith in
      subst (λ (v : ℕ). get_or after v 0 ≡ get_or before v 0) n (outside c l before (one_each t) below (w - (c.inputs + length c.gates)))))

  -- an AND that waits becomes known
  gives : (i : ℕ) → is_and (gate_at c i) ≡ true → waits (get_or before (c.inputs + i) 0) ≡ true → is_known (get_or after (c.inputs + i) 0) ≡ true
  unfolding computed
  gives i a e =
      let one : get_or before (c.inputs + i) 0 ≡ 1 = eqb-true _ _ e in
      high (get_or after (c.inputs + i) 0)
      (omega (
        arith,
        at_gate c l before (one_each t) below i (and-inside c i a)
            ∙ ap (λ (b : ℕ). choose (is_known b) b (computed c l i (waiting_before c before i) (waits b) (gate_at c i) after)) one
            ∙ ap (λ (g : Gate). computed c l i (waiting_before c before i) true g after) (and_is (gate_at c i) a),
      ))

  -- with no gate left that waits all wires are known
  module _ (none : waiting_in c after ≡ 0) where
    input-known : (w : ℕ) → w < c.inputs → is_known (get_or after w 0) ≡ true
    input-known w h = of (is_known (get_or before w 0)) refl
      where
        of : (b : Bool) → is_known (get_or before w 0) ≡ b → is_known (get_or after w 0) ≡ true
        of true e = ap is_known (keeps w e) ∙ e
        of false e =
            ap is_known (at_input c l before (one_each t) below w h ∙ choose_no (get_or before w 0) _ e)
            ∙ high (known_as (get_or l.shares w 0)) (omega arith)

    gate-known : (i : ℕ) → i < length c.gates → ((w : ℕ) → w < c.inputs + i → is_known (get_or after w 0) ≡ true)
        → is_known (get_or after (c.inputs + i) 0) ≡ true
    unfolding computed ready GateBelow
    gate-known i h lower = of (is_known (get_or before w 0)) refl
      where
        w : ℕ
        w = c.inputs + i

        made : (waited : Bool) (g : Gate) → GateBelow w g → get_or after w 0 ≡ computed c l i (waiting_before c before i) waited g after
            → is_known (get_or after w 0) ≡ true
        made waited (Xor a b) ok is =
            high (get_or after w 0) (omega (arith, is ∙ choose_yes _ 0 (ap₂ (λ (p q : Bool). p && q) (lower a ok.0) (lower b ok.1))))
        made true (And a b) ok is = high (get_or after w 0) (omega (arith, is))
        made false (And a b) ok is =
            let e : get_or after w 0 ≡ 1 = is ∙ choose_yes 1 0 (ap₂ (λ (p q : Bool). p && q) (lower a ok.0) (lower b ok.1)) in
            absurd (true≢false (sym (eq-eqb _ _ e) ∙ none-waits (length c.gates) c.inputs after none i h))
        made waited (Not a) ok is = high (get_or after w 0) (omega (arith, is ∙ choose_yes _ 0 (lower a ok)))

        of : (b : Bool) → is_known (get_or before w 0) ≡ b → is_known (get_or after w 0) ≡ true
        of true e = ap is_known (keeps w e) ∙ e
        of false e =
            made (waits (get_or before w 0)) (gate_at c i) (below_at c.gates c.inputs i below h)
            (at_gate c l before (one_each t) below i h ∙ choose_no (get_or before w 0) _ e)

    all_known : (w : ℕ) → IsWire c w → is_known (get_or after w 0) ≡ true
    all_known = by_gates (λ (w : ℕ). is_known (get_or after w 0) ≡ true) c.inputs (length c.gates) input-known gate-known

  -- and the other way round
  no_wait : (b : ℕ) → is_known b ≡ true → waits b ≡ false
  no_wait b e = ne_eqb b 1 (λ z. omega (arith, leb-true 2 b e))

  none_left : ((w : ℕ) → IsWire c w → is_known (get_or after w 0) ≡ true) → waiting_in c after ≡ 0
  none_left all = wait_none (length c.gates) c.inputs after (λ j h. no_wait (get_or after (c.inputs + j) 0) (all (c.inputs + j) (omega arith)))

  pub number : (round l s).number ≡ 0
  number = ap (λ (o : RoundOutcome). o.number) t.is ∙ round_laws.accepted-number c l s

  pub moved : Moves c s (round l s)
  moved =
      record {
        keeps = λ w e. byte w ∙ keeps w e;
        gives = λ i a e. ap is_known (byte (c.inputs + i)) ∙ gives i a e;
        ends = (
          λ e w h. ap is_known (byte w) ∙ all_known (omega (arith, counted, e.1)) w h,
          λ all. (number, omega (arith, counted, none_left (λ w h. ap is_known (sym (byte w)) ∙ all w h))),
        );
        next = λ l' f e.
            let u = had_on round_laws l' (round l s).state f e in
            let far : length l'.far ≡ 2 * waiting_in c (round l s).state.wires = search u.met.all in
            far ∙ ap (λ (r : RoundState). 2 * waiting_in c r.wires) (took_state t) ∙ sym counted;
        writes = subst (λ (o : RoundOutcome). Writes c o) (sym t.is) (writes c l after (triple-bits t));
      }

-- ---- a run from the fresh state

abbrev IsHigh : ℕ → ℕ → Type 0
IsHigh w x = 2 ≤ x

module _ (circuit : List ℕ) (c : Circuit) (read : read_circuit circuit ≡ Whole c) (calls : List RoundLent) (stays : RoundsOn circuit (rounds_of calls)) where
  levelled : (k : ℕ) (m : RoundMade) → IsRound (rounds_of calls) k m → Staged IsHigh c (suc k) m.gave.state.wires
  levelled =
      staged circuit c read calls stays IsHigh (λ w x h. h)
      (λ k m e s t before.
      record {
        in_input = λ w h. omega arith;
        in_xor = λ i a b x y h g p q. omega arith;
        in_not = λ i a x h g p. omega arith;
        in_and = λ i a b h g lev p q. omega arith;
      })

  module _ (k : ℕ) (m : RoundMade) (e : IsRound (rounds_of calls) k m) where
    moved_run : (s : RoundState) × Moves c s m.gave
    moved_run = let t = had_some round_laws fresh_state calls circuit read stays k m e in (t.0, subst (Moves c t.0) (sym t.1) (moved t.2))

    number-run : m.gave.number ≡ 0
    number-run =
        let t = had_some round_laws fresh_state calls circuit read stays k m e in
        ap (λ (o : RoundOutcome). o.number) t.1 ∙ number t.2

    counted-run : m.gave.bits_written ≡ 2 * waiting_in c m.gave.state.wires
    counted-run =
        let t = had_some round_laws fresh_state calls circuit read stays k m e in
        subst (λ (o : RoundOutcome). o.bits_written ≡ 2 * waiting_in c o.state.wires) (sym t.1)
        (counted t.2 ∙ ap (λ (r : RoundState). 2 * waiting_in c r.wires) (sym (took_state t.2)))

    known_at : (w : ℕ) → IsWire c w → Known m.gave.state w ↔ level_of c w ≤ k
    known_at w h = of (levelled k m e w h)
      where
        of : {f : Bool} {level b : ℕ} → Stage (IsHigh w) f level (suc k) b → is_known b ≡ true ↔ level ≤ k
        of {f} {level} {b} (known l p) = (λ _. omega arith, λ _. high b p)
        of {f} {level} {b} (opened t l z) = (λ g. absurd (true≢false (sym g ∙ low b (omega arith))), λ g. absurd (omega arith))
        of {f} {level} {b} (unknown l n z) = (λ g. absurd (true≢false (sym g ∙ low b (omega arith))), λ g. absurd (omega arith))

    waits_at : (w : ℕ) → IsWire c w → Waits m.gave.state w ↔ ((is_and_wire c w ≡ true) × (level_of c w ≡ suc k))
    waits_at w h =
        let is = waiting_is IsHigh (λ v x g. g) c (suc k) m.gave.state.wires (levelled k m e) w h in
        (λ g. of (is_and_wire c w) (sym is ∙ g), λ g. is ∙ ap₂ (λ (p q : Bool). p && q) g.0 (eq-eqb (level_of c w) (suc k) g.1))
      where
        of : (b : Bool) → (b && eqb (level_of c w) (suc k)) ≡ true → (b ≡ true) × (level_of c w ≡ suc k)
        of true g = (refl, eqb-true _ _ g)
        of false g = absurd (true≢false (sym g))

    stands : StandsAt c k m.gave
    stands =
        let ends = moved_run.1.ends in
        record {
          known = known_at;
          waits = waits_at;
          written = counted-run ∙ ap (λ (n : ℕ). 2 * n) (waiting-all IsHigh (λ w x h. h) c (suc k) m.gave.state.wires (levelled k m e));
          finished = (
            λ f. omega (
              arith,
              greatest-below (levels c) k (λ w h.
                  let wire : IsWire c w = omega (arith, levels-length c) in (known_at w wire).0 (ends.0 f w wire)),
            ),
            λ f. ends.1 (λ w h. (known_at w h).1 (omega (arith, greatest-from (levels c) w))),
          );
        }

-- ---- bytes in advance

written-by : {c : Circuit} {o o' : RoundOutcome} → Writes c o → Writes c o' → o.number ≡ 0 → o'.number ≡ 0
    → o.bits_written ≡ o'.bits_written → o.written ≡ o'.written
written-by {c} {o} {o'} a b zero-o zero-o' e =
    either o.bits_written 0 (λ z. a.finished (zero-o, z) ∙ sym (b.finished (zero-o', sym e ∙ z)))
    (λ n. a.unfinished (λ f. n f.1) ∙ sym (b.unfinished (λ f. n (e ∙ f.1))))

in_advance : (circuit : List ℕ) (c : Circuit) → read_circuit circuit ≡ Whole c → (calls calls' : List RoundLent)
    → RoundsOn circuit (rounds_of calls) → RoundsOn circuit (rounds_of calls')
    → (k : ℕ) (m m' : RoundMade) → IsRound (rounds_of calls) k m → IsRound (rounds_of calls') k m'
    → (m.gave.bits_written ≡ m'.gave.bits_written) × (m.gave.written ≡ m'.gave.written)
in_advance circuit c read calls calls' stays stays' k m m' e e' =
    let same = (stands circuit c read calls stays k m e).written ∙ sym (stands circuit c read calls' stays' k m' e').written in (
      same,
      written-by (moved_run circuit c read calls stays k m e).1.writes (moved_run circuit c read calls' stays' k m' e').1.writes
          (number-run circuit c read calls stays k m e) (number-run circuit c read calls' stays' k m' e') same,
    )

-- ---- a finished run

pub finished-outputs : {c : Circuit} {l : RoundLent} {s : RoundState} (t : Took c l s) → Finished (round l s)
    → outputs_by (round l s) ≡ at_wires (shares_in (wires_after c l s.wires)) c.outputs
finished-outputs {c} {l} {s} t e = ap outputs_by t.is ∙ outputs_are c l (wires_after c l s.wires) (subst Finished t.is e)

-- a round on a state whose wires are all known leaves it
all_stay : {c : Circuit} {l : RoundLent} {s : RoundState} (t : Took c l s) → ((w : ℕ) → IsWire c w → Known s w)
    → c.inputs + length c.gates ≤ length s.wires → wires_after c l s.wires ≡ s.wires
all_stay {c} {l} {s} t all long =
    let n : ℕ = c.inputs + length c.gates in
    ext_get_or 0 (wires_after c l s.wires) s.wires
    (omega (arith, after-length c l s.wires (one_each t) (below t), length-drop n s.wires))
    (λ w h. split w n (λ k. sym (byte t w) ∙ (moved t).keeps w (all w k))
    (λ k.
    subst (λ (v : ℕ). get_or (wires_after c l s.wires) v 0 ≡ get_or s.wires v 0) {x = n + (w - n)} {y = w} (omega arith)
    (outside c l s.wires (one_each t) (below t) (w - n))))

again : (l l' : RoundLent) (s : RoundState) → l'.circuit ≡ l.circuit → (round l s).number ≡ 0 → Finished (round l s) → (round l' (round l s).state).number ≡ 0
    → ((round l' (round l s).state).state ≡ (round l s).state) × Finished (round l' (round l s).state)
    × (outputs_by (round l' (round l s).state) ≡ outputs_by (round l s))
again l l' s same e finished f =
    let r : RoundState = (round l s).state in
    let t = had round_laws l s e in
    let c : Circuit = t.0 in
    let u : Took c l' r = had_on round_laws l' r (ap read_circuit same ∙ t.1.read) f in
    let all : (w : ℕ) → IsWire c w → Known r w = (moved t.1).ends.0 finished in
    let long : c.inputs + length c.gates ≤ length r.wires =
    omega (arith, ap length (took_bytes t.1), after-length c l s.wires (one_each t.1) (below t.1)) in
    let stay : wires_after c l' r.wires ≡ r.wires = all_stay u all long in
    let state : (round l' r).state ≡ r = took_state u ∙ ap state_with stay in
    let ends : Finished (round l' r) = (moved u).ends.1 (λ w h. ap (λ (q : RoundState). is_known (byte_of q w)) state ∙ all w h) in (
      state,
      ends,
      finished-outputs u ends ∙ ap (λ (b : List ℕ). at_wires (shares_in b) c.outputs) (stay ∙ took_bytes t.1) ∙ sym (finished-outputs t.1 finished),
    )

-- ---- the first round gets no far bits

first_round : (l : RoundLent) → (round l fresh_state).number ≡ 0 → length l.far ≡ 0
first_round l e =
    let t = had round_laws l fresh_state e in
    let far : length l.far ≡ 2 * waiting_in t.0 fresh_state.wires = search t.1.met.all in
    omega (arith, far, wait_none (length t.0.gates) t.0.inputs fresh_state.wires (λ j h. ap waits (fresh-byte (t.0.inputs + j))))

-- circuits in rounds: progress
pub progress : RoundProgress
progress =
    record {
      refused = refused_is round_laws;
      refused-unfinished = λ l s refused f. refused f.0;
      moves = λ c l s f e. moved (had_on round_laws l s f e);
      first_round = first_round;
      stands = stands;
      in_advance = in_advance;
      again = again;
    }
