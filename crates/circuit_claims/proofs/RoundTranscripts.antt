-- A run in rounds is a transcript: the known wires have the shares that the far bits of the ANDs give, and the bits sent are the
-- transcript's. Assumes nothing.
use Prim.Native.Nat.{ℕ, suc, ◌+◌, ◌*◌, ◌≤◌, ◌<◌}
use mathlib.Core.Bool.{Bool, true, ◌&&◌}
use mathlib.Core.List.{List}
use mathlib.Core.Path.{◌≡◌, sym, ap, ap₂, ◌∙◌, subst}
use borrow.Author.Tests.{eq-eqb}
use native.Mathlib.Nat.{add-zero, zero-add}
use native.Mathlib.Omega.{arith}
use lib.Bits.{bit_xor}
use lib.ListN.{length, get_or, take, drop}
use Rattle.circuit.proofs.Exact.{admitted}
use Rattle.circuit.proofs.Folds.{below_at}
use Rattle.circuit.proofs.Levels.{and_raised}
use Rattle.circuit.specs.Admitted.{GatesBelow}
use Rattle.circuit.specs.Content.{Gate, Xor, And, Not, Circuit, is_and}
use Rattle.circuit.specs.Levels.{levels, level_of, ands_of}
use Rattle.circuit.specs.Reading.{read_circuit}
use Rattle.circuit_run.proofs.RoundGates.{share-at}
use Rattle.circuit_run.specs.Round.{RoundLent, RoundOutcome, share_of, known_as, shares_in, waiting, waits, waiting_before, opened_share, wires_after, bits_to_send}
use Rattle.circuit_run.specs.declared.RoundState.{RoundState}
use Rattle.circuit_run.proofs.Bits.{xor-bit, flipped-bit, share-bit}
use Rattle.circuit_run.specs.Step.{gate_at, ands_before, first_wire, second_wire, triple_first, triple_second, flipped, masked_first, masked_second}
use Rattle.circuit_claims.proofs.AndGates.{and-inside, and_is, and_below}
use Rattle.circuit_claims.proofs.Transcripts.{shares_keep, shares_hold}
use Rattle.circuit_claims.specs.Transcript.{BitsByAnd, share_with_far, share_at, wire_shares, masked_bits, pair_at}
use Rattle.number.specs.Reading.{Whole}
use Rattle.circuit_claims.proofs.Counts.{sent-at}
use Rattle.circuit_claims.proofs.Gives.{bits_are}
use Rattle.circuit_claims.proofs.RoundChains.{round_laws, Took, share-bits, triple-bits, far-bits, one_each, took_bytes}
use Rattle.circuit_claims.proofs.CircuitCalls.{had_some}
use Rattle.circuit_claims.proofs.Stages.{Staged, Closed, is_known_lem, and_wire, staged, waiting_is, waiting-ands}
use Rattle.circuit_claims.specs.RoundEvaluation.{UnalteredRounds}
use Rattle.circuit_claims.specs.Inner.ByAnd.{FarGot, ByFar}
use Rattle.circuit_claims.specs.RoundProgress.{RoundsOn}
use Rattle.circuit_claims.specs.RoundRuns.{fresh_state, RoundMade, rounds_of, IsRound, bits_by, IsWire, byte_of}
use Rattle.circuit_claims.specs.Same.{level_at, place_at}

-- the wires of an AND have lower levels
and_lower : (c : Circuit) → GatesBelow c.inputs c.gates → (i : ℕ) → is_and (gate_at c i) ≡ true
    → (level_of c (first_wire (gate_at c i)) < level_at c i) × (level_of c (second_wire (gate_at c i)) < level_at c i)
and_lower c ok i a = and_raised c ok i (first_wire (gate_at c i)) (second_wire (gate_at c i)) (and-inside c i a) (and_is (gate_at c i) a)

-- the share of an AND in a round is the transcript's, and a bit
module _ (c : Circuit) (i a b : ℕ) (g : gate_at c i ≡ And a b) (role : ℕ) (triples : List ℕ) where
  opened-round : (l : RoundLent) (p : ℕ) (bytes wires : List ℕ) (far : ℕ × ℕ) → l.role ≡ role → l.triples ≡ triples
      → get_or (shares_in bytes) a 0 ≡ get_or wires a 0 → get_or (shares_in bytes) b 0 ≡ get_or wires b 0 → far ≡ pair_at l.far (2 * p)
      → opened_share c l i p bytes ≡ share_with_far role c triples wires i far
  unfolding opened_share share_with_far masked_first masked_second
  opened-round l p bytes wires far own-role own-triples at_a at_b bits = rw (own-role, own-triples, g, at_a, at_b, bits)

  opened-bit : (wires : List ℕ) (far : ℕ × ℕ) → ((j : ℕ) → get_or triples j 0 ≤ 1) → get_or wires a 0 ≤ 1 → get_or wires b 0 ≤ 1 → far.0 ≤ 1 → far.1 ≤ 1
      → share_with_far role c triples wires i far ≤ 1
  unfolding share_with_far masked_first masked_second
  opened-bit wires far t x y f f' = rw g (share-bit role (xor-bit (xor-bit x (t _)) f) (xor-bit (xor-bit y (t _)) f') (t _) (t _) (t _))

module _ (circuit : List ℕ) (c : Circuit) (read : read_circuit circuit ≡ Whole c) (role : ℕ) (shares triples : List ℕ) (calls : List RoundLent)
    (own : UnalteredRounds role circuit shares triples (rounds_of calls)) (far : BitsByAnd) (got : FarGot c (rounds_of calls) far) where
  on-circuit : RoundsOn circuit (rounds_of calls)
  on-circuit k m e = (own k m e).own-circuit

  ok : GatesBelow c.inputs c.gates
  ok = (admitted circuit c read).gates

  abbrev S : List ℕ
  S = wire_shares role c triples far shares

  -- a byte stands for the transcript's share of a wire
  abbrev Stands : ℕ → ℕ → Type 0
  Stands w x = (x ≡ known_as (get_or S w 0)) × (get_or S w 0 ≤ 1)

  stands-high : (w x : ℕ) → Stands w x → 2 ≤ x
  stands-high w x p = omega (arith, p.0)

  stands-share : (w x : ℕ) → Stands w x → share_of x ≡ get_or S w 0
  stands-share w x p = omega (arith, p.0, p.1)

  -- the place of an AND among those of its level that wait
  place_is : (n : ℕ) (bytes : List ℕ) → Staged Stands c n bytes → (i : ℕ) → i < length c.gates → level_at c i ≡ n → 2 * waiting_before c bytes i ≡ place_at c i
  place_is n bytes at i h lev =
      ap (λ (p : ℕ). 2 * p)
      (waiting-ands Stands stands-high c n bytes at i (omega arith)
      ∙ ap (λ (l : ℕ). ands_of l (take i c.gates) (drop c.inputs (levels c))) (sym lev))

  -- accepted round k
  module _ (k : ℕ) (m : RoundMade) (e : IsRound (rounds_of calls) k m) (s : RoundState) (t : Took c m.got s) where
    one : length shares ≡ c.inputs
    one = ap length (sym (own k m e).own-shares) ∙ one_each t

    triple-bit : (j : ℕ) → get_or triples j 0 ≤ 1
    triple-bit j = subst (λ (l : List ℕ). get_or l j 0 ≤ 1) (own k m e).own-triples (triple-bits t j)

    at_gate : (i : ℕ) (g : Gate) → i < length c.gates → gate_at c i ≡ g → get_or S (c.inputs + i) 0 ≡ share_at role c triples far i g S
    at_gate i g h f = shares_hold role c triples far shares one ok i h ∙ ap (λ (z : Gate). share_at role c triples far i z S) f

    -- what stands for shares stays so
    stands-input : (w : ℕ) → w < c.inputs → Stands w (known_as (get_or m.got.shares w 0))
    stands-input w h =
        let keep = shares_keep role c triples far shares one ok w h in
        let mine = ap (λ (l : List ℕ). get_or l w 0) (own k m e).own-shares in
        (ap known_as (mine ∙ sym keep), omega (arith, keep, mine, share-bits t w))

    stands-xor : (i a b x y : ℕ) → i < length c.gates → gate_at c i ≡ Xor a b → Stands a x → Stands b y
        → Stands (c.inputs + i) (known_as (bit_xor (share_of x) (share_of y)))
    unfolding share_at
    stands-xor i a b x y h g p q =
        let is : get_or S (c.inputs + i) 0 ≡ bit_xor (get_or S a 0) (get_or S b 0) = at_gate i (Xor a b) h g in (
          ap known_as (ap₂ bit_xor (stands-share a x p) (stands-share b y q) ∙ sym is),
          omega (arith, is, xor-bit p.1 q.1),
        )

    stands-not : (i a x : ℕ) → i < length c.gates → gate_at c i ≡ Not a → Stands a x → Stands (c.inputs + i) (known_as (flipped m.got.role (share_of x)))
    unfolding share_at
    stands-not i a x h g p =
        let is : get_or S (c.inputs + i) 0 ≡ flipped role (get_or S a 0) = at_gate i (Not a) h g in (
          ap known_as (ap₂ flipped (own k m e).own-role (stands-share a x p) ∙ sym is),
          omega (arith, is, flipped-bit role p.1),
        )

    stands-and : Staged Stands c k s.wires → (i a b : ℕ) → i < length c.gates → gate_at c i ≡ And a b → level_of c (c.inputs + i) ≡ k
        → Stands a (get_or (wires_after c m.got s.wires) a 0) → Stands b (get_or (wires_after c m.got s.wires) b 0)
        → Stands (c.inputs + i) (known_as (opened_share c m.got i (waiting_before c s.wires i) (wires_after c m.got s.wires)))
    unfolding share_at
    stands-and before i a b h g lev p q =
        let o = own k m e in
        let after : List ℕ = wires_after c m.got s.wires in
        let place : ℕ = waiting_before c s.wires i in
        let bits : far (ands_before c i) ≡ pair_at m.got.far (2 * place) =
        got i (ap is_and g) m (subst (λ (n : ℕ). IsRound (rounds_of calls) n m) (sym lev) e)
        ∙ ap (pair_at m.got.far) (sym (place_is k s.wires before i h lev)) in
        let is : get_or S (c.inputs + i) 0 ≡ share_with_far role c triples S i (far (ands_before c i)) = at_gate i (And a b) h g in (
          ap known_as (opened-round c i a b g role triples m.got place after S (far (ands_before c i)) o.own-role o.own-triples
              (share-at after a ∙ stands-share a _ p) (share-at after b ∙ stands-share b _ q) bits ∙ sym is),
          omega (
            arith,
            is,
            opened-bit c i a b g role triples S (far (ands_before c i)) triple-bit p.1 q.1
                (omega (arith, ap (λ (f : ℕ × ℕ). f.0) bits, far-bits t (2 * place)))
                (omega (arith, ap (λ (f : ℕ × ℕ). f.1) bits, far-bits t (2 * place + 1))),
          ),
        )

    closed : Staged Stands c k s.wires → Closed Stands c m.got s.wires k
    closed before = record { in_input = stands-input; in_xor = stands-xor; in_not = stands-not; in_and = stands-and before }

  pub stood : (k : ℕ) (m : RoundMade) → IsRound (rounds_of calls) k m → Staged Stands c (suc k) m.gave.state.wires
  stood = staged circuit c read calls on-circuit Stands stands-high closed

  -- the bits sent for an AND of the next level
  module _ (k : ℕ) (m : RoundMade) (e : IsRound (rounds_of calls) k m) where
    abbrev bytes : List ℕ
    bytes = m.gave.state.wires

    has : (w : ℕ) → IsWire c w → level_of c w ≤ k → Stands w (byte_of m.gave.state w)
    has w h lev = is_known_lem (stood k m e w h) (omega arith)

    sent : bits_by m.gave ≡ bits_to_send c triples bytes
    sent =
        let t = had_some round_laws fresh_state calls circuit read on-circuit k m e in
        ap bits_by (t.1 ∙ t.2.is) ∙ bits_are c m.got (wires_after c m.got t.0.wires)
        ∙ ap₂ (bits_to_send c) (own k m e).own-triples (sym (ap (λ (o : RoundOutcome). o.state.wires) t.1 ∙ took_bytes t.2))

    waits_here : (i : ℕ) → is_and (gate_at c i) ≡ true → level_at c i ≡ suc k → waits (get_or bytes (c.inputs + i) 0) ≡ true
    waits_here i a lev =
        waiting_is Stands stands-high c (suc k) bytes (stood k m e) (c.inputs + i) (omega (arith, and-inside c i a))
        ∙ ap₂ (λ (p q : Bool). p && q) (and_wire c i ∙ a) (eq-eqb _ _ lev)

    share_is : (w : ℕ) → IsWire c w → level_of c w ≤ k → get_or (shares_in bytes) w 0 ≡ get_or S w 0
    share_is w h lev = share-at bytes w ∙ stands-share w _ (has w h lev)

    sends : (i : ℕ) → is_and (gate_at c i) ≡ true → level_at c i ≡ suc k → pair_at (bits_by m.gave) (place_at c i) ≡ masked_bits role c triples far shares i
    unfolding masked_first masked_second
    sends i a lev =
        let h = and-inside c i a in
        let low = and_lower c ok i a in
        let wires = and_below (gate_at c i) (c.inputs + i) a (below_at c.gates c.inputs i ok h) in
        let place : 2 * waiting (take i (drop (c.inputs + 0) bytes)) ≡ place_at c i =
        ap (λ (n : ℕ). 2 * waiting (take i (drop n bytes))) (add-zero c.inputs) ∙ place_is (suc k) bytes (stood k m e) i h lev in
        let at = sent-at c triples bytes c.gates 0 i h
        (ap (λ (n : ℕ). waits (get_or bytes (c.inputs + n) 0)) (zero-add i) ∙ waits_here i a lev) in
        ap (λ (l : List ℕ). pair_at l (place_at c i)) sent
        ∙ ap (pair_at (bits_to_send c triples bytes)) (sym place)
        ∙ ap₂ (λ (x y : ℕ). (x, y))
        (at.0 ∙ ap (masked_first c triples (shares_in bytes)) (zero-add i)
        ∙ ap (λ (x : ℕ). bit_xor x (triple_first triples (ands_before c i)))
        (share_is (first_wire (gate_at c i)) (omega (arith, wires.0, h)) (omega (arith, low.0, lev))))
        (at.1 ∙ ap (masked_second c triples (shares_in bytes)) (zero-add i)
        ∙ ap (λ (x : ℕ). bit_xor x (triple_second triples (ands_before c i)))
        (share_is (second_wire (gate_at c i)) (omega (arith, wires.1, h)) (omega (arith, low.1, lev))))

  pub of_rounds : ByFar role c shares triples far (rounds_of calls)
  of_rounds = record { has = has; sends = sends }
