-- The page's round is the library's.
use Prim.Native.Nat.{ℕ, zero, suc, ◌+◌, ◌-◌, ◌*◌, ◌<◌}
use mathlib.Core.Path.{◌≡◌, refl, sym, ap, ap₂, ◌∙◌}
use mathlib.Core.Bool.{Bool, true, false, ◌&&◌, true≢false}
use mathlib.Core.List.{List, [], ◌∷◌, ◌++◌, map}
use native.Mathlib.Nat.{add-zero}
use native.Mathlib.Omega.{arith}
use borrow.Author.Tests.{eq-eqb, ne_eqb, lt-leb, le-leb}
use lib.Bits.{bit_xor}
use lib.Dec.{eqb, leb}
use lib.ListN.{length, take, drop, get_or, length-append, length-map, length-drop, get_or-append}
use Rattle.algebra.specs.Choice.{choose}
use Rattle.answer.specs.Outcome.{answered}
use Rattle.answer.specs.Tests.{is_met}
use Rattle.answer.proofs.Faults.{all_met}
use Rattle.circuit.specs.Content as own
use Rattle.circuit.specs.Value as value
use Rattle.circuit.proofs.Ands.{head_at, tail_at}
use Rattle.circuit.proofs.Folds.{fold_length, fold_holds}
use Rattle.circuit_claims.proofs.Counts.{sent-length}
use Rattle.circuit_run.specs.Step as step
use Rattle.circuit_run.specs.Round as run
use Rattle.circuit_run.specs.declared.RoundState.{RoundState}
use Rattle.circuit_run.specs.declared.Rounded.{Rounded}
use Rattle.circuit_run.proofs.Inputs.{inputs-length}
use Rattle.circuit_run.proofs.RoundGates.{share-at}
use Rattle.number.proofs.Places.{either, split}
use Rattle.number.specs.Reading.{Reading, after_reading}
use Rattle.page.specs.Document01 as page
use Rattle.page.proofs.Calls.{none, more}
use Rattle.page.proofs.Pads.{none_over}
use Rattle.tree.specs.Tree.{listed}
use Rattle.tree.proofs.Listed.{listed-front}
use Rattle.page_two.specs.Document02 as page2
use Rattle.page_two.proofs.Circuits.Content.{gate, circuit, length-gates, ands_is}
use Rattle.page_two.proofs.Circuits.Reading.{Agrees, whole, no, reads}
use Rattle.page_two.proofs.Circuits.Runs.{wrote, ran_is, at_drop, drop_more, triples_from, triples-next, masked_is, share_is, not_is}

-- ---- bytes

-- one more may wait
waiting-next : (l : List ℕ) (i : ℕ) → run.waiting (take (suc i) l) ≡ run.waiting (take i l) + choose (run.waits (get_or l i 0)) 1 0
unfolding run.waiting
waiting-next [] zero = omega arith
waiting-next [] (suc i) = omega arith
waiting-next (b ∷ l) zero = omega arith
waiting-next (b ∷ l) (suc i) = omega (arith, waiting-next l i)

module _ (x : own.Circuit) (state : List ℕ) where
  waiting_more : (i : ℕ)
      → run.waiting_before x state (i + 1) ≡ run.waiting_before x state i + choose (run.waits (get_or state (x.inputs + i) 0)) 1 0
  waiting_more i =
      let one : i + 1 ≡ suc i = omega arith in
      ap (run.waiting_before x state) one ∙ waiting-next (drop x.inputs state) i
      ∙ ap (λ (b : ℕ). run.waiting_before x state i + choose (run.waits b) 1 0) (at_drop x.inputs i (x.inputs + i) state refl)

  count_is : (n : ℕ) → page.count_of n (λ i. page2.waits (get_or state (x.inputs + i) 0)) ≡ run.waiting_before x state n
  unfolding page.count_of run.waiting page.when◌then◌else◌
  count_is zero = refl
  count_is (suc n) =
      ap (λ (k : ℕ). k + choose (run.waits (get_or state (x.inputs + n) 0)) 1 0) (count_is n) ∙ sym (waiting_more n)
      ∙ ap (run.waiting_before x state) {x = n + 1} {y = suc n} (omega arith)

inputs_are : (shares state : List ℕ)
    → page.list (length shares) (λ i. page.when◌then◌else◌ (page2.known (get_or state i 0)) (get_or state i 0) (2 + get_or shares i 0))
    ≡ run.input_bytes shares state
unfolding page.list listed run.input_bytes page.when◌then◌else◌
inputs_are [] state = refl
inputs_are (a ∷ shares) [] = listed-front (length shares) _ ∙ ap (λ (l : List ℕ). (2 + a) ∷ l) (inputs_are shares [])
inputs_are (a ∷ shares) (b ∷ state) =
    listed-front (length shares) _ ∙ ap (λ (l : List ℕ). choose (run.is_known b) b (2 + a) ∷ l) (inputs_are shares state)

module _ (x : own.Circuit) (l : run.RoundLent) where
  abbrev T : ℕ → List ℕ
  T i = triples_from x l.triples i

  shared : (bytes : List ℕ) (w : ℕ) → page2.share_in bytes w ≡ get_or (run.shares_in bytes) w 0
  shared bytes w = sym (share-at bytes w)

  computed_is : (i p : ℕ) (waited : Bool) (g : own.Gate) → step.gate_at x i ≡ g → (bytes : List ℕ)
      → page2.gate_byte l.role (gate g) waited bytes (T i) (drop (2 * p) l.far) ≡ run.computed x l i p waited g bytes
  unfolding gate page2.gate_byte run.computed run.ready run.opened_share page.when◌then◌else◌
  computed_is i p waited (own.Xor a b) e bytes =
      ap₂ (λ (u v : ℕ). choose (run.is_known (get_or bytes a 0) && run.is_known (get_or bytes b 0)) (2 + bit_xor u v) 0) (shared bytes a) (shared bytes b)
  computed_is i p waited (own.And a b) e bytes =
      ap (λ (n : ℕ). choose waited (2 + n) (choose (run.is_known (get_or bytes a 0) && run.is_known (get_or bytes b 0)) 1 0))
      ((λ k. page2.and_share l.role (T i) (shared bytes a k) (shared bytes b k)
      (at_drop (2 * p) 0 (2 * p) l.far (omega arith) k) (at_drop (2 * p) 1 (2 * p + 1) l.far refl k))
      ∙ share_is x l.triples i (run.shares_in bytes) e l.role (get_or l.far (2 * p) 0) (get_or l.far (2 * p + 1) 0))
  computed_is i p waited (own.Not a) e bytes =
      ap (λ (n : ℕ). choose (run.is_known (get_or bytes a 0)) (2 + n) 0)
      (ap (page2.not_share l.role) (shared bytes a) ∙ not_is l.role (get_or (run.shares_in bytes) a 0))

  module _ (state : List ℕ) where
    abbrev F : ℕ → List ℕ
    F i = drop (2 * run.waiting_before x state i) l.far

    far-next : (i : ℕ) (b : ℕ) → get_or state (x.inputs + i) 0 ≡ b
        → page.when◌then◌else◌ (page2.waits b) (drop 2 (F i)) (F i) ≡ F (i + 1)
    unfolding page.when◌then◌else◌
    far-next i b e = go (run.waits b) (waiting_more x state i ∙ ap (λ (y : ℕ). run.waiting_before x state i + choose (run.waits y) 1 0) e)
      where
        go : (t : Bool) → run.waiting_before x state (i + 1) ≡ run.waiting_before x state i + choose t 1 0
            → choose t (drop 2 (F i)) (F i) ≡ F (i + 1)
        go true n = drop_more (2 * run.waiting_before x state i) 2 (2 * run.waiting_before x state (i + 1)) l.far (omega (arith, n))
        go false n =
            let m : 2 * run.waiting_before x state i ≡ 2 * run.waiting_before x state (i + 1) = omega (arith, n) in
            ap (λ (k : ℕ). drop k l.far) m

    byte_is : (i : ℕ) (g : own.Gate) → step.gate_at x i ≡ g → (bytes : List ℕ) → length bytes ≡ x.inputs + i
        → let b = get_or (drop (x.inputs + i) state) 0 0 in
        page.when◌then◌else◌ (page2.known b) b (page2.gate_byte l.role (gate g) (page2.waits b) bytes (T i) (F i)) ≡ run.gate_byte x l state g bytes
    unfolding run.gate_byte page.when◌then◌else◌
    byte_is i g e bytes n =
        let b = at_drop (x.inputs + i) 0 (length bytes) state (omega (arith, n)) in
        let was = get_or state (length bytes) 0 in
        let at : length bytes - x.inputs ≡ i = omega (arith, n) in
        (λ k. choose (run.is_known (b k)) (b k) (page2.gate_byte l.role (gate g) (run.waits (b k)) bytes (T i) (F i)))
        ∙ ap (λ (y : ℕ). choose (run.is_known was) was y) (computed_is i (run.waiting_before x state i) (run.waits was) g e bytes)
        ∙ ap (λ (j : ℕ). choose (run.is_known was) was (run.computed x l j (run.waiting_before x state j) (run.waits was) g bytes)) (sym at)

    on_is : (gs : List own.Gate) (i : ℕ) (bytes : List ℕ) → drop i x.gates ≡ gs → length bytes ≡ x.inputs + i
        → page2.round_on l.role (map gate gs) bytes (drop (x.inputs + i) state) (T i) (F i)
        ≡ value.over_gates (run.gate_byte x l state) gs bytes ++ drop (x.inputs + i + length gs) state
    unfolding page2.round_on value.over_gates
    on_is [] i bytes e n = ap (λ (k : ℕ). bytes ++ drop k state) (sym (add-zero (x.inputs + i)))
    on_is (g ∷ gs) i bytes e n =
        let made = run.gate_byte x l state g bytes in
        let m : length (bytes ++ (made ∷ [])) ≡ x.inputs + (i + 1) = omega (arith, n, length-append bytes (made ∷ [])) in
        let end : x.inputs + (i + 1) + length gs ≡ x.inputs + i + suc (length gs) = omega arith in
        let b = at_drop (x.inputs + i) 0 (x.inputs + i) state (omega arith) in
        (λ k. page2.round_on l.role (map gate gs) (bytes ++ (byte_is i g (head_at x.gates i e (own.Not 0)) bytes n k ∷ []))
        (drop_more (x.inputs + i) 1 (x.inputs + (i + 1)) state (omega arith) k) (triples-next x l.triples i e k)
        (far-next i (get_or (drop (x.inputs + i) state) 0 0) (sym b) k))
        ∙ on_is gs (i + 1) (bytes ++ (made ∷ [])) (tail_at x.gates i e) m
        ∙ ap (λ (k : ℕ). value.over_gates (run.gate_byte x l state) gs (bytes ++ (made ∷ [])) ++ drop k state) end

    -- ---- after the round

    abbrev after : List ℕ
    after = run.wires_after x l state

    abbrev taken : ℕ → ℕ
    taken i = page.when◌then◌else◌ (page2.known (get_or state i 0)) (get_or state i 0) (2 + get_or l.shares i 0)

    made_no_wait : (g : own.Gate) → own.is_and g ≡ false → (j p : ℕ) (w : Bool) (bytes : List ℕ) → run.waits (run.computed x l j p w g bytes) ≡ false
    unfolding run.computed
    made_no_wait g e j p w bytes = go g e
      where
        chosen : (t : Bool) (v : ℕ) → run.waits (choose t (2 + v) 0) ≡ false
        chosen true v = ne_eqb (2 + v) 1 (λ z. omega arith)
        chosen false v = refl

        go : (g : own.Gate) → own.is_and g ≡ false → run.waits (run.computed x l j p w g bytes) ≡ false
        go (own.Xor a b) e = chosen (run.ready (own.Xor a b) bytes) _
        go (own.And a b) e = absurd (true≢false e)
        go (own.Not a) e = chosen (run.ready (own.Not a) bytes) _

    gate_no_wait : (g : own.Gate) → own.is_and g ≡ false → (bytes : List ℕ) → run.waits (run.gate_byte x l state g bytes) ≡ false
    unfolding run.gate_byte
    gate_no_wait g e bytes =
        let b = get_or state (length bytes) 0 in
        split b 2
        (λ h. rw (lt-leb 2 b h) (made_no_wait g e _ _ _ bytes))
        (λ h. rw (le-leb 2 b h) (ne_eqb b 1 (λ z. omega arith)))

    module _ (size : length l.shares ≡ x.inputs) where
      pub after_is : page2.round_on l.role (map gate x.gates) (page.list x.inputs taken) (drop x.inputs state) l.triples l.far
          ≡ run.wires_after x l state
      unfolding run.wires_after own.ands_in run.waiting
      after_is =
          let bytes = run.input_bytes l.shares state in
          let first : page.list x.inputs taken ≡ bytes = ap (λ (n : ℕ). page.list n taken) (sym size) ∙ inputs_are l.shares state in
          (λ k. page2.round_on l.role (map gate x.gates) (first k) (drop (sym (add-zero x.inputs) k) state) l.triples l.far)
          ∙ on_is x.gates 0 bytes refl (omega (arith, inputs-length l.shares state, size))
          ∙ ap (λ (n : ℕ). value.over_gates (run.gate_byte x l state) x.gates bytes ++ drop (n + length x.gates) state) (add-zero x.inputs)

      -- only an AND waits
      only_ands : (i : ℕ) → i < length x.gates → own.is_and (step.gate_at x i) ≡ false → run.waits (get_or after (x.inputs + i) 0) ≡ false
      unfolding run.wires_after
      only_ands i h e =
          let bytes = run.input_bytes l.shares state in
          let all = value.over_gates (run.gate_byte x l state) x.gates bytes in
          let n : x.inputs + i ≡ length bytes + i = omega (arith, inputs-length l.shares state, size) in
          ap (λ (b : ℕ). run.waits b)
          (get_or-append all (drop (x.inputs + length x.gates) state) 0 (x.inputs + i)
          (omega (arith, fold_length (run.gate_byte x l state) x.gates bytes, inputs-length l.shares state, size))
          ∙ ap (λ (k : ℕ). get_or all k 0) n
          ∙ fold_holds (run.gate_byte x l state) x.gates bytes i h)
          ∙ gate_no_wait (step.gate_at x i) e _

      opened_is : (gs : List own.Gate) (i : ℕ) → drop i x.gates ≡ gs
          → page2.opened_bits (map gate gs) after (drop (x.inputs + i) after) (T i) ≡ run.opened_bits x l.triples after i gs
      unfolding page2.opened_bits run.opened_bits gate page.when◌then◌else◌
      opened_is [] i e = refl
      opened_is (g ∷ gs) i e =
          let next = drop_more (x.inputs + i) 1 (x.inputs + (i + 1)) after (omega arith) in
          let T' = triples-next x l.triples i e in
          let at = head_at x.gates i e (own.Not 0) in
          let more : i < length x.gates = omega (arith, length-drop i x.gates, ap length e) in
          go g at next T' (opened_is gs (i + 1) (tail_at x.gates i e)) (λ f. only_ands i more (ap own.is_and at ∙ f))
        where
          rest : List ℕ
          rest = run.opened_bits x l.triples after (i + 1) gs

          bits : List ℕ
          bits = step.masked_first x l.triples (run.shares_in after) i ∷ step.masked_second x l.triples (run.shares_in after) i ∷ []

          silent : (t : Bool) → t ≡ false → rest ≡ choose t bits [] ++ rest
          silent true f = absurd (true≢false f)
          silent false f = refl

          go : (g : own.Gate) → step.gate_at x i ≡ g → drop 1 (drop (x.inputs + i) after) ≡ drop (x.inputs + (i + 1)) after
              → page.when◌then◌else◌ (page2.is_and (gate g)) (drop 3 (T i)) (T i) ≡ T (i + 1)
              → page2.opened_bits (map gate gs) after (drop (x.inputs + (i + 1)) after) (T (i + 1)) ≡ run.opened_bits x l.triples after (i + 1) gs
              → (own.is_and g ≡ false → run.waits (get_or after (x.inputs + i) 0) ≡ false)
              → page2.opened_bits (gate g ∷ map gate gs) after (drop (x.inputs + i) after) (T i)
              ≡ choose (run.waits (get_or after (x.inputs + i) 0)) bits [] ++ run.opened_bits x l.triples after (i + 1) gs
          go (own.Xor a b) at next T' later only =
              (λ k. page2.opened_bits (map gate gs) after (next k) (T' k)) ∙ later ∙ silent _ (only refl)
          go (own.Not a) at next T' later only =
              (λ k. page2.opened_bits (map gate gs) after (next k) (T' k)) ∙ later ∙ silent _ (only refl)
          go (own.And a b) at next T' later only =
              (λ k. choose (run.waits (at_drop (x.inputs + i) 0 (x.inputs + i) after (omega arith) k))
              (page2.masked (T i) (shared after a k) (shared after b k)) []
              ++ page2.opened_bits (map gate gs) after (next k) (T' k))
              ∙ ap₂ (λ (m r : List ℕ). choose (run.waits (get_or after (x.inputs + i) 0)) m [] ++ r)
              (masked_is x l.triples i (run.shares_in after) at) later

      pub sent_is : page2.opened_bits (map gate x.gates) after (drop x.inputs after) l.triples ≡ run.bits_to_send x l.triples after
      unfolding own.ands_in
      sent_is =
          ap (λ (n : ℕ). page2.opened_bits (map gate x.gates) after (drop n after) l.triples) (sym (add-zero x.inputs))
          ∙ opened_is x.gates 0 refl

-- ---- the call

abbrev pub lent_round : page2.Lent → run.RoundLent
lent_round x = run.round_with x.role x.circuit x.shares x.triples x.output x.far x.bits

abbrev pub round_left : run.RoundOutcome → page.Return × List ℕ
round_left o =
    let l = o.lent in (
      page.returned o.number (o.written ∷ o.bits_written ∷ []) (l.circuit ∷ l.shares ∷ l.triples ∷ l.far ∷ []) (l.output ∷ l.bits ∷ []),
      o.state.wires,
    )

-- none are sent exactly if none waits
none-sent : (x : own.Circuit) (triples bytes : List ℕ) → eqb (length (run.bits_to_send x triples bytes)) 0 ≡ eqb (run.waiting_in x bytes) 0
none-sent x triples bytes =
    ap (λ (k : ℕ). eqb k 0)
    (sent-length x triples bytes x.gates 0 ∙ ap (λ (k : ℕ). 2 * run.waiting (take (length x.gates) (drop k bytes))) (add-zero x.inputs))
    ∙ go (run.waiting_in x bytes)
  where
    go : (w : ℕ) → eqb (2 * w) 0 ≡ eqb w 0
    go w =
        either w 0 (λ e. ap (λ (k : ℕ). eqb (2 * k) 0) e ∙ sym (eq-eqb w 0 e))
        (λ n. ne_eqb (2 * w) 0 (λ e. n (omega arith)) ∙ sym (ne_eqb w 0 n))

module _ (x : own.Circuit) (l : page2.Lent) where
  abbrev shares : List ℕ → List ℕ
  shares bytes = map (page2.share_in bytes) x.outputs

  outputs_are : (bytes : List ℕ) → shares bytes ≡ value.at_wires (run.shares_in bytes) x.outputs
  outputs_are bytes = go x.outputs
    where
      go : (ws : List ℕ) → map (page2.share_in bytes) ws ≡ value.at_wires (run.shares_in bytes) ws
      go [] = refl
      go (w ∷ ws) = ap₂ (λ (a : ℕ) (r : List ℕ). a ∷ r) (sym (share-at bytes w)) (go ws)

  -- what the library says of an accepted round that leaves these bytes and sends these bits
  abbrev gave : Bool → List ℕ → List ℕ → page.Return × List ℕ
  gave finished sent bytes =
      round_left (choose finished
      (run.round_outcome 0 (length x.outputs) 0 (run.state_with bytes) (run.with_outputs x (lent_round l) bytes))
      (run.round_outcome 0 0 (length sent) (run.state_with bytes)
      (run.round_with l.role l.circuit l.shares l.triples l.output l.far (page.front sent l.bits))))

  wrote_is : (bytes : List ℕ)
      → (wrote l l.bits (eqb (length (run.bits_to_send x l.triples bytes)) 0) (run.bits_to_send x l.triples bytes) (shares bytes), bytes)
      ≡ round_left (run.accepted_round x (lent_round l) bytes)
  unfolding run.accepted_round run.with_outputs run.with_bits page.when◌then◌else◌
  wrote_is bytes =
      let sent = run.bits_to_send x l.triples bytes in
      go sent ∙ ap (λ (t : Bool). gave t sent bytes) (none-sent x l.triples bytes)
    where
      go : (sent : List ℕ) → (wrote l l.bits (eqb (length sent) 0) sent (shares bytes), bytes) ≡ gave (eqb (length sent) 0) sent bytes
      go [] =
          let written = outputs_are bytes in
          let long = length-map x.outputs (page2.share_in bytes) in
          λ k. (page.returned 0 (long k ∷ 0 ∷ []) (page2.read_only l) ((written k ++ drop (long k) l.output) ∷ l.bits ∷ []), bytes)
      go (b ∷ r) =
          let some = ne_eqb (suc (length r)) 0 (λ z. omega arith) in
          ap (λ (t : Bool). (wrote l l.bits t (b ∷ r) (shares bytes), bytes)) some ∙ sym (ap (λ (t : Bool). gave t (b ∷ r) bytes) some)

module _ (l : page2.Lent) (state : List ℕ) where
  abbrev refusal : ℕ → run.RoundOutcome
  refusal n = run.refused_round (lent_round l) (run.state_with state) n

  -- the bytes after the round, and what it sends
  abbrev from : page2.Circuit → List ℕ
  from c =
      page2.round_on l.role c.gates
      (page.list c.inputs (λ i. page.when◌then◌else◌ (page2.known (get_or state i 0)) (get_or state i 0) (2 + get_or l.shares i 0)))
      (drop c.inputs state) l.triples l.far

  abbrev sends : page2.Circuit → List ℕ → List ℕ
  sends c bytes = page2.opened_bits c.gates bytes (drop c.inputs bytes) l.triples

  abbrev leaves : page2.Circuit → page.Return → page.Return × List ℕ
  leaves c r = (r, page.when◌then◌else◌ (eqb r.number 0) (from c) state)

  on-circuit : (x : own.Circuit)
      → leaves (circuit x) (page2.ran l l.bits (sends (circuit x) (from (circuit x))) (map (page2.share_in (from (circuit x))) x.outputs)
      (page2.round_tests (circuit x) l state))
      ≡ round_left (answered (run.round_tests x (lent_round l) state) refusal (run.accepted_round x (lent_round l) (run.wires_after x (lent_round l) state)))
  unfolding is_met
  on-circuit x =
      let ands = ands_is x.gates in
      let waits : page.count_of (length (map gate x.gates)) (λ i. page2.waits (get_or state (x.inputs + i) 0)) ≡ run.waiting_in x state =
      ap (λ (n : ℕ). page.count_of n (λ i. page2.waits (get_or state (x.inputs + i) 0))) (length-gates x.gates) ∙ count_is x state (length x.gates) in
      ran_is (λ r. r) round_left l l.bits state (from (circuit x)) refusal _ (λ n. refl) (sends (circuit x) (from (circuit x)))
      (map (page2.share_in (from (circuit x))) x.outputs)
      (more _ _ _ refl (more _ _ _ refl (more _ _ _ (ap (λ (k : ℕ). eqb (length l.far) (2 * k)) waits)
      (more _ _ _ refl (more _ _ _ (ap (λ (k : ℕ). leb (2 * k) (length l.bits)) ands)
      (more _ _ _ (none_over 1 l.shares) (more _ _ _ (none_over 1 l.triples) (more _ _ _ (none_over 1 l.far)
      (more _ _ _ (ap (λ (k : ℕ). leb (3 * k) (length l.triples)) ands) (more _ _ _ refl none))))))))))
      (λ met.
      let size : length l.shares ≡ x.inputs = (all_met (run.round_tests x (lent_round l) state) refl met).all.0 in
      let say : List ℕ → List ℕ → page.Return × List ℕ =
      λ sent bytes. (wrote l l.bits (eqb (length sent) 0) sent (map (page2.share_in bytes) x.outputs), bytes) in
      ap (λ (bytes : List ℕ). say (sends (circuit x) bytes) bytes) (after_is x (lent_round l) state size)
      ∙ ap (λ (sent : List ℕ). say sent (run.wires_after x (lent_round l) state)) (sent_is x (lent_round l) state size)
      ∙ wrote_is x l (run.wires_after x (lent_round l) state))

pub round_is : (l : page2.Lent) (state : List ℕ) → page2.round l state ≡ round_left (run.round (lent_round l) (run.state_with state))
unfolding page2.round run.round page2.on_circuit after_reading
round_is l state = go _ _ (reads l.circuit)
  where
    go : (r : page.Read page2.Circuit) (r' : Reading own.Circuit) → Agrees r r'
        → page2.on_circuit l l.bits state r (λ c. (
          page2.ran l l.bits (sends l state c (from l state c)) (map (page2.share_in (from l state c)) c.outputs)
              (page2.round_tests c l state),
          from l state c,
        ))
        ≡ round_left (after_reading r' (refusal l state)
        (λ c. answered (run.round_tests c (lent_round l) state) (refusal l state)
        (run.accepted_round c (lent_round l) (run.wires_after c (lent_round l) state))))
    go r r' (whole x next) = on-circuit l state x
    go r r' (no k) = refl

pub circuit-rounded : (r : Rounded) (role : ℕ) (circuit shares triples output far bits : List ℕ)
    (circuit' shares' triples' output' far' bits' : List ℕ) (state : RoundState)
    → run.rounded r (run.round_with role circuit' shares' triples' output' far' bits')
    ≡ run.round (run.round_with role circuit shares triples output far bits) state
    → (page.returned r.number (r.written ∷ r.bits_written ∷ []) (circuit' ∷ shares' ∷ triples' ∷ far' ∷ []) (output' ∷ bits' ∷ []), r.state.wires)
    ≡ page2.round
    (record { role = role; circuit = circuit; shares = shares; triples = triples; far = far; output = output; bits = bits }) state.wires
circuit-rounded r role circuit shares triples output far bits circuit' shares' triples' output' far' bits' state e =
    ap round_left e
    ∙ sym (round_is
    (record { role = role; circuit = circuit; shares = shares; triples = triples; far = far; output = output; bits = bits }) state.wires)
