-- The page's step is the library's.
use Prim.Native.Nat.{ℕ, zero, suc, ◌+◌, ◌*◌, ◌-◌}
use mathlib.Core.Path.{◌≡◌, refl, sym, ap, ◌∙◌}
use mathlib.Core.Bool.{Bool, true, false, not, ◌&&◌, ◌||◌, false≢true}
use mathlib.Core.List.{List, [], ◌∷◌, ◌++◌, map}
use native.Mathlib.Nat.{suc-ne-zero}
use lib.Bits.{bit_xor}
use lib.Dec.{eqb, leb}
use lib.ListN.{length, take, drop, get_or, set, replicate, length-map}
use Rattle.algebra.specs.Choice.{choose}
use Rattle.algebra.proofs.Tests.{and_right}
use Rattle.answer.specs.Outcome.{answered}
use Rattle.answer.specs.Tests.{is_met}
use Rattle.answer.proofs.Faults.{all_met}
use Rattle.circuit.specs.Content as own
use Rattle.circuit.proofs.Ands.{head_at, tail_at}
use Rattle.circuit_run.specs.Step as run
use Rattle.circuit_run.specs.declared.StepState.{StepState}
use Rattle.circuit_run.specs.declared.Stepped.{Stepped}
use Rattle.number.specs.Reading.{Reading, after_reading}
use Rattle.page.specs.Document01 as page
use Rattle.page.proofs.Calls.{none, more}
use Rattle.page.proofs.Pads.{none_over}
use Rattle.page_two.specs.Document02 as page2
use Rattle.page_two.proofs.Circuits.Content.{gate, circuit, is-and, ands_is, gate-at, take-gates, drop-gates}
use Rattle.page_two.proofs.Circuits.Reading.{Agrees, whole, no, reads}
use Rattle.page_two.proofs.Circuits.Runs.{wrote, ran_is, triples_from, triples-next, masked_is, share_is, not_is}

abbrev pub step_state_of : StepState → page2.StepState
step_state_of s = page2.step_state s.phase s.gate s.wires

abbrev pub librarys : page2.StepState → StepState
librarys s = run.step_state_with s.phase s.gate s.wires

abbrev pub lent_step : page2.Lent → run.StepLent
lent_step x = run.lent_with x.role x.circuit x.shares x.triples x.output (get_or x.far 0 0) (get_or x.far 1 0)

-- ---- on through the gates

module _ (x : own.Circuit) (triples : List ℕ) where
  abbrev T : ℕ → List ℕ
  T i = triples_from x triples i

  -- the state that is left, and the bits to send where the run waits
  abbrev sent_at : StepState → List ℕ
  sent_at s =
      page.when◌then◌else◌ (eqb s.phase 1)
      (run.masked_first x triples s.wires s.gate ∷ run.masked_second x triples s.wires s.gate ∷ []) []

  abbrev leaves : StepState → page2.StepState × List ℕ
  leaves s = (step_state_of s, sent_at s)

  on_is : (role : ℕ) (gs : List own.Gate) (i : ℕ) (wires : List ℕ) → drop i x.gates ≡ gs
      → page2.run_on role x.inputs (map gate gs) i wires (T i) [] ≡ leaves (run.run_on role x.inputs gs i wires)
  unfolding gate page2.run_on run.run_on page.when◌then◌else◌
  on_is role [] i wires e = refl
  on_is role (own.Xor a b ∷ gs) i wires e =
      let w = set wires (x.inputs + i) (bit_xor (get_or wires a 0) (get_or wires b 0)) in
      ap (λ (t : List ℕ). page2.run_on role x.inputs (map gate gs) (i + 1) w t []) (triples-next x triples i e)
      ∙ on_is role gs (i + 1) w (tail_at x.gates i e)
  on_is role (own.And a b ∷ gs) i wires e =
      ap (λ (m : List ℕ). (page2.step_state 1 i wires, m)) (masked_is x triples i wires (head_at x.gates i e (own.Not 0)))
  on_is role (own.Not a ∷ gs) i wires e =
      let w = set wires (x.inputs + i) (run.flipped role (get_or wires a 0)) in
      (λ k. page2.run_on role x.inputs (map gate gs) (i + 1) (set wires (x.inputs + i) (not_is role (get_or wires a 0) k))
      (triples-next x triples i e k) [])
      ∙ on_is role gs (i + 1) w (tail_at x.gates i e)

nothing_at : (gs : List own.Gate) (i : ℕ) → drop i gs ≡ [] → get_or gs i (own.Not 0) ≡ own.Not 0
nothing_at [] i e = refl
nothing_at (g ∷ gs) zero e = absurd (suc-ne-zero (length gs) (ap length e))
nothing_at (g ∷ gs) (suc i) e = nothing_at gs i e

module _ (x : own.Circuit) (l : page2.Lent) where
  abbrev left : StepState → page2.StepState × List ℕ
  left s = leaves x l.triples s

  fresh_is : length l.shares ≡ x.inputs
      → page2.run_on l.role x.inputs (map gate x.gates) 0 (l.shares ++ replicate (4096 - x.inputs) 0) l.triples []
      ≡ left (run.advance l.role x 0 (run.fresh_wires l.shares))
  unfolding run.fresh_wires own.ands_in
  fresh_is size =
      ap (λ (n : ℕ). page2.run_on l.role x.inputs (map gate x.gates) 0 (l.shares ++ replicate (4096 - n) 0) l.triples []) (sym size)
      ∙ on_is x l.triples l.role x.gates 0 (run.fresh_wires l.shares) refl

  abbrev far : List ℕ
  far = get_or l.far 0 0 ∷ get_or l.far 1 0 ∷ []

  -- the AND that the run waits at is the first of the gates left
  waited-from : (s : page2.StepState) (gs : List own.Gate) → own.is_and (run.gate_at x s.gate) ≡ true → drop s.gate x.gates ≡ gs
      → page2.run_on l.role x.inputs (map gate gs) s.gate s.wires (triples_from x l.triples s.gate) far
      ≡ left (run.advance l.role x (s.gate + 1) (run.with_and x (lent_step l) (librarys s)))
  unfolding gate page2.run_on run.with_and run.waiting_share page.when◌then◌else◌
  waited-from s [] and e =
      absurd (false≢true (sym (ap own.is_and (nothing_at x.gates s.gate e)) ∙ and))
  waited-from s (own.Xor a b ∷ gs) and e = absurd (false≢true (sym (ap own.is_and (head_at x.gates s.gate e (own.Not 0))) ∙ and))
  waited-from s (own.Not a ∷ gs) and e = absurd (false≢true (sym (ap own.is_and (head_at x.gates s.gate e (own.Not 0))) ∙ and))
  waited-from s (own.And a b ∷ gs) and e =
      let i = s.gate in
      (λ k. page2.run_on l.role x.inputs (map gate gs) (i + 1)
      (set s.wires (x.inputs + i)
      (share_is x l.triples i s.wires (head_at x.gates i e (own.Not 0)) l.role (get_or l.far 0 0) (get_or l.far 1 0) k))
      (triples-next x l.triples i e k) [])
      ∙ on_is x l.triples l.role gs (i + 1) (run.with_and x (lent_step l) (librarys s)) (tail_at x.gates i e)
      ∙ ap (λ (y : List own.Gate). left (run.run_on l.role x.inputs y (i + 1) (run.with_and x (lent_step l) (librarys s))))
      (sym (tail_at x.gates i e))

  waited_is : (s : page2.StepState) → own.is_and (run.gate_at x s.gate) ≡ true
      → page2.run_on l.role x.inputs (drop s.gate (map gate x.gates)) s.gate s.wires
      (drop (3 * page2.ands (take s.gate (map gate x.gates))) l.triples) far
      ≡ left (run.advance l.role x (s.gate + 1) (run.with_and x (lent_step l) (librarys s)))
  waited_is s and =
      let i = s.gate in
      (λ k. page2.run_on l.role x.inputs (drop-gates x.gates i k) i s.wires
      (drop (3 * (ap page2.ands (take-gates x.gates i) ∙ ands_is (take i x.gates)) k) l.triples) far)
      ∙ waited-from s (drop i x.gates) and refl

  stepped_is : (s : page2.StepState) → length l.shares ≡ x.inputs → run.state_admitted x s.phase s.gate ≡ true
      → page2.stepped (circuit x) l s ≡ left (run.state_after x (lent_step l) (librarys s))
  unfolding page2.stepped run.state_after page.when◌then◌else◌
  stepped_is s size ok =
      go (eqb s.phase 0) (eqb s.phase 1) refl refl (fresh_is size) (λ waits. waited_is s (and waits))
    where
      and : eqb s.phase 1 ≡ true → own.is_and (run.gate_at x s.gate) ≡ true
      and waits =
          ap (λ (t : Bool). not t || own.is_and (run.gate_at x s.gate)) (sym waits)
          ∙ and_right (leb s.phase 2) (not (eqb s.phase 1) || own.is_and (run.gate_at x s.gate)) ok

      go : (t u : Bool) → eqb s.phase 0 ≡ t → eqb s.phase 1 ≡ u → {a b : page2.StepState × List ℕ} {a' b' : StepState}
          → a ≡ left a' → (u ≡ true → b ≡ left b')
          → page.when◌then◌else◌ t a (page.when◌then◌else◌ u b (s, [])) ≡ left (choose t a' (choose u b' (librarys s)))
      go true u d e f g = f
      go false true d e f g = g refl
      go false false d e f g =
          ap (λ (w : Bool). (
            s,
            page.when◌then◌else◌ w
                (run.masked_first x l.triples s.wires s.gate ∷ run.masked_second x l.triples s.wires s.gate ∷ []) [],
          )) (sym e)

-- ---- the call

abbrev zeros : List ℕ
zeros = 0 ∷ 0 ∷ []

abbrev one_length : page.Return × page2.StepState → page.Return × page2.StepState
one_length r = (page.returned r.0.number (take 1 r.0.lengths) r.0.inputs r.0.outputs, r.1)

abbrev pub step_left : page2.Lent → run.StepOutcome → page.Return × page2.StepState
step_left x o =
    let l = o.lent in (
      page.returned o.number (o.written ∷ []) (l.circuit ∷ l.shares ∷ l.triples ∷ x.far ∷ [])
          (l.output ∷ (o.first_bit ∷ o.second_bit ∷ []) ∷ []),
      step_state_of o.state,
    )

module _ (x : own.Circuit) (l : page2.Lent) where
  abbrev shares : List ℕ → List ℕ
  shares wires = map (λ (w : ℕ). get_or wires w 0) x.outputs

  wrote_is : (s : StepState)
      → one_length (wrote l zeros (eqb (length (sent_at x l.triples s)) 0) (sent_at x l.triples s) (shares s.wires), step_state_of s)
      ≡ step_left l (run.accepted_step x (lent_step l) s)
  unfolding run.accepted_step run.with_outputs page.when◌then◌else◌
  wrote_is s = go (eqb s.phase 1)
    where
      one : ℕ
      one = run.masked_first x l.triples s.wires s.gate

      two : ℕ
      two = run.masked_second x l.triples s.wires s.gate

      go : (t : Bool)
          → one_length (
            wrote l zeros (eqb (length (page.when◌then◌else◌ t (one ∷ two ∷ []) [])) 0) (page.when◌then◌else◌ t (one ∷ two ∷ []) [])
                (shares s.wires),
            step_state_of s,
          )
          ≡ step_left l (choose t (run.step_outcome 0 0 one two s (lent_step l))
          (run.step_outcome 0 (length x.outputs) 0 0 s (run.with_outputs x (lent_step l) s)))
      go true = refl
      go false =
          let long = length-map x.outputs (λ (w : ℕ). get_or s.wires w 0) in
          λ k. (page.returned 0 (long k ∷ []) (page2.read_only l) ((shares s.wires ++ drop (long k) l.output) ∷ zeros ∷ []), step_state_of s)

module _ (l : page2.Lent) (s : page2.StepState) where
  abbrev refusal : ℕ → run.StepOutcome
  refusal n = run.refused_step (lent_step l) (librarys s) n

  abbrev leaves_at : page2.Circuit → page.Return → page.Return × page2.StepState
  leaves_at c r = one_length (r, page.when◌then◌else◌ (eqb r.number 0) (page2.stepped c l s).0 s)

  abbrev said : page2.Circuit → page2.StepState × List ℕ → page.Return
  said c after = page2.ran l zeros after.1 (map (λ (w : ℕ). get_or after.0.wires w 0) c.outputs) (page2.step_tests c l s)

  on-circuit : (x : own.Circuit) → leaves_at (circuit x) (said (circuit x) (page2.stepped (circuit x) l s))
      ≡ step_left l (answered (run.step_tests x (lent_step l) (librarys s)) refusal (run.accepted_step x (lent_step l) (run.state_after x (lent_step l) (librarys s))))
  unfolding is_met
  on-circuit x =
      let ands = ands_is x.gates in
      let and_at = ap page2.is_and (gate-at x.gates s.gate) ∙ is-and (run.gate_at x s.gate) in
      ran_is one_length (step_left l) l zeros s (page2.stepped (circuit x) l s).0 refusal _ (λ n. refl) (page2.stepped (circuit x) l s).1
      (map (λ (w : ℕ). get_or (page2.stepped (circuit x) l s).0.wires w 0) x.outputs)
      (more _ _ _ refl (more _ _ _ refl (more _ _ _ refl
      (more _ _ _ (none_over 1 l.shares) (more _ _ _ (none_over 1 l.triples) (more _ _ _ refl
      (more _ _ _ (ap (λ (k : ℕ). leb (3 * k) (length l.triples)) ands)
      (more _ _ _ (ap (λ (t : Bool). leb s.phase 2 && (not (eqb s.phase 1) || t)) and_at) (more _ _ _ refl none)))))))))
      (λ met.
      let m = all_met (run.step_tests x (lent_step l) (librarys s)) refl met in
      let say : page2.StepState × List ℕ → page.Return × page2.StepState =
      λ after. one_length (wrote l zeros (eqb (length after.1) 0) after.1 (map (λ (w : ℕ). get_or after.0.wires w 0) x.outputs), after.0) in
      ap say (stepped_is x l s m.all.0 m.all.1.1.1.1.1.1.1.0)
      ∙ wrote_is x l (run.state_after x (lent_step l) (librarys s)))

pub step_is : (l : page2.Lent) (s : page2.StepState) → page2.step l s ≡ step_left l (run.step (lent_step l) (librarys s))
unfolding page2.step run.step page2.on_circuit after_reading
step_is l s = go _ _ (reads l.circuit)
  where
    go : (r : page.Read page2.Circuit) (r' : Reading own.Circuit) → Agrees r r'
        → one_length (page2.on_circuit l zeros s r (λ c. (said l s c (page2.stepped c l s), (page2.stepped c l s).0)))
        ≡ step_left l (after_reading r' (refusal l s)
        (λ c. answered (run.step_tests c (lent_step l) (librarys s)) (refusal l s)
        (run.accepted_step c (lent_step l) (run.state_after c (lent_step l) (librarys s)))))
    go r r' (whole x next) = on-circuit l s x
    go r r' (no k) = refl

pub circuit-stepped : (r : Stepped) (role : ℕ) (circuit shares triples output circuit' shares' triples' output' : List ℕ) (far₁ far₂ : ℕ) (state : StepState)
    → run.stepped r (run.lent_with role circuit' shares' triples' output' far₁ far₂) ≡ run.step (run.lent_with role circuit shares triples output far₁ far₂) state
    → (
      page.returned r.number (r.written ∷ []) (circuit' ∷ shares' ∷ triples' ∷ (far₁ ∷ far₂ ∷ []) ∷ [])
          (output' ∷ (r.first_bit ∷ r.second_bit ∷ []) ∷ []),
      page2.step_state r.state.phase r.state.gate r.state.wires,
    )
    ≡ page2.step
    (record { role = role; circuit = circuit; shares = shares; triples = triples; far = far₁ ∷ far₂ ∷ []; output = output; bits = [] })
    (page2.step_state state.phase state.gate state.wires)
circuit-stepped r role circuit shares triples output circuit' shares' triples' output' far₁ far₂ state e =
    let x : page2.Lent = record { role = role; circuit = circuit; shares = shares; triples = triples; far = far₁ ∷ far₂ ∷ []; output = output; bits = [] } in
    ap (step_left x) e ∙ sym (step_is x (step_state_of state))
