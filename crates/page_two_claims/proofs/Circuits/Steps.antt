-- The statements about runs in steps.
use Prim.Native.Nat.{ℕ, zero, suc, ◌+◌, ◌*◌, ◌≤◌, ◌<◌}
use mathlib.Core.Path.{◌≡◌, refl, sym, ap, ap₂, ◌∙◌, subst}
use mathlib.Core.List.{List, [], ◌∷◌, map}
use mathlib.Core.Logic.{◌≢◌}
use native.Mathlib.Nat.{add-zero}
use native.Mathlib.Omega.{arith}
use borrow.Author.Tests.{eqb-true}
use lib.Bits.{bit_and, bit_xor}
use lib.Dec.{eqb}
use lib.ListN.{length, get_or, length-map}
use Rattle.circuit.specs.Content as own
use Rattle.circuit.specs.Reading as reading
use Rattle.circuit.specs.Value as value
use Rattle.circuit_claims.specs.Evaluation as evaluation
use Rattle.circuit_claims.specs.Runs as runs
use Rattle.circuit_claims.specs.Progress as progress
use Rattle.circuit_claims.proofs.Accepts as accepts
use Rattle.circuit_claims.proofs.Evaluates as evaluates
use Rattle.circuit_claims.proofs.Progresses as progresses
use Rattle.circuit_run.specs.Step as run
use Rattle.circuit_run.specs.declared.StepState.{StepState}
use Rattle.number.specs.Reading.{Whole}
use Rattle.pads.specs.Triples.Matching as pads
use Rattle.page.specs.Document01 as page
use Rattle.page_claims.specs.Statements.{wrote, Gives}
use Rattle.page_two.specs.Document02 as page2
use Rattle.page_two.proofs.Circuits.Content.{circuit, ands_is, value_is}
use Rattle.page_two.proofs.Circuits.Step.{lent_step, librarys, step_state_of, step_left, step_is}
use Rattle.page_two_claims.specs.Statements.{Matching}
use Rattle.page_two_claims.specs.Statements as says
use Rattle.page_two_claims.proofs.Circuits.Made as translated
use Rattle.page_two_claims.proofs.Circuits.Made.{on_read, stays, combined_is, combined-long}

abbrev pub Call : Type 0
Call = page2.Lent × page2.StepState

abbrev pub gave : Call → run.StepOutcome
gave m = run.step (lent_step m.0) (librarys m.1)

pub number_is : (x : page2.Lent) (s : page2.StepState) → (page2.step x s).0.number ≡ (gave (x, s)).number
number_is x s = ap (λ (r : page.Return × page2.StepState). r.0.number) (step_is x s)

pub left_is : (x : page2.Lent) (s : page2.StepState) → librarys (page2.step x s).1 ≡ (gave (x, s)).state
left_is x s = ap (λ (r : page.Return × page2.StepState). librarys r.1) (step_is x s)

pub state_is : (x : page2.Lent) (s : page2.StepState) → (page2.step x s).1 ≡ step_state_of (gave (x, s)).state
state_is x s = ap (λ (r : page.Return × page2.StepState). r.1) (step_is x s)

pub wrote_is : (m : Call) → wrote ((page2.in_steps).call m).0 0 ≡ runs.written_by (gave m)
wrote_is m = ap (λ (r : page.Return × page2.StepState). wrote r.0 0) (step_is m.0 m.1)

pub sends_is : (m : Call) → (page2.in_steps).sends ((page2.in_steps).call m).0 ≡ (gave m).first_bit ∷ (gave m).second_bit ∷ []
sends_is m = ap (λ (r : page.Return × page2.StepState). get_or r.0.outputs 1 []) (step_is m.0 m.1)

fresh_is : librarys (page2.in_steps).fresh ≡ runs.fresh
unfolding runs.fresh
fresh_is = refl

abbrev pub made : Call → runs.StepMade
made = translated.made page2.in_steps lent_step librarys run.step (λ o. o.number) (λ o. o.state) number_is left_is

pub to_library : (l : List page2.Lent) (k : ℕ) (m : Call) → page2.IsCall page2.in_steps l k m → runs.IsStep (runs.steps_of (map lent_step l)) k (made m)
to_library l = translated.to_library page2.in_steps lent_step librarys run.step (λ o. o.number) (λ o. o.state) number_is left_is l fresh_is

pub of_library : (l : List page2.Lent) (k : ℕ) (m : runs.StepMade) → runs.IsStep (runs.steps_of (map lent_step l)) k m
    → (a : Call) × page2.IsCall page2.in_steps l k a × (made a ≡ m)
of_library l = translated.of_library page2.in_steps lent_step librarys run.step (λ o. o.number) (λ o. o.state) number_is left_is l fresh_is

-- finished on the page, finished in the library
pub ended : (m : Call) → page2.Finished page2.in_steps m → (gave m).state.phase ≡ 2
ended m f = eqb-true (gave m).state.phase 2 (ap (λ (s : page2.StepState). eqb s.phase 2) (sym (state_is m.0 m.1)) ∙ f.1)

unended : (m : Call) → (gave m).state.phase ≡ 1 → page2.Finished page2.in_steps m → ⊥
unended m e f = let g = ended m f in omega (arith, e, g)

accepted_is : (m : Call) → ((page2.in_steps).call m).0.number ≡ 0 → (gave m).number ≡ 0
accepted_is m e = sym (number_is m.0 m.1) ∙ e

pub unaltered : (role : ℕ) (source shares triples : List ℕ) (l : List page2.Lent) → page2.Unaltered page2.in_steps role source shares triples l
    → evaluation.Unaltered role source shares triples (runs.steps_of (map lent_step l))
unaltered role source shares triples l u k m e =
    let a = of_library l k m e in
    let o = u k a.0 a.1 in
    subst (λ (y : runs.StepMade). evaluation.Own role source shares triples y.got) a.2
    (record { own-role = o.0; own-circuit = o.1; own-shares = o.2; own-triples = o.3 })

pub on-circuit : (source : List ℕ) (l : List page2.Lent) → page2.OnCircuit page2.in_steps source l → progress.OnCircuit source (runs.steps_of (map lent_step l))
on-circuit source l u k m e =
    let a = of_library l k m e in
    subst (λ (y : runs.StepMade). y.got.circuit ≡ source) a.2 (u k a.0 a.1)

pub receives : (l far : List page2.Lent) → page2.Receives page2.in_steps l far
    → evaluation.Receives (runs.steps_of (map lent_step l)) (runs.steps_of (map lent_step far))
receives l far r k before m f eb waits em ef =
    let b = of_library l k before eb in
    let n = of_library l (suc k) m em in
    let g = of_library far k f ef in
    let got = r k b.0 n.0 g.0 b.1
    (unended b.0 (ap (λ (y : runs.StepMade). y.gave.state.phase) b.2 ∙ waits)) n.1 g.1
    ∙ sends_is g.0 in (
      ap (λ (y : runs.StepMade). y.got.far_first) (sym n.2) ∙ ap (λ (y : List ℕ). get_or y 0 0) got
          ∙ ap (λ (y : runs.StepMade). y.gave.first_bit) g.2,
      ap (λ (y : runs.StepMade). y.got.far_second) (sym n.2) ∙ ap (λ (y : List ℕ). get_or y 1 0) got
          ∙ ap (λ (y : runs.StepMade). y.gave.second_bit) g.2,
    )

pub match_is : (n : ℕ) (mine theirs : List ℕ) → ((j : ℕ) → j < n → Matching mine j theirs j) → pads.Matching n mine theirs
match_is n mine theirs m j h =
    let e = add-zero (j * 3) in
    m j h ∙ ap (λ (z : ℕ). bit_and (bit_xor (get_or mine z 0) (get_or theirs z 0)) (bit_xor (get_or mine (j * 3 + 1) 0) (get_or theirs (j * 3 + 1) 0))) e

-- a share for each input
size : (x : own.Circuit) (source : List ℕ) → reading.read_circuit source ≡ Whole x → (role : ℕ) (shares triples : List ℕ) (l : List page2.Lent)
    → page2.Unaltered page2.in_steps role source shares triples l → (k : ℕ) (m : Call) → page2.IsCall page2.in_steps l k m → page2.Finished page2.in_steps m
    → length shares ≡ x.inputs
size x source e role shares triples l u k m i f =
    let o = u k m i in
    ap length (sym o.2)
    ∙ (((accepts.acceptance).accepts x (lent_step m.0) (librarys m.1) (ap reading.read_circuit o.1 ∙ e)).1 (accepted_is m f.0)).all.0

-- the claim about one circuit
abbrev Evaluated : List ℕ → page2.Circuit → Type 0
Evaluated source c =
    (shares₁ triples₁ shares₂ triples₂ : List ℕ) (l₁ l₂ : List page2.Lent)
    → says.Ends page2.in_steps source c shares₁ triples₁ shares₂ triples₂ l₁ l₂
    → (k₁ k₂ : ℕ) (m₁ m₂ : Call) → page2.IsCall page2.in_steps l₁ k₁ m₁ → page2.IsCall page2.in_steps l₂ k₂ m₂
    → page2.Finished page2.in_steps m₁ → page2.Finished page2.in_steps m₂
    → page.xor (length c.outputs) (wrote ((page2.in_steps).call m₁).0 0) (wrote ((page2.in_steps).call m₂).0 0)
    ≡ page2.value_of c (page.xor c.inputs shares₁ shares₂)

evaluates-steps : (x : own.Circuit) (source : List ℕ) → reading.read_circuit source ≡ Whole x → Evaluated source (circuit x)
unfolding value.value_of
evaluates-steps x source e shares₁ triples₁ shares₂ triples₂ l₁ l₂ E k₁ k₂ m₁ m₂ i₁ i₂ f₁ f₂ =
    let law = evaluates.evaluation source x e (map lent_step l₁) (map lent_step l₂) shares₁ triples₁ shares₂ triples₂
    (record {
      role_1 = unaltered 1 source shares₁ triples₁ l₁ E.unaltered₁;
      role_2 = unaltered 2 source shares₂ triples₂ l₂ E.unaltered₂;
      to_1 = receives l₁ l₂ E.receives₁;
      to_2 = receives l₂ l₁ E.receives₂;
    })
    (match_is (own.ands_in x.gates) triples₁ triples₂
    (subst (λ (n : ℕ). (j : ℕ) → j < n → Matching triples₁ j triples₂ j) (ands_is x.gates) E.matching))
    k₁ k₂ (made m₁) (made m₂) (to_library l₁ k₁ m₁ i₁) (to_library l₂ k₂ m₂ i₂) (ended m₁ f₁) (ended m₂ f₂) in
    ap₂ (page.xor (length x.outputs)) (wrote_is m₁) (wrote_is m₂)
    ∙ sym (combined-long (runs.written_by (gave m₁)) (runs.written_by (gave m₂)) (length x.outputs) (ap length law ∙ length-map x.outputs _))
    ∙ law
    ∙ ap (value.value_of x)
    (combined_is shares₁ shares₂ x.inputs (size x source e 1 shares₁ triples₁ l₁ E.unaltered₁ k₁ m₁ i₁ f₁)
    (size x source e 2 shares₂ triples₂ l₂ E.unaltered₂ k₂ m₂ i₂ f₂))
    ∙ sym (value_is x (page.xor x.inputs shares₁ shares₂))

-- a call on the state that a call left
after_is : (x y : page2.Lent) (s : page2.StepState) → gave (y, (page2.step x s).1) ≡ run.step (lent_step y) (gave (x, s)).state
after_is x y s = ap (run.step (lent_step y)) (left_is x s)

again-steps : (x y : page2.Lent) (s : page2.StepState) → page2.Finished page2.in_steps (x, s) → y.circuit ≡ x.circuit
    → (page2.step y (page2.step x s).1).0.number ≡ 0
    → page2.Finished page2.in_steps (y, (page2.step x s).1) × ((page2.step y (page2.step x s).1).1 ≡ (page2.step x s).1)
    × (wrote (page2.step y (page2.step x s).1).0 0 ≡ wrote (page2.step x s).0 0)
again-steps x y s f e n =
    let t = (page2.step x s).1 in
    let law = (progresses.progress).again (lent_step x) (lent_step y) (librarys s) e (accepted_is (x, s) f.0) (ended (x, s) f)
    (ap (λ (o : run.StepOutcome). o.number) (sym (after_is x y s)) ∙ accepted_is (y, t) n) in
    let same : (page2.step y t).1 ≡ t =
    state_is y t ∙ ap (λ (o : run.StepOutcome). step_state_of o.state) (after_is x y s) ∙ ap step_state_of law.0 ∙ sym (state_is x s) in (
      (n, ap (λ (z : page2.StepState). eqb z.phase 2) same ∙ f.1),
      same,
      wrote_is (y, t) ∙ ap runs.written_by (after_is x y s) ∙ law.1 ∙ sym (wrote_is (x, s)),
    )

two-bits : (a b i : ℕ) → a ≤ 1 → b ≤ 1 → get_or (a ∷ b ∷ []) i 0 ≤ 1
two-bits a b zero h g = h
two-bits a b (suc zero) h g = g
two-bits a b (suc (suc i)) h g = omega arith

refused-step : (x : page2.Lent) (s : page2.StepState) → (page2.step x s).0.number ≢ 0 → (page2.step x s).1 ≡ s
unfolding page2.step
refused-step x s = stays x (0 ∷ 0 ∷ []) s (page2.read_circuit x.circuit 0) _

pub steps-run : says.Runs page2.in_steps
steps-run =
    record {
      goes_on =
          λ x y s e o room bits many far.
          number_is y (page2.step x s).1 ∙ ap (λ (r : run.StepOutcome). r.number) (after_is x y s)
          ∙ (accepts.acceptance).goes_on (lent_step x) (lent_step y) (librarys s) (accepted_is (x, s) e) o.1 o.0 o.2 o.3 room (far 0) (far 1);
      refused = refused-step;
      again = again-steps;
      bits =
          λ l k m i j.
          let b = (progresses.progress).bits (map lent_step l) k (made m) (to_library l k m i) in (
            subst (λ (z : List ℕ). get_or z j 0 ≤ 1) (sym (sends_is m)) (two-bits (gave m).first_bit (gave m).second_bit j b.first_bit b.second-bit),
            subst (λ (z : List ℕ). get_or z j 0 ≤ 1) (sym (wrote_is m)) (b.outputs j),
          );
      evaluates =
          λ source c shares₁ triples₁ shares₂ triples₂ l₁ l₂ E.
          on_read (Evaluated source) source (λ x e. evaluates-steps x source e) c E.reads shares₁ triples₁ shares₂ triples₂ l₁ l₂ E;
    }

-- ---- what is said of steps alone

pub advances : (x : page2.Lent) (s : page2.StepState) → s.phase ≡ 1 → (page2.step x s).0.number ≡ 0 → s.gate < (page2.step x s).1.gate
advances x s e n =
    subst (λ (z : page2.StepState). s.gate < z.gate) (sym (state_is x s)) ((progresses.progress).advances (lent_step x) (librarys s) e (accepted_is (x, s) n))

abbrev Finishes : List ℕ → page2.Circuit → Type 0
Finishes source c =
    (l : List page2.Lent) → page2.OnCircuit page2.in_steps source l → (k : ℕ) (m : Call) → page2.IsCall page2.in_steps l k m
    → (k < page2.ands c.gates → ((page2.in_steps).call m).1.phase ≡ 1) × (page2.ands c.gates ≤ k → ((page2.in_steps).call m).1.phase ≡ 2)

pub finishes : (source : List ℕ) (c : page2.Circuit) → Gives (page2.read_circuit source 0) c → Finishes source c
finishes source =
    on_read (Finishes source) source λ x e l u k m i.
    let law = (progresses.progress).finishes source x e (map lent_step l) (on-circuit source l u) k (made m) (to_library l k m i) in
    let n = ands_is x.gates in
    let phase : (p : ℕ) → (gave m).state.phase ≡ p → ((page2.in_steps).call m).1.phase ≡ p =
    λ p f. ap (λ (z : page2.StepState). z.phase) (state_is m.0 m.1) ∙ f in
    ((λ h. phase 1 (law.0 (omega (arith, n)))), (λ h. phase 2 (law.1 (omega (arith, n)))))

pub far_unread : (x y : page2.Lent) (s : page2.StepState) → s.phase ≢ 1 → page2.IsOwn x.role x.circuit x.shares x.triples y
    → y.output ≡ x.output → ((page2.step y s).0.number ≡ (page2.step x s).0.number) × ((page2.step y s).0.lengths ≡ (page2.step x s).0.lengths)
    × ((page2.step y s).0.outputs ≡ (page2.step x s).0.outputs) × ((page2.step y s).1 ≡ (page2.step x s).1)
far_unread x y s p o out =
    let law = (progresses.progress).far (lent_step x) (librarys s) p (get_or y.far 0 0) (get_or y.far 1 0) in
    let lent : lent_step y ≡ progress.with_far (get_or y.far 0 0) (get_or y.far 1 0) (lent_step x) =
    λ k. run.lent_with (o.0 k) (o.1 k) (o.2 k) (o.3 k) (out k) (get_or y.far 0 0) (get_or y.far 1 0) in
    let same = ap (λ (l : run.StepLent). run.step l (librarys s)) lent ∙ law in
    let e = step_is y s ∙ ap (step_left y) same in
    let f = step_is x s in (
      ap (λ (r : page.Return × page2.StepState). r.0.number) (e ∙ refl) ∙ sym (ap (λ (r : page.Return × page2.StepState). r.0.number) f),
      ap (λ (r : page.Return × page2.StepState). r.0.lengths) e ∙ sym (ap (λ (r : page.Return × page2.StepState). r.0.lengths) f),
      ap (λ (r : page.Return × page2.StepState). r.0.outputs) e ∙ sym (ap (λ (r : page.Return × page2.StepState). r.0.outputs) f),
      ap (λ (r : page.Return × page2.StepState). r.1) e ∙ sym (ap (λ (r : page.Return × page2.StepState). r.1) f),
    )

pub wires : (l : List page2.Lent) (k : ℕ) (m : Call) → page2.IsCall page2.in_steps l k m → (w : ℕ) → get_or ((page2.in_steps).call m).1.wires w 0 ≤ 1
wires l k m i w =
    subst (λ (z : page2.StepState). get_or z.wires w 0 ≤ 1) (sym (state_is m.0 m.1))
    (((progresses.progress).bits (map lent_step l) k (made m) (to_library l k m i)).wires w)

-- the accepted steps of both
pub all_made : (l : List page2.Lent) → map made (page2.accepted_from page2.in_steps (page2.in_steps).fresh l) ≡ runs.steps_of (map lent_step l)
all_made l = translated.same-calls page2.in_steps lent_step librarys run.step (λ o. o.number) (λ o. o.state) number_is left_is l fresh_is
