-- The statements about runs in rounds.
use Prim.Native.Nat.{ℕ, zero, suc, ◌+◌, ◌-◌, ◌*◌, ◌≤◌, ◌<◌}
use mathlib.Core.Path.{◌≡◌, refl, sym, ap, ap₂, ◌∙◌, subst}
use mathlib.Core.Bool.{Bool, true}
use mathlib.Core.List.{List, [], ◌∷◌, map}
use mathlib.Core.Logic.{◌↔◌, ◌≢◌}
use native.Mathlib.Omega.{arith}
use borrow.Author.Tests.{eqb-true, eq-eqb, le-leb, lt-leb}
use lib.Dec.{eqb, leb}
use lib.ListN.{length, take, get_or, length-map}
use Rattle.algebra.specs.Choice.{choose}
use Rattle.circuit.specs.Content as own
use Rattle.circuit.specs.Levels as levels
use Rattle.circuit.specs.Reading as reading
use Rattle.circuit.specs.Value as value
use Rattle.circuit_claims.specs.RoundEvaluation as evaluation
use Rattle.circuit_claims.specs.RoundRuns as runs
use Rattle.circuit_claims.specs.RoundProgress as progress
use Rattle.circuit_claims.proofs.Calls.{call_before}
use Rattle.circuit_claims.proofs.CircuitCalls.{next-call, had}
use Rattle.circuit_claims.proofs.RoundAccepts as accepts
use Rattle.circuit_claims.proofs.RoundChains.{round_laws}
use Rattle.circuit_claims.proofs.Stages.{and_wire}
use Rattle.circuit_claims.proofs.RoundEvaluates as evaluates
use Rattle.circuit_claims.proofs.RoundProgresses as progresses
use Rattle.circuit_run.specs.Round as run
use Rattle.circuit_run.specs.declared.RoundState.{RoundState}
use Rattle.number.specs.Reading.{Whole}
use Rattle.number.proofs.Places.{either, split}
use Rattle.page.specs.Document01 as page
use Rattle.page_claims.specs.Statements.{wrote}
use Rattle.page_two.specs.Document02 as page2
use Rattle.page_two.proofs.Circuits.Content.{circuit, ands_is, value_is, rounds_is, length-gates}
use Rattle.page_two.proofs.Circuits.Round.{lent_round, round_is}
use Rattle.page_two_claims.specs.Statements.{Matching}
use Rattle.page_two_claims.specs.Statements as says
use Rattle.page_two_claims.proofs.Circuits.Levels.{and_is, level_is, all_at_is}
use Rattle.page_two_claims.proofs.Circuits.Made as translated
use Rattle.page_two_claims.proofs.Circuits.Made.{is_accepted, on_read, stays, combined_is, combined-long}
use Rattle.page_two_claims.proofs.Circuits.Steps.{match_is}

abbrev pub Call : Type 0
Call = page2.Lent × List ℕ

abbrev pub gave : Call → run.RoundOutcome
gave m = run.round (lent_round m.0) (run.state_with m.1)

pub number_is : (x : page2.Lent) (s : List ℕ) → (page2.round x s).0.number ≡ (gave (x, s)).number
number_is x s = ap (λ (r : page.Return × List ℕ). r.0.number) (round_is x s)

pub left_is : (x : page2.Lent) (s : List ℕ) → run.state_with (page2.round x s).1 ≡ (gave (x, s)).state
left_is x s = ap (λ (r : page.Return × List ℕ). run.state_with r.1) (round_is x s)

pub state_is : (x : page2.Lent) (s : List ℕ) → (page2.round x s).1 ≡ (gave (x, s)).state.wires
state_is x s = ap (λ (r : page.Return × List ℕ). r.1) (round_is x s)

pub lengths_are : (m : Call) → ((page2.in_rounds).call m).0.lengths ≡ (gave m).written ∷ (gave m).bits_written ∷ []
lengths_are m = ap (λ (r : page.Return × List ℕ). r.0.lengths) (round_is m.0 m.1)

pub wrote_is : (m : Call) → wrote ((page2.in_rounds).call m).0 0 ≡ runs.outputs_by (gave m)
wrote_is m = ap (λ (r : page.Return × List ℕ). wrote r.0 0) (round_is m.0 m.1)

pub sends_is : (m : Call) → wrote ((page2.in_rounds).call m).0 1 ≡ runs.bits_by (gave m)
sends_is m = ap (λ (r : page.Return × List ℕ). wrote r.0 1) (round_is m.0 m.1)

fresh_is : run.state_with (page2.in_rounds).fresh ≡ runs.fresh_state
unfolding runs.fresh_state
fresh_is = refl

abbrev pub made : Call → runs.RoundMade
made = translated.made page2.in_rounds lent_round run.state_with run.round (λ o. o.number) (λ o. o.state) number_is left_is

pub to_library : (l : List page2.Lent) (k : ℕ) (m : Call) → page2.IsCall page2.in_rounds l k m → runs.IsRound (runs.rounds_of (map lent_round l)) k (made m)
to_library l = translated.to_library page2.in_rounds lent_round run.state_with run.round (λ o. o.number) (λ o. o.state) number_is left_is l fresh_is

pub of_library : (l : List page2.Lent) (k : ℕ) (m : runs.RoundMade) → runs.IsRound (runs.rounds_of (map lent_round l)) k m
    → (a : Call) × page2.IsCall page2.in_rounds l k a × (made a ≡ m)
of_library l = translated.of_library page2.in_rounds lent_round run.state_with run.round (λ o. o.number) (λ o. o.state) number_is left_is l fresh_is

accepted_is : (m : Call) → ((page2.in_rounds).call m).0.number ≡ 0 → (gave m).number ≡ 0
accepted_is m e = sym (number_is m.0 m.1) ∙ e

-- finished on the page, finished in the library, and back
pub ended : (m : Call) → page2.Finished page2.in_rounds m → runs.Finished (gave m)
ended m f = (accepted_is m f.0, eqb-true (gave m).bits_written 0 (ap (λ (l : List ℕ). eqb (get_or l 1 0) 0) (sym (lengths_are m)) ∙ f.1))

pub ends : (m : Call) → runs.Finished (gave m) → page2.Finished page2.in_rounds m
ends m f = (number_is m.0 m.1 ∙ f.0, ap (λ (l : List ℕ). eqb (get_or l 1 0) 0) (lengths_are m) ∙ eq-eqb (gave m).bits_written 0 f.1)

pub unaltered : (role : ℕ) (source shares triples : List ℕ) (l : List page2.Lent) → page2.Unaltered page2.in_rounds role source shares triples l
    → evaluation.UnalteredRounds role source shares triples (runs.rounds_of (map lent_round l))
unaltered role source shares triples l u k m e =
    let a = of_library l k m e in
    let o = u k a.0 a.1 in
    subst (λ (y : runs.RoundMade). evaluation.OwnRound role source shares triples y.got) a.2
    (record { own-role = o.0; own-circuit = o.1; own-shares = o.2; own-triples = o.3 })

pub on-circuit : (source : List ℕ) (l : List page2.Lent) → page2.OnCircuit page2.in_rounds source l → progress.RoundsOn source (runs.rounds_of (map lent_round l))
on-circuit source l u k m e =
    let a = of_library l k m e in
    subst (λ (y : runs.RoundMade). y.got.circuit ≡ source) a.2 (u k a.0 a.1)

-- a call on the state that a call left
after_is : (x y : page2.Lent) (s : List ℕ) → gave (y, (page2.round x s).1) ≡ run.round (lent_round y) (gave (x, s)).state
after_is x y s = ap (run.round (lent_round y)) (left_is x s)

-- ---- far bits: after a finished round none come, and none were sent

empty : (l : List ℕ) → length l ≡ 0 → l ≡ []
empty [] e = refl
empty (x ∷ l) e = absurd (omega arith)

pub receives : (x : own.Circuit) (source : List ℕ) → reading.read_circuit source ≡ Whole x → (l far : List page2.Lent)
    → page2.OnCircuit page2.in_rounds source l → page2.OnCircuit page2.in_rounds source far → page2.Receives page2.in_rounds l far
    → evaluation.ReceivesRounds (runs.rounds_of (map lent_round l)) (runs.rounds_of (map lent_round far))
receives x source e l far on-l on-far r k m f em ef =
    let l' = map lent_round l in
    let far' = map lent_round far in
    let b = call_before k (runs.rounds_of l') em in
    let p = of_library l k b.0 b.1 in
    let n = of_library l (suc k) m em in
    let g = of_library far k f ef in
    let bits : (gave p.0).bits_written ≡ b.0.gave.bits_written = ap (λ (y : runs.RoundMade). y.gave.bits_written) p.2 in
    either b.0.gave.bits_written 0
    (λ none.
    let on = next-call round_laws runs.fresh_state l' k b.1 em in
    let law = (progresses.progress).moves x (lent_round p.0.0) (run.state_with p.0.1) (ap reading.read_circuit (on-l k p.0 p.1) ∙ e)
    (accepted_is p.0 (is_accepted page2.in_rounds (page2.in_rounds).fresh l k p.1)) in
    let long = law.next m.got (ap reading.read_circuit (on-circuit source l on-l (suc k) m em) ∙ e)
    (ap (λ (y : runs.RoundMade). (run.round m.got y.gave.state).number) p.2 ∙ on.1) in
    let also = ((progresses.progress).in_advance source x e l' far' (on-circuit source l on-l) (on-circuit source far on-far) k b.0 f b.1 ef).0 in
    empty m.got.far (long ∙ bits ∙ none) ∙ ap (λ (n : ℕ). take n f.gave.lent.bits) (sym none ∙ also))
    (λ some.
    ap (λ (y : runs.RoundMade). y.got.far) (sym n.2)
    ∙ r k p.0 n.0 g.0 p.1 (λ done. some (sym bits ∙ (ended p.0 done).1)) n.1 g.1
    ∙ sends_is g.0 ∙ ap (λ (y : runs.RoundMade). runs.bits_by y.gave) g.2)

-- ---- both ends

-- a share for each input
size : (x : own.Circuit) (source : List ℕ) → reading.read_circuit source ≡ Whole x → (role : ℕ) (shares triples : List ℕ) (l : List page2.Lent)
    → page2.Unaltered page2.in_rounds role source shares triples l → (k : ℕ) (m : Call) → page2.IsCall page2.in_rounds l k m → page2.Finished page2.in_rounds m
    → length shares ≡ x.inputs
size x source e role shares triples l u k m i f =
    let o = u k m i in
    ap length (sym o.2)
    ∙ (((accepts.acceptance).accepts x (lent_round m.0) (run.state_with m.1) (ap reading.read_circuit o.1 ∙ e)).1 (accepted_is m f.0)).all.0

-- the claim about one circuit
abbrev Evaluated : List ℕ → page2.Circuit → Type 0
Evaluated source c =
    (shares₁ triples₁ shares₂ triples₂ : List ℕ) (l₁ l₂ : List page2.Lent)
    → says.Ends page2.in_rounds source c shares₁ triples₁ shares₂ triples₂ l₁ l₂
    → (k₁ k₂ : ℕ) (m₁ m₂ : Call) → page2.IsCall page2.in_rounds l₁ k₁ m₁ → page2.IsCall page2.in_rounds l₂ k₂ m₂
    → page2.Finished page2.in_rounds m₁ → page2.Finished page2.in_rounds m₂
    → page.xor (length c.outputs) (wrote ((page2.in_rounds).call m₁).0 0) (wrote ((page2.in_rounds).call m₂).0 0)
    ≡ page2.value_of c (page.xor c.inputs shares₁ shares₂)

evaluates-rounds : (x : own.Circuit) (source : List ℕ) → reading.read_circuit source ≡ Whole x → Evaluated source (circuit x)
unfolding value.value_of
evaluates-rounds x source e shares₁ triples₁ shares₂ triples₂ l₁ l₂ E k₁ k₂ m₁ m₂ i₁ i₂ f₁ f₂ =
    let on₁ : page2.OnCircuit page2.in_rounds source l₁ = λ k m i. (E.unaltered₁ k m i).1 in
    let on₂ : page2.OnCircuit page2.in_rounds source l₂ = λ k m i. (E.unaltered₂ k m i).1 in
    let law = evaluates.evaluation source x e (map lent_round l₁) (map lent_round l₂) shares₁ triples₁ shares₂ triples₂
    (record {
      role_1 = unaltered 1 source shares₁ triples₁ l₁ E.unaltered₁;
      role_2 = unaltered 2 source shares₂ triples₂ l₂ E.unaltered₂;
      to_1 = receives x source e l₁ l₂ on₁ on₂ E.receives₁;
      to_2 = receives x source e l₂ l₁ on₂ on₁ E.receives₂;
    })
    (match_is (own.ands_in x.gates) triples₁ triples₂
    (subst (λ (n : ℕ). (j : ℕ) → j < n → Matching triples₁ j triples₂ j) (ands_is x.gates) E.matching))
    k₁ k₂ (made m₁) (made m₂) (to_library l₁ k₁ m₁ i₁) (to_library l₂ k₂ m₂ i₂) (ended m₁ f₁) (ended m₂ f₂) in
    ap₂ (page.xor (length x.outputs)) (wrote_is m₁) (wrote_is m₂)
    ∙ sym (combined-long (runs.outputs_by (gave m₁)) (runs.outputs_by (gave m₂)) (length x.outputs) (ap length law ∙ length-map x.outputs _))
    ∙ law
    ∙ ap (value.value_of x)
    (combined_is shares₁ shares₂ x.inputs (size x source e 1 shares₁ triples₁ l₁ E.unaltered₁ k₁ m₁ i₁ f₁)
    (size x source e 2 shares₂ triples₂ l₂ E.unaltered₂ k₂ m₂ i₂ f₂))
    ∙ sym (value_is x (page.xor x.inputs shares₁ shares₂))

again-rounds : (x y : page2.Lent) (s : List ℕ) → page2.Finished page2.in_rounds (x, s) → y.circuit ≡ x.circuit
    → (page2.round y (page2.round x s).1).0.number ≡ 0
    → page2.Finished page2.in_rounds (y, (page2.round x s).1) × ((page2.round y (page2.round x s).1).1 ≡ (page2.round x s).1)
    × (wrote (page2.round y (page2.round x s).1).0 0 ≡ wrote (page2.round x s).0 0)
again-rounds x y s f e n =
    let t = (page2.round x s).1 in
    let law = (progresses.progress).again (lent_round x) (lent_round y) (run.state_with s) e (accepted_is (x, s) f.0) (ended (x, s) f)
    (ap (λ (o : run.RoundOutcome). o.number) (sym (after_is x y s)) ∙ accepted_is (y, t) n) in (
      ends (y, t) (subst runs.Finished (sym (after_is x y s)) law.1),
      state_is y t ∙ ap (λ (o : run.RoundOutcome). o.state.wires) (after_is x y s) ∙ ap (λ (z : RoundState). z.wires) law.0 ∙ sym (state_is x s),
      wrote_is (y, t) ∙ ap runs.outputs_by (after_is x y s) ∙ law.2 ∙ sym (wrote_is (x, s)),
    )

-- ---- an accepted round, on any state

-- which circuit it read
had_circuit : (m : Call) → ((page2.in_rounds).call m).0.number ≡ 0 → (x : own.Circuit) × (reading.read_circuit m.0.circuit ≡ Whole x)
had_circuit m n = let h = had round_laws (lent_round m.0) (run.state_with m.1) (accepted_is m n) in (h.0, h.1.read)

moved : (m : Call) (x : own.Circuit) → reading.read_circuit m.0.circuit ≡ Whole x → ((page2.in_rounds).call m).0.number ≡ 0
    → progress.Moves x (run.state_with m.1) (gave m)
moved m x e n = (progresses.progress).moves x (lent_round m.0) (run.state_with m.1) e (accepted_is m n)

bits-rounds : (l : List page2.Lent) (k : ℕ) (m : Call) → page2.IsCall page2.in_rounds l k m
    → (i : ℕ) → (get_or (wrote ((page2.in_rounds).call m).0 1) i 0 ≤ 1) × (get_or (wrote ((page2.in_rounds).call m).0 0) i 0 ≤ 1)
bits-rounds l k m e i =
    let n = is_accepted page2.in_rounds (page2.in_rounds).fresh l k e in
    let c = had_circuit m n in
    let w = (moved m c.0 c.1 n).writes in (
      subst (λ (z : List ℕ). get_or z i 0 ≤ 1) (sym (sends_is m)) (w.bits i),
      subst (λ (z : List ℕ). get_or z i 0 ≤ 1) (sym (wrote_is m)) (w.outputs i),
    )

refused-round : (x : page2.Lent) (s : List ℕ) → (page2.round x s).0.number ≢ 0 → (page2.round x s).1 ≡ s
unfolding page2.round
refused-round x s = stays x x.bits s (page2.read_circuit x.circuit 0) _

pub rounds-run : says.Runs page2.in_rounds
rounds-run =
    record {
      goes_on =
          λ x y s e o room bits many far.
          number_is y (page2.round x s).1 ∙ ap (λ (r : run.RoundOutcome). r.number) (after_is x y s)
          ∙ (accepts.acceptance).goes_on (lent_round x) (lent_round y) (run.state_with s) (accepted_is (x, s) e) o.1 o.0 o.2 o.3 room bits
          (many ∙ ap length (sends_is (x, s))
          ∙ (let c = had_circuit (x, s) e in (moved (x, s) c.0 c.1 e).writes.bits-length)) far;
      refused = refused-round;
      again = again-rounds;
      bits = bits-rounds;
      evaluates =
          λ source c shares₁ triples₁ shares₂ triples₂ l₁ l₂ E.
          on_read (Evaluated source) source (λ x e. evaluates-rounds x source e) c E.reads shares₁ triples₁ shares₂ triples₂ l₁ l₂ E;
    }

-- ---- what is said of rounds alone

keeps : (x : page2.Lent) (s : List ℕ) → (page2.round x s).0.number ≡ 0 → (w : ℕ) → page2.known (get_or s w 0) ≡ true
    → get_or (page2.round x s).1 w 0 ≡ get_or s w 0
keeps x s n w e =
    let c = had_circuit (x, s) n in
    ap (λ (z : List ℕ). get_or z w 0) (state_is x s) ∙ (moved (x, s) c.0 c.1 n).keeps w e

-- what the library says of the state after a call, the page says
to_state : (m : Call) (P : List ℕ → Type 0) → P (gave m).state.wires → P ((page2.in_rounds).call m).1
to_state m P = subst P (sym (state_is m.0 m.1))

of_state : (m : Call) (P : List ℕ → Type 0) → P ((page2.in_rounds).call m).1 → P (gave m).state.wires
of_state m P = subst P (state_is m.0 m.1)

written_is : (m : Call) → get_or ((page2.in_rounds).call m).0.lengths 0 0 ≡ (gave m).written
written_is m = ap (λ (l : List ℕ). get_or l 0 0) (lengths_are m)

sent_is : (m : Call) → get_or ((page2.in_rounds).call m).0.lengths 1 0 ≡ (gave m).bits_written
sent_is m = ap (λ (l : List ℕ). get_or l 1 0) (lengths_are m)

abbrev MovesOn : page2.Lent → List ℕ → page2.Circuit → Type 0
MovesOn x s c =
    (page2.round x s).0.number ≡ 0
    → ((i : ℕ) → page2.is_and (page2.gate_at c i) ≡ true → page2.waits (get_or s (c.inputs + i) 0) ≡ true
    → page2.known (get_or (page2.round x s).1 (c.inputs + i) 0) ≡ true)
    × (page2.Finished page2.in_rounds (x, s) ↔ ((w : ℕ) → w < c.inputs + length c.gates → page2.known (get_or (page2.round x s).1 w 0) ≡ true))
    × ((y : page2.Lent) → y.circuit ≡ x.circuit → (page2.round y (page2.round x s).1).0.number ≡ 0
    → length y.far ≡ get_or (page2.round x s).0.lengths 1 0)
    × ((page2.Finished page2.in_rounds (x, s) → get_or (page2.round x s).0.lengths 0 0 ≡ length c.outputs)
    × ((page2.Finished page2.in_rounds (x, s) → ⊥) → get_or (page2.round x s).0.lengths 0 0 ≡ 0))
    × ((i : ℕ) → (length (wrote (page2.round x s).0 i) ≡ get_or (page2.round x s).0.lengths i 0)
    × ((j : ℕ) → get_or (wrote (page2.round x s).0 i) j 0 ≤ 1))

moves_on : (l : page2.Lent) (s : List ℕ) (x : own.Circuit) → reading.read_circuit l.circuit ≡ Whole x → MovesOn l s (circuit x)
moves_on l s x e n =
    let m : Call = (l, s) in
    let law = moved m x e n in
    let gates = length-gates x.gates in (
      λ i a w. to_state m (λ z. page2.known (get_or z (x.inputs + i) 0) ≡ true) (law.gives i (sym (and_is x i) ∙ a) w),
      (
        λ f w h. to_state m (λ z. page2.known (get_or z w 0) ≡ true) (law.ends.0 (ended m f) w (omega (arith, gates))),
        λ h. ends m (law.ends.1 (λ w k. of_state m (λ z. page2.known (get_or z w 0) ≡ true) (h w (omega (arith, gates))))),
      ),
      λ y same ok.
          law.next (lent_round y) (ap reading.read_circuit same ∙ e)
          (ap (λ (o : run.RoundOutcome). o.number) (sym (after_is l y s)) ∙ accepted_is (y, (page2.round l s).1) ok) ∙ sym (sent_is m),
      (
        λ f. written_is m ∙ law.writes.finished (ended m f),
        λ f. written_is m ∙ law.writes.unfinished (λ g. f (ends m g)),
      ),
      λ i. slices i law,
    )
  where
    slices : (i : ℕ) → progress.Moves x (run.state_with s) (gave (l, s))
        → (length (wrote (page2.round l s).0 i) ≡ get_or (page2.round l s).0.lengths i 0) × ((j : ℕ) → get_or (wrote (page2.round l s).0 i) j 0 ≤ 1)
    slices zero law = (
      ap length (wrote_is (l, s)) ∙ law.writes.outputs-length ∙ sym (written_is (l, s)),
      λ j. subst (λ (z : List ℕ). get_or z j 0 ≤ 1) (sym (wrote_is (l, s))) (law.writes.outputs j),
    )
    slices (suc zero) law = (
      ap length (sends_is (l, s)) ∙ law.writes.bits-length ∙ sym (sent_is (l, s)),
      λ j. subst (λ (z : List ℕ). get_or z j 0 ≤ 1) (sym (sends_is (l, s))) (law.writes.bits j),
    )
    slices (suc (suc i)) law =
        let none : get_or (page2.round l s).0.lengths (suc (suc i)) 0 ≡ 0 = ap (λ (z : List ℕ). get_or z (suc (suc i)) 0) (lengths_are (l, s)) in
        let nothing : wrote (page2.round l s).0 (suc (suc i)) ≡ [] = ap (λ (n : ℕ). take n (get_or (page2.round l s).0.outputs (suc (suc i)) [])) none in
        (ap length nothing ∙ sym none, λ j. subst (λ (z : List ℕ). get_or z j 0 ≤ 1) (sym nothing) (omega arith))

abbrev StandsOn : List ℕ → page2.Circuit → Type 0
StandsOn source c =
    (l : List page2.Lent) → page2.OnCircuit page2.in_rounds source l → (k : ℕ) (m : Call) → page2.IsCall page2.in_rounds l k m
    → ((w : ℕ) → w < c.inputs + length c.gates → page2.known (get_or ((page2.in_rounds).call m).1 w 0) ≡ true ↔ get_or (page2.wire_levels c) w 0 ≤ k)
    × ((i : ℕ) → i < length c.gates → page2.waits (get_or ((page2.in_rounds).call m).1 (c.inputs + i) 0) ≡ true
    ↔ ((page2.is_and (page2.gate_at c i) ≡ true) × (page2.level_at c i ≡ suc k)))
    × (page2.Finished page2.in_rounds m ↔ page2.round_count c ≤ suc k)
    × (((page2.in_rounds).call m).0.lengths
    ≡ page.when◌then◌else◌ (leb (page2.round_count c) (suc k)) (length c.outputs) 0 ∷ 2 * page2.ands_at c (suc k) (length c.gates) ∷ [])

stands_on : (source : List ℕ) (x : own.Circuit) → reading.read_circuit source ≡ Whole x → StandsOn source (circuit x)
unfolding page.when◌then◌else◌
stands_on source x e l on k m i =
    let law = (progresses.progress).stands source x e (map lent_round l) (on-circuit source l on) k (made m) (to_library l k m i) in
    let move = moved m x (ap reading.read_circuit (on k m i) ∙ e) (is_accepted page2.in_rounds (page2.in_rounds).fresh l k i) in
    let gates = length-gates x.gates in
    let count = rounds_is x in (
      λ w h. (
        λ f. let a = (law.known w (omega (arith, gates))).0 (of_state m (λ z. page2.known (get_or z w 0) ≡ true) f) in omega (arith, a, level_is x w),
        λ f. to_state m (λ z. page2.known (get_or z w 0) ≡ true) ((law.known w (omega (arith, gates))).1 (omega (arith, f, level_is x w))),
      ),
      λ j h. (
        λ f.
            let a = (law.waits (x.inputs + j) (omega (arith, gates))).0 (of_state m (λ z. page2.waits (get_or z (x.inputs + j) 0) ≡ true) f) in
            (and_is x j ∙ sym (and_wire x j) ∙ a.0, level_is x (x.inputs + j) ∙ a.1),
        λ f.
            to_state m (λ z. page2.waits (get_or z (x.inputs + j) 0) ≡ true)
            ((law.waits (x.inputs + j) (omega (arith, gates))).1 (and_wire x j ∙ sym (and_is x j) ∙ f.0, sym (level_is x (x.inputs + j)) ∙ f.1)),
      ),
      (λ f. let a = law.finished.0 (ended m f) in omega (arith, a, count), λ f. ends m (law.finished.1 (omega (arith, f, count)))),
      lengths_are m
          ∙ ap₂ (λ (a b : ℕ). a ∷ b ∷ [])
          (split (suc k) (levels.round_count x)
          (λ h. move.writes.unfinished (λ done. let a = law.finished.0 done in omega (arith, a))
          ∙ sym (ap (λ (t : Bool). choose t (length x.outputs) 0) (lt-leb (page2.round_count (circuit x)) (suc k) (omega (arith, count)))))
          (λ h. move.writes.finished (law.finished.1 h)
          ∙ sym (ap (λ (t : Bool). choose t (length x.outputs) 0) (le-leb (page2.round_count (circuit x)) (suc k) (omega (arith, count))))))
          (law.written ∙ ap (λ (n : ℕ). 2 * n) (sym (all_at_is x (suc k)))),
    )

pub rounds-alone : says.Rounds
rounds-alone =
    record {
      keeps = keeps;
      moves = λ c x s g. on_read (MovesOn x s) x.circuit (moves_on x s) c g;
      stands = λ source. on_read (StandsOn source) source (stands_on source);
      first =
          λ x n.
          (progresses.progress).first_round (lent_round x)
          (ap (λ (z : RoundState). (run.round (lent_round x) z).number) (sym fresh_is) ∙ accepted_is (x, (page2.in_rounds).fresh) n);
    }

-- the accepted rounds of both
pub all_made : (l : List page2.Lent) → map made (page2.accepted_from page2.in_rounds (page2.in_rounds).fresh l) ≡ runs.rounds_of (map lent_round l)
all_made l = translated.same-calls page2.in_rounds lent_round run.state_with run.round (λ o. o.number) (λ o. o.state) number_is left_is l fresh_is
