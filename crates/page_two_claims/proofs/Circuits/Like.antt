-- Rounds are like steps.
use Prim.Native.Nat.{ℕ, suc, ◌+◌, ◌*◌, ◌<◌}
use mathlib.Core.Path.{◌≡◌, sym, ap, ◌∙◌, subst}
use mathlib.Core.Bool.{true}
use mathlib.Core.List.{List, map}
use mathlib.Core.Logic.{◌↔◌}
use native.Mathlib.Omega.{arith}
use lib.ListN.{length, take, get_or}
use Rattle.circuit.specs.Content as own
use Rattle.circuit.specs.Reading as reading
use Rattle.circuit_claims.specs.RoundRuns as rounds
use Rattle.circuit_claims.specs.Runs as steps
use Rattle.circuit_claims.specs.Same as same
use Rattle.circuit_claims.proofs.Sames as sames
use Rattle.circuit_run.specs.Step as step
use Rattle.number.specs.Reading.{Whole}
use Rattle.page_claims.specs.Statements.{wrote}
use Rattle.page_two.specs.Document02 as page2
use Rattle.page_two.proofs.Circuits.Content.{circuit, ands_is, length-gates}
use Rattle.page_two.proofs.Circuits.Round.{lent_round}
use Rattle.page_two.proofs.Circuits.Step.{lent_step}
use Rattle.page_two_claims.specs.Statements as says
use Rattle.page_two_claims.proofs.Circuits.Levels.{and_is, before_is, level_is, place_is}
use Rattle.page_two_claims.proofs.Circuits.Made.{on_read}
use Rattle.page_two_claims.proofs.Circuits.Rounds as in_rounds
use Rattle.page_two_claims.proofs.Circuits.Steps as in_steps

module _ (x : own.Circuit) (l₁ l₂ : List page2.Lent) where
  -- the same far bits on the page, the same in the library
  far_is : (i : ℕ) → says.SameFar (circuit x) l₁ l₂ i → same.SameFar x (steps.steps_of (map lent_step l₁)) (rounds.rounds_of (map lent_round l₂)) i
  far_is i f m r em er =
      let a = in_steps.of_library l₁ (suc (step.ands_before x i)) m em in
      let b = in_rounds.of_library l₂ (same.level_at x i) r er in
      let got = f a.0 b.0
      (subst (λ (n : ℕ). page2.IsCall page2.in_steps l₁ (suc n) a.0) (sym (before_is x i)) a.1)
      (subst (λ (n : ℕ). page2.IsCall page2.in_rounds l₂ n b.0) (sym (level_is x (x.inputs + i))) b.1) in
      let here = place_is x i in (
        ap (λ (y : steps.StepMade). y.got.far_first) (sym a.2) ∙ got.0 ∙ ap (λ (p : ℕ). get_or b.0.0.far p 0) here
            ∙ ap (λ (y : rounds.RoundMade). get_or y.got.far (same.place_at x i) 0) b.2,
        ap (λ (y : steps.StepMade). y.got.far_second) (sym a.2) ∙ got.1 ∙ ap (λ (p : ℕ). get_or b.0.0.far (p + 1) 0) here
            ∙ ap (λ (y : rounds.RoundMade). get_or y.got.far (same.place_at x i + 1) 0) b.2,
      )

  -- the same bits sent in the library, the same on the page
  sent_is : (i : ℕ) → same.SameSent x (steps.steps_of (map lent_step l₁)) (rounds.rounds_of (map lent_round l₂)) i → says.SameSent (circuit x) l₁ l₂ i
  sent_is i f k m r level em er =
      let law = f k (in_steps.made m) (in_rounds.made r) (sym (level_is x (x.inputs + i)) ∙ level)
      (subst (λ (n : ℕ). steps.IsStep (steps.steps_of (map lent_step l₁)) n (in_steps.made m)) (before_is x i)
      (in_steps.to_library l₁ (page2.ands_before (circuit x) i) m em))
      (in_rounds.to_library l₂ k r er) in
      let here = sym (place_is x i) in
      let two = in_steps.sends_is m in
      let many = sym (in_rounds.sends_is r) in (
        ap (λ (y : List ℕ). get_or y 0 0) two ∙ law.0 ∙ ap (λ (p : ℕ). get_or (rounds.bits_by (in_rounds.gave r)) p 0) here
            ∙ ap (λ (y : List ℕ). get_or y (page2.place_at (circuit x) i) 0) many,
        ap (λ (y : List ℕ). get_or y 1 0) two ∙ law.1 ∙ ap (λ (p : ℕ). get_or (rounds.bits_by (in_rounds.gave r)) (p + 1) 0) here
            ∙ ap (λ (y : List ℕ). get_or y (page2.place_at (circuit x) i + 1) 0) many,
      )

  alike : (source : List ℕ) → reading.read_circuit source ≡ Whole x → (role : ℕ) (shares triples₁ triples₂ : List ℕ)
      → says.Alike source (circuit x) role shares triples₁ triples₂ l₁ l₂
      → same.Alike source x role shares triples₁ triples₂ (steps.steps_of (map lent_step l₁)) (rounds.rounds_of (map lent_round l₂))
  alike source e role shares triples₁ triples₂ A =
      record {
        reads = e;
        in-steps = in_steps.unaltered role source shares triples₁ l₁ A.unaltered₁;
        in-rounds = in_rounds.unaltered role source shares triples₂ l₂ A.unaltered₂;
        same-triples = subst (λ (n : ℕ). take (3 * n) triples₁ ≡ take (3 * n) triples₂) (ands_is x.gates) A.triples;
      }

-- ---- the claims about one circuit

abbrev Outputs : List ℕ → page2.Circuit → Type 0
Outputs source c =
    (role : ℕ) (shares triples₁ triples₂ : List ℕ) (l₁ l₂ : List page2.Lent) → says.Alike source c role shares triples₁ triples₂ l₁ l₂
    → ((i : ℕ) → page2.is_and (page2.gate_at c i) ≡ true → says.SameFar c l₁ l₂ i)
    → (k₁ k₂ : ℕ) (m : page2.Lent × page2.StepState) (r : page2.Lent × List ℕ) → page2.IsCall page2.in_steps l₁ k₁ m → page2.IsCall page2.in_rounds l₂ k₂ r
    → page2.Finished page2.in_steps m → page2.Finished page2.in_rounds r → (wrote ((page2.in_steps).call m).0 0 ≡ wrote ((page2.in_rounds).call r).0 0)
    × ((w : ℕ) → w < c.inputs + length c.gates → get_or ((page2.in_rounds).call r).1 w 0 ≡ 2 + get_or ((page2.in_steps).call m).1.wires w 0)

outputs : (source : List ℕ) (x : own.Circuit) → reading.read_circuit source ≡ Whole x → Outputs source (circuit x)
outputs source x e role shares triples₁ triples₂ l₁ l₂ A far k₁ k₂ m r em er fm fr =
    let law = sames.same-outputs source x role shares triples₁ triples₂ (map lent_step l₁) (map lent_round l₂)
    (alike x l₁ l₂ source e role shares triples₁ triples₂ A)
    (λ i a. far_is x l₁ l₂ i (far i (and_is x i ∙ a)))
    k₁ k₂ (in_steps.made m) (in_rounds.made r) (in_steps.to_library l₁ k₁ m em) (in_rounds.to_library l₂ k₂ r er) (in_steps.ended m fm) (in_rounds.ended r fr) in (
      in_steps.wrote_is m ∙ law.0 ∙ sym (in_rounds.wrote_is r),
      λ w h.
          ap (λ (z : List ℕ). get_or z w 0) (in_rounds.state_is r.0 r.1) ∙ law.1 w (omega (arith, length-gates x.gates))
          ∙ ap (λ (z : page2.StepState). 2 + get_or z.wires w 0) (sym (in_steps.state_is m.0 m.1)),
    )

abbrev Bits : List ℕ → page2.Circuit → Type 0
Bits source c =
    (role : ℕ) (shares triples₁ triples₂ : List ℕ) (l₁ l₂ : List page2.Lent) → says.Alike source c role shares triples₁ triples₂ l₁ l₂
    → (i : ℕ) → page2.is_and (page2.gate_at c i) ≡ true
    → ((n : ℕ) → n < i → page2.is_and (page2.gate_at c n) ≡ true → says.SameFar c l₁ l₂ n) → says.SameSent c l₁ l₂ i

bits : (source : List ℕ) (x : own.Circuit) → reading.read_circuit source ≡ Whole x → Bits source (circuit x)
bits source x e role shares triples₁ triples₂ l₁ l₂ A i a far =
    sent_is x l₁ l₂ i
    (sames.same_bits source x role shares triples₁ triples₂ (map lent_step l₁) (map lent_round l₂)
    (alike x l₁ l₂ source e role shares triples₁ triples₂ A) i (sym (and_is x i) ∙ a)
    (λ n h b. far_is x l₁ l₂ n (far n h (and_is x n ∙ b))))

abbrev Opened : List ℕ → page2.Circuit → Type 0
Opened source c =
    (l : List page2.Lent) → page2.OnCircuit page2.in_steps source l
    → (k : ℕ) (m : page2.Lent × page2.StepState) → page2.IsCall page2.in_steps l k m → (i : ℕ) → page2.is_and (page2.gate_at c i) ≡ true
    → (((((page2.in_steps).call m).1.phase ≡ 1) × (((page2.in_steps).call m).1.gate ≡ i)) ↔ page2.ands_before c i ≡ k)
    × (((page2.in_steps).call m).1.phase ≡ 2 → page2.ands_before c i < k)

opened : (source : List ℕ) (x : own.Circuit) → reading.read_circuit source ≡ Whole x → Opened source (circuit x)
opened source x e l on k m em i a =
    let law = (sames.opened-once).by_step source x e (map lent_step l) (in_steps.on-circuit source l on) k (in_steps.made m) (in_steps.to_library l k m em) i
    (sym (and_is x i) ∙ a) in
    let now = in_steps.state_is m.0 m.1 in
    let phase = ap (λ (z : page2.StepState). z.phase) now in
    let gate = ap (λ (z : page2.StepState). z.gate) now in
    let n = before_is x i in (
      (λ h. n ∙ law.0.0 (sym phase ∙ h.0, sym gate ∙ h.1), λ h. let y = law.0.1 (sym n ∙ h) in (phase ∙ y.0, gate ∙ y.1)),
      λ h. let y = law.1 (sym phase ∙ h) in omega (arith, y, n),
    )

pub rounds_like_steps : says.RoundsLikeSteps
rounds_like_steps =
    record {
      outputs =
          λ source c role shares triples₁ triples₂ l₁ l₂ A.
          on_read (Outputs source) source (outputs source) c A.reads role shares triples₁ triples₂ l₁ l₂ A;
      bits =
          λ source c role shares triples₁ triples₂ l₁ l₂ A.
          on_read (Bits source) source (bits source) c A.reads role shares triples₁ triples₂ l₁ l₂ A;
      opened = λ source. on_read (Opened source) source (opened source);
    }
