-- A call on a circuit's bytes, a step or a round: refused by the reading, else answered by tests. When it is accepted, what an accepted
-- one had, and the accepted ones of a run one after the other. Assumes nothing.
use Prim.Native.Nat.{ℕ, zero, suc}
use mathlib.Core.Bool.{Bool, true, false}
use mathlib.Core.List.{List}
use mathlib.Core.Logic.{◌↔◌}
use mathlib.Core.Path.{◌≡◌, refl, sym, ap, ◌∙◌}
use borrow.Author.Tests.{ne_eqb}
use native.Mathlib.Omega.{arith}
use Rattle.algebra.specs.Choice.{choose}
use Rattle.answer.proofs.Answers.{refused-with, accepted_with, number_of}
use Rattle.answer.proofs.Faults.{admitted_by, no_fault}
use Rattle.answer.specs.Inner.Numbered.{numbered}
use Rattle.answer.specs.Outcome.{answered}
use Rattle.answer.specs.Tests.{Test, first_fault, AllMet}
use Rattle.circuit.proofs.Refusals.{refused-numbered}
use Rattle.circuit.specs.Content.{Circuit}
use Rattle.circuit.specs.Reading.{read_circuit}
use Rattle.number.proofs.Records.{read-refused, read_whole}
use Rattle.number.specs.Reading.{Reading, Whole, Refused, after_reading}
use Rattle.circuit_claims.proofs.Calls.{Keeps, call_before, first_made, next-made}
use Rattle.circuit_claims.specs.Calls.{CallMade, accepted_calls, IsCall}

-- what holds of each of two outcomes holds of the chosen one
pub either_way : {A O : Type 0} (b : Bool) (part : O → A) (x y : O) {z : A} → part x ≡ z → part y ≡ z → part (choose b x y) ≡ z
either_way true part x y e f = e
either_way false part x y e f = f

-- what such a call is made of
pub record CircuitCall (L S O : Type 0) : Type 0 where
  pub call : L → S → O
  pub number : O → ℕ
  pub state : O → S
  pub circuit : L → List ℕ
  pub tests : Circuit → L → S → List Test
  pub refusal : L → S → ℕ → O
  pub acceptance : Circuit → L → S → O

-- what holds of it
pub record CallLaws {L S O : Type 0} (K : CircuitCall L S O) : Type 0 where
  pub is : (l : L) (s : S) → K.call l s
      ≡ after_reading (read_circuit (K.circuit l)) (K.refusal l s) (λ c. answered (K.tests c l s) (K.refusal l s) (K.acceptance c l s))
  pub all-numbered : (c : Circuit) (l : L) (s : S) → numbered (K.tests c l s) ≡ true
  pub refused-number : (l : L) (s : S) (n : ℕ) → K.number (K.refusal l s n) ≡ n
  pub refused-state : (l : L) (s : S) (n : ℕ) → K.state (K.refusal l s n) ≡ s
  pub accepted-number : (c : Circuit) (l : L) (s : S) → K.number (K.acceptance c l s) ≡ 0

-- what an accepted call had
pub record Had {L S O : Type 0} (K : CircuitCall L S O) (c : Circuit) (l : L) (s : S) : Type 0 where
  pub read : read_circuit (K.circuit l) ≡ Whole c
  pub met : AllMet (K.tests c l s)
  pub is : K.call l s ≡ K.acceptance c l s

module _ {L S O : Type 0} {K : CircuitCall L S O} (laws : CallLaws K) where
  -- refused by the reading
  read_none : (l : L) (s : S) (k : ℕ) → read_circuit (K.circuit l) ≡ Refused k → K.call l s ≡ K.refusal l s k
  read_none l s k f = laws.is l s ∙ sym (read-refused (read_circuit (K.circuit l)) (K.refusal l s) _ _ k f refl)

  none_number : (l : L) (s : S) (k : ℕ) → read_circuit (K.circuit l) ≡ Refused k → K.number (K.call l s) ≡ k
  none_number l s k f = ap K.number (read_none l s k f) ∙ laws.refused-number l s k

  -- on a circuit that is read
  module _ {c : Circuit} (l : L) (s : S) (f : read_circuit (K.circuit l) ≡ Whole c) where
    read_on : K.call l s ≡ answered (K.tests c l s) (K.refusal l s) (K.acceptance c l s)
    read_on = laws.is l s ∙ sym (read_whole (read_circuit (K.circuit l)) (K.refusal l s) _ _ c f refl)

    number_is : K.number (K.call l s) ≡ first_fault (K.tests c l s)
    number_is =
        ap K.number read_on ∙ number_of K.number (K.refusal l s) _ (laws.refused-number l s) (laws.accepted-number c l s) (K.tests c l s)

    -- accepted exactly if every test is met
    pub met_if : AllMet (K.tests c l s) ↔ K.number (K.call l s) ≡ 0
    met_if = (λ m. number_is ∙ no_fault (K.tests c l s) m, λ e. admitted_by (K.tests c l s) (K.number (K.call l s)) (laws.all-numbered c l s) number_is e)

    pub had_on : K.number (K.call l s) ≡ 0 → Had K c l s
    had_on e =
        record {
          read = f;
          met = met_if.1 e;
          is = read_on ∙ sym (accepted_with (K.tests c l s) (K.refusal l s) (K.acceptance c l s) _ _ number_is e refl);
        }

    refused_on : (K.number (K.call l s) ≡ 0 → ⊥) → K.call l s ≡ K.refusal l s (K.number (K.call l s))
    refused_on h = read_on ∙ sym (refused-with (K.tests c l s) (K.refusal l s) (K.acceptance c l s) _ _ number_is (ne_eqb _ 0 h) refl)

  pub had : (l : L) (s : S) → K.number (K.call l s) ≡ 0 → (c : Circuit) × Had K c l s
  had l s e = of (read_circuit (K.circuit l)) refl
    where
      of : (r : Reading Circuit) → read_circuit (K.circuit l) ≡ r → (c : Circuit) × Had K c l s
      of (Whole c) f = (c, had_on l s f e)
      of (Refused k) f = absurd (omega (arith, refused-numbered (K.circuit l) k f, none_number l s k f, e))

  -- a refused call gives its number and keeps its state
  pub refused_is : (l : L) (s : S) → (K.number (K.call l s) ≡ 0 → ⊥) → K.call l s ≡ K.refusal l s (K.number (K.call l s))
  refused_is l s h = of (read_circuit (K.circuit l)) refl
    where
      of : (r : Reading Circuit) → read_circuit (K.circuit l) ≡ r → K.call l s ≡ K.refusal l s (K.number (K.call l s))
      of (Whole c) f = refused_on l s f h
      of (Refused k) f = read_none l s k f ∙ ap (K.refusal l s) (sym (none_number l s k f))

  keeps : Keeps K.call K.number K.state
  keeps l s h = ap K.state (refused_is l s h) ∙ laws.refused-state l s _

  -- the accepted ones of a run: the first is on the state that the run begins with, a later one on the state that the one before left
  module _ (start : S) (calls : List L) where
    abbrev made : List (CallMade L O)
    made = accepted_calls K.call K.number K.state start calls

    pub first-call : {m : CallMade L O} → IsCall made 0 m → (m.gave ≡ K.call m.got start) × (K.number (K.call m.got start) ≡ 0)
    first-call = first_made K.call K.number K.state keeps start calls

    pub next-call : (k : ℕ) {a m : CallMade L O} → IsCall made k a → IsCall made (suc k) m
        → (m.gave ≡ K.call m.got (K.state a.gave)) × (K.number (K.call m.got (K.state a.gave)) ≡ 0)
    next-call = next-made K.call K.number K.state keeps start calls

    -- on a circuit that stays
    module _ (circuit : List ℕ) {c : Circuit} (read : read_circuit circuit ≡ Whole c)
        (stays : (k : ℕ) (m : CallMade L O) → IsCall made k m → K.circuit m.got ≡ circuit) where
      pub first_had : {m : CallMade L O} → IsCall made 0 m → (m.gave ≡ K.call m.got start) × Had K c m.got start
      first_had {m} e = let f = first-call e in (f.0, had_on m.got start (ap read_circuit (stays 0 m e) ∙ read) f.1)

      pub next_had : (k : ℕ) {a m : CallMade L O} → IsCall made k a → IsCall made (suc k) m
          → (m.gave ≡ K.call m.got (K.state a.gave)) × Had K c m.got (K.state a.gave)
      next_had k {a} {m} e g = let f = next-call k e g in (f.0, had_on m.got _ (ap read_circuit (stays (suc k) m g) ∙ read) f.1)

      -- each was on a state
      pub had_some : (k : ℕ) (m : CallMade L O) → IsCall made k m → (s : S) × (m.gave ≡ K.call m.got s) × Had K c m.got s
      had_some zero m e = let t = first_had e in (start, t.0, t.1)
      had_some (suc k) m e = let b = call_before k made e in let t = next_had k b.1 e in (K.state b.0.gave, t.0, t.1)
