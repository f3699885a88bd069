-- What a run shows, from the laws about the library's runs.
use Prim.Native.Nat.{ℕ, zero, suc, ◌+◌, ◌-◌, ◌*◌, ◌<◌}
use mathlib.Core.Path.{◌≡◌, refl, sym, ap, ap₂, ◌∙◌, subst}
use mathlib.Core.Bool.{Bool, true, false}
use mathlib.Core.List.{List, [], ◌∷◌, map}
use native.Mathlib.Nat.{add-zero}
use native.Mathlib.Omega.{arith}
use borrow.Author.Tests.{eq-eqb}
use lib.Bits.{bit_and, bit_xor}
use lib.Dec.{eqb}
use lib.ListN.{length, get_or}
use lib.Seq.{take-length}
use Rattle.circuit.specs.Admitted.{AdmittedCircuit}
use Rattle.circuit.specs.Content as own
use Rattle.circuit.specs.Reading as reading
use Rattle.circuit.specs.Value as value
use Rattle.circuit.proofs.Exact.{admitted}
use Rattle.circuit_claims.specs.Evaluation.{combined}
use Rattle.circuit_claims.specs.RoundRuns as round_runs
use Rattle.circuit_claims.specs.Runs as step_runs
use Rattle.circuit_claims.specs.Same as same
use Rattle.circuit_claims.specs.Transcript as transcript
use Rattle.circuit_claims.proofs.AndGates.{and-inside, and_before, gate-of, and_at}
use Rattle.circuit_claims.proofs.Transcripts.{outputs-same, determined, sent_determined}
use Rattle.circuit_claims.proofs.RoundEvaluates.{level_some}
use Rattle.circuit_run.specs.Round as round
use Rattle.circuit_run.specs.Step as step
use Rattle.circuit_hidden.specs.Hidden as hidden
use Rattle.circuit_hidden.specs.Run as run
use Rattle.circuit_hidden.proofs.Runs.{transcripts, hidden-rounds, hidden-steps}
use Rattle.number.specs.Reading.{Whole}
use Rattle.pads.specs.Triples.Matching as pads
use Rattle.page.specs.Document01 as page
use Rattle.page_claims.specs.Statements.{wrote}
use Rattle.page_two.specs.Document02 as page2
use Rattle.page_two.proofs.Circuits.Content.{circuit, value_is, ands_is}
use Rattle.page_two.proofs.Circuits.Round.{lent_round}
use Rattle.page_two.proofs.Circuits.Step.{lent_step}
use Rattle.page_two_claims.specs.Statements.{Matching}
use Rattle.page_two_claims.proofs.Circuits.Levels.{and_is, before_is, level_is, place_is}
use Rattle.page_two_claims.proofs.Circuits.Made.{is_accepted, on_read, combined_is}
use Rattle.page_two_claims.proofs.Circuits.Rounds as in_rounds
use Rattle.page_two_claims.proofs.Circuits.Steps as in_steps
use Rattle.page_beyond.specs.Beyond as says

-- bits by gate, as bits by how many ANDs come before
abbrev by_and : own.Circuit → (ℕ → ℕ × ℕ) → transcript.BitsByAnd
by_and x bits j = bits (transcript.and_gate x.gates j)

abbrev end : Bool → hidden.End
end true = hidden.One
end false = hidden.Two

abbrev role : Bool → ℕ
role one = page.when◌then◌else◌ one 1 2

abbrev far_role : Bool → ℕ
far_role one = page.when◌then◌else◌ one 2 1

role_is : (one : Bool) → role one ≡ hidden.role_of (end one)
unfolding page.when◌then◌else◌
role_is true = refl
role_is false = refl

other_is : (one : Bool) → far_role one ≡ hidden.role_of (hidden.other (end one))
unfolding page.when◌then◌else◌
other_is true = refl
other_is false = refl

match_of : (n : ℕ) (mine theirs : List ℕ) → pads.Matching n mine theirs → (j : ℕ) → j < n → Matching mine j theirs j
match_of n mine theirs m j h =
    let e = add-zero (j * 3) in
    m j h
    ∙ sym (ap (λ (z : ℕ). bit_and (bit_xor (get_or mine z 0) (get_or theirs z 0)) (bit_xor (get_or mine (j * 3 + 1) 0) (get_or theirs (j * 3 + 1) 0))) e)

-- ---- any kind of runs that is the library's by ANDs

module _ (x : own.Circuit) (R : ℕ → says.View → Type 0) (L : run.Run)
    (to : (role : ℕ) (v : says.View) → R role v → L role v.shares v.triples (by_and x v.got) (by_and x v.sent) v.outputs)
    (of : (role : ℕ) (v : says.View) → L role v.shares v.triples (by_and x v.got) (by_and x v.sent) v.outputs → R role v)
    (told : run.IsTranscript L x) (law : hidden.Hidden L x) where
  abbrev view : says.View → hidden.View
  view v = record { shares = v.shares; triples = v.triples; got = by_and x v.got; sent = by_and x v.sent; outputs = v.outputs }

  abbrev far : says.View → List ℕ → List ℕ → List ℕ → says.View
  far v y T o = record { shares = y; triples = T; got = v.sent; sent = v.got; outputs = o }

  to_library : (one : Bool) (v : says.View) (y T o : List ℕ) → says.Together R (circuit x) one v y T o → hidden.Together L x (end one) (view v) y T o
  to_library one v y T o t =
      record {
        own = subst (λ (n : ℕ). L n v.shares v.triples (by_and x v.got) (by_and x v.sent) v.outputs) (role_is one) (to (role one) v t.0);
        far =
            subst (λ (n : ℕ). L n y T (by_and x v.sent) (by_and x v.got) o) (other_is one)
            (to (far_role one) (far v y T o) t.1);
        matching =
            in_steps.match_is (own.ands_in x.gates) v.triples T
            (subst (λ (n : ℕ). (j : ℕ) → j < n → Matching v.triples j T j) (ands_is x.gates) t.2);
      }

  of_library : (one : Bool) (v : says.View) (y T o : List ℕ) → hidden.Together L x (end one) (view v) y T o → says.Together R (circuit x) one v y T o
  of_library one v y T o t = (
    of (role one) v
        (subst (λ (n : ℕ). L n v.shares v.triples (by_and x v.got) (by_and x v.sent) v.outputs) (sym (role_is one)) t.own),
    of (far_role one) (far v y T o)
        (subst (λ (n : ℕ). L n y T (by_and x v.sent) (by_and x v.got) o) (sym (other_is one)) t.far),
    subst (λ (n : ℕ). (j : ℕ) → j < n → Matching v.triples j T j) (sym (ands_is x.gates))
        (match_of (own.ands_in x.gates) v.triples T t.matching),
  )

  -- both ends' shares combined
  shares_are : (one : Bool) (v : says.View) (y T o : List ℕ) → hidden.Together L x (end one) (view v) y T o
      → combined v.shares y ≡ page.xor x.inputs v.shares y
  shares_are one v y T o t = combined_is v.shares y x.inputs (told _ _ _ _ _ _ t.own).one_each (told _ _ _ _ _ _ t.far).one_each

  values_are : (one : Bool) (v : says.View) (y T o : List ℕ) → hidden.Together L x (end one) (view v) y T o
      → value.value_of x (combined v.shares y) ≡ page2.value_of (circuit x) (page.xor x.inputs v.shares y)
  values_are one v y T o t = ap (value.value_of x) (shares_are one v y T o t) ∙ sym (value_is x (page.xor x.inputs v.shares y))

  module _ (one : Bool) (v : says.View) (own' opened : ℕ → Bool) (shares outputs inputs : List ℕ) where
    fits_of : (y T : List ℕ) → hidden.Fits L x (end one) (view v) own' opened shares outputs inputs y T
        → says.Fits R (circuit x) one v (own', opened) (shares, outputs) inputs y T
    fits_of y T f = (
      f.three-each.many ∙ ap (λ (n : ℕ). 3 * n) (sym (ands_is x.gates)),
      f.three-each.bit,
      sym (shares_are one v y T f.far_outputs f.together) ∙ f.on_inputs,
      f.same-own,
      (f.far_outputs, of_library one v y T f.far_outputs f.together, f.same-opened),
    )

    fits_to : (y T : List ℕ) → says.Fits R (circuit x) one v (own', opened) (shares, outputs) inputs y T
        → hidden.Fits L x (end one) (view v) own' opened shares outputs inputs y T
    fits_to y T f =
        let t = to_library one v y T f.4.0 f.4.1 in
        record {
          three-each = record { many = f.0 ∙ ap (λ (n : ℕ). 3 * n) (ands_is x.gates); bit = f.1 };
          on_inputs = shares_are one v y T f.4.0 t ∙ f.2;
          same-own = f.3;
          far_outputs = f.4.0;
          together = t;
          same-opened = f.4.2;
        }

  module _ (ok : AdmittedCircuit x) (role : ℕ) (v : says.View) (got sent : ℕ → ℕ × ℕ) (outputs : List ℕ) (r : R role v)
      (r' : R role (record { shares = v.shares; triples = v.triples; got = got; sent = sent; outputs = outputs }))
      (equal : (i : ℕ) → page2.is_and (page2.gate_at (circuit x) i) ≡ true → got i ≡ v.got i) where
    one : transcript.Transcript role x v.shares v.triples (by_and x v.got) (by_and x v.sent) v.outputs
    one = told _ _ _ _ _ _ (to role v r)

    two : transcript.Transcript role x v.shares v.triples (by_and x got) (by_and x sent) outputs
    two = told _ _ _ _ _ _ (to role (record { shares = v.shares; triples = v.triples; got = got; sent = sent; outputs = outputs }) r')

    by_and_lem : (j : ℕ) → j < own.ands_in x.gates → by_and x got j ≡ by_and x v.got j
    by_and_lem j h = let i = transcript.and_gate x.gates j in equal i (and_is x i ∙ (and_at x.gates j h).0)

    sent-follows : (i : ℕ) → page2.is_and (page2.gate_at (circuit x) i) ≡ true → sent i ≡ v.sent i
    sent-follows i b =
        let a = sym (and_is x i) ∙ b in
        let here = gate-of x.gates i a in
        ap sent (sym here) ∙ two.sends i a
        ∙ sent_determined role x v.triples v.triples (by_and x got) (by_and x v.got) v.shares one.one_each ok.gates (λ j h. refl) i a
        (and-inside x i a) (λ j h. by_and_lem j (let z = and_before x i a in omega (arith, h, z)))
        ∙ sym (one.sends i a) ∙ ap v.sent here

    written-follows : outputs ≡ v.outputs
    written-follows =
        let all : step.ands_before x (length x.gates) ≡ own.ands_in x.gates = ap own.ands_in (take-length x.gates) in
        two.written
        ∙ outputs-same (x.inputs + length x.gates) (transcript.wire_shares role x v.triples (by_and x got) v.shares)
        (transcript.wire_shares role x v.triples (by_and x v.got) v.shares) x.outputs
        (determined role x v.triples v.triples (by_and x got) (by_and x v.got) v.shares one.one_each ok.gates (λ j h. refl) (length x.gates)
        (omega arith) (λ j h. by_and_lem j (omega (arith, h, all))))
        ok.output_wires
        ∙ sym one.written

  hides : AdmittedCircuit x → says.Hidden R (circuit x)
  hides ok =
      record {
        follows = λ role v got sent outputs r r' equal.
            (sent-follows ok role v got sent outputs r r' equal, written-follows ok role v got sent outputs r r' equal);
        shown = λ one v y T o y' T' o' opened t t' same k h.
            let a = to_library one v y T o t in
            let b = to_library one v y' T' o' t' in
            ap (λ (l : List ℕ). get_or l k 0) (sym (values_are one v y' T' o' b))
            ∙ law.shown (end one) (view v) y T o y' T' o' opened a b same k h
            ∙ ap (λ (l : List ℕ). get_or l k 0) (values_are one v y T o a);
        hidden = λ one v y T o t own' opened inputs many bits same-own same-value.
            let a = to_library one v y T o t in
            let p = law.hidden (end one) (view v) y T o a own' opened inputs (record { many = many; bit = bits })
            (λ k h. same-own k h ∙ ap (λ (l : List ℕ). get_or l k 0) (sym (shares_are one v y T o a)))
            (λ k h. ap (λ (l : List ℕ). get_or l k 0) (sym (value_is x inputs)) ∙ same-value k h
            ∙ ap (λ (l : List ℕ). get_or l k 0) (sym (values_are one v y T o a))) in (
              p.first,
              p.second,
              fits_of one v own' opened y o inputs p.first p.second p.there_is,
              λ z U f. p.no_other z U (fits_to one v own' opened y o inputs z U f),
            );
      }

-- ---- lists

map-map : {A B C : Type 0} (f : B → C) (g : A → B) (l : List A) → map f (map g l) ≡ map (λ a. f (g a)) l
map-map f g [] = refl
map-map f g (a ∷ l) = ap (λ r. f (g a) ∷ r) (map-map f g l)

map_same : {A B : Type 0} (f g : A → B) → ((a : A) → f a ≡ g a) → (l : List A) → map f l ≡ map g l
map_same f g e [] = refl
map_same f g e (a ∷ l) = ap₂ (λ b r. b ∷ r) (e a) (map_same f g e l)

map_back : {A B : Type 0} (f : A → B) (g : B → A) → ((b : B) → f (g b) ≡ b) → (l : List B) → map f (map g l) ≡ l
map_back f g e [] = refl
map_back f g e (b ∷ l) = ap₂ (λ c r. c ∷ r) (e b) (map_back f g e l)

-- pairs of a list of lists
pairs : {A : Type 0} (f : A → List ℕ) (l : List A) (k : ℕ)
    → get_or (map (λ a. (get_or (f a) 0 0, get_or (f a) 1 0)) l) k (0, 0) ≡ says.pair_at (map f l) k 0
pairs f [] k = refl
pairs f (a ∷ l) zero = refl
pairs f (a ∷ l) (suc k) = pairs f l k

-- ---- rounds

abbrev round_opens : page2.Circuit → ℕ → ℕ × ℕ
round_opens c i = (page2.level_at c i - 1, page2.place_at c i)

module _ (x : own.Circuit) (source : List ℕ) (read : reading.read_circuit source ≡ Whole x) (l : List page2.Lent) (i : ℕ)
    (a : own.is_and (step.gate_at x i) ≡ true) where
  abbrev accepted_rounds : List (page2.Lent × List ℕ)
  accepted_rounds = page2.accepted_from page2.in_rounds (page2.in_rounds).fresh l

  level_here : page2.level_at (circuit x) i ≡ same.level_at x i
  level_here = level_is x (x.inputs + i)

  level_back : suc (page2.level_at (circuit x) i - 1) ≡ same.level_at x i
  level_back = let some = level_some x (admitted source x read).gates i a in omega (arith, some, level_here)

  round-got : says.pair_at (map (λ (m : page2.Lent × List ℕ). m.0.far) accepted_rounds)
      (suc (page2.level_at (circuit x) i - 1)) (page2.place_at (circuit x) i)
      ≡ transcript.far_at_gate x (round_runs.rounds_of (map lent_round l)) i
  round-got =
      let fars = sym (map-map (λ (m : round_runs.RoundMade). m.got.far) in_rounds.made accepted_rounds)
      ∙ ap (map (λ (m : round_runs.RoundMade). m.got.far)) (in_rounds.all_made l) in
      λ k. says.pair_at (fars k) (level_back k) (place_is x i k)

  round-sent : says.pair_at (map (λ (m : page2.Lent × List ℕ). (page2.in_rounds).sends ((page2.in_rounds).call m).0) accepted_rounds)
      (page2.level_at (circuit x) i - 1) (page2.place_at (circuit x) i)
      ≡ transcript.sent_at_gate x (round_runs.rounds_of (map lent_round l)) i
  round-sent =
      let sents = map_same _ (λ (m : page2.Lent × List ℕ). round_runs.bits_by (in_rounds.gave m)) in_rounds.sends_is accepted_rounds
      ∙ sym (map-map (λ (m : round_runs.RoundMade). round_runs.bits_by m.gave) in_rounds.made accepted_rounds)
      ∙ ap (map (λ (m : round_runs.RoundMade). round_runs.bits_by m.gave)) (in_rounds.all_made l) in
      λ k. says.pair_at (sents k) (level_here k - 1) (place_is x i k)

module _ (x : own.Circuit) (source : List ℕ) (read : reading.read_circuit source ≡ Whole x) (role : ℕ) (v : says.View) where
  to_rounds : says.HasRun page2.in_rounds (round_opens (circuit x)) source (circuit x) role v
      → run.InRounds source x role v.shares v.triples (by_and x v.got) (by_and x v.sent) v.outputs
  to_rounds h =
      let at : ℕ → ℕ = transcript.and_gate x.gates in
      record {
        calls = map lent_round h.run;
        unaltered = in_rounds.unaltered role source v.shares v.triples h.run h.unaltered;
        each-got = λ j b.
            let a = (and_at x.gates j b).0 in
            sym (round-got x source read h.run (at j) a) ∙ h.got (at j) (and_is x (at j) ∙ a);
        each-sent = λ j b.
            let a = (and_at x.gates j b).0 in
            sym (round-sent x source read h.run (at j) a) ∙ h.sent (at j) (and_is x (at j) ∙ a);
        number = h.ends.0;
        last = in_rounds.made h.ends.1;
        is_last = in_rounds.to_library h.run h.ends.0 h.ends.1 h.ends.2;
        finished = in_rounds.ended h.ends.1 h.ends.3;
        wrote = sym (in_rounds.wrote_is h.ends.1) ∙ h.ends.4;
      }

  abbrev page_round : round.RoundLent → page2.Lent
  page_round l = record { role = l.role; circuit = l.circuit; shares = l.shares; triples = l.triples; far = l.far; output = l.output; bits = l.bits }

  of_rounds : run.InRounds source x role v.shares v.triples (by_and x v.got) (by_and x v.sent) v.outputs
      → says.HasRun page2.in_rounds (round_opens (circuit x)) source (circuit x) role v
  of_rounds r =
      let l = map page_round r.calls in
      let back : map lent_round l ≡ r.calls = map_back lent_round page_round (λ b. refl) r.calls in
      let made-back = ap round_runs.rounds_of back in
      let final = in_rounds.of_library l r.number r.last
      (subst (λ (z : List round_runs.RoundMade). round_runs.IsRound z r.number r.last) (sym made-back) r.is_last) in
      record {
        run = l;
        unaltered = λ k m e.
            let o = r.unaltered k (in_rounds.made m)
            (subst (λ (z : List round_runs.RoundMade). round_runs.IsRound z k (in_rounds.made m)) made-back (in_rounds.to_library l k m e)) in
            (o.own-role, o.own-circuit, o.own-shares, o.own-triples);
        got = λ i b.
            let a = sym (and_is x i) ∙ b in
            let here = gate-of x.gates i a in
            round-got x source read l i a ∙ ap (λ (z : List round_runs.RoundMade). transcript.far_at_gate x z i) made-back
            ∙ ap (transcript.far_at_gate x (round_runs.rounds_of r.calls)) (sym here)
            ∙ r.each-got (step.ands_before x i) (and_before x i a) ∙ ap v.got here;
        sent = λ i b.
            let a = sym (and_is x i) ∙ b in
            let here = gate-of x.gates i a in
            round-sent x source read l i a ∙ ap (λ (z : List round_runs.RoundMade). transcript.sent_at_gate x z i) made-back
            ∙ ap (transcript.sent_at_gate x (round_runs.rounds_of r.calls)) (sym here)
            ∙ r.each-sent (step.ands_before x i) (and_before x i a) ∙ ap v.sent here;
        ends = (
          r.number,
          final.0,
          final.1,
          in_rounds.ends final.0 (subst (λ (z : round_runs.RoundMade). round_runs.Finished z.gave) (sym final.2) r.finished),
          in_rounds.wrote_is final.0 ∙ ap (λ (z : round_runs.RoundMade). round_runs.outputs_by z.gave) final.2 ∙ r.wrote,
        );
      }

-- ---- steps

abbrev step_opens : page2.Circuit → ℕ → ℕ × ℕ
step_opens c i = (page2.ands_before c i, 0)

module _ (x : own.Circuit) (l : List page2.Lent) (i : ℕ) where
  abbrev accepted_steps : List (page2.Lent × page2.StepState)
  accepted_steps = page2.accepted_from page2.in_steps (page2.in_steps).fresh l

  step-got : says.pair_at (map (λ (m : page2.Lent × page2.StepState). m.0.far) accepted_steps) (suc (page2.ands_before (circuit x) i)) 0
      ≡ transcript.far_in_steps (step_runs.steps_of (map lent_step l)) (step.ands_before x i)
  step-got =
      ap (λ (n : ℕ). says.pair_at (map (λ (m : page2.Lent × page2.StepState). m.0.far) accepted_steps) (suc n) 0) (before_is x i)
      ∙ sym (pairs (λ (m : page2.Lent × page2.StepState). m.0.far) accepted_steps (suc (step.ands_before x i)))
      ∙ ap (λ (z : List (ℕ × ℕ)). get_or z (suc (step.ands_before x i)) (0, 0))
      (sym (map-map (λ (m : step_runs.StepMade). (m.got.far_first, m.got.far_second)) in_steps.made accepted_steps)
      ∙ ap (map (λ (m : step_runs.StepMade). (m.got.far_first, m.got.far_second))) (in_steps.all_made l))

  step-sent : says.pair_at (map (λ (m : page2.Lent × page2.StepState). (page2.in_steps).sends ((page2.in_steps).call m).0) accepted_steps)
      (page2.ands_before (circuit x) i) 0
      ≡ transcript.sent_in_steps (step_runs.steps_of (map lent_step l)) (step.ands_before x i)
  step-sent =
      let two : page2.Lent × page2.StepState → List ℕ = λ m. (in_steps.gave m).first_bit ∷ (in_steps.gave m).second_bit ∷ [] in
      ap₂ (λ (z : List (List ℕ)) (n : ℕ). says.pair_at z n 0) (map_same _ two in_steps.sends_is accepted_steps) (before_is x i)
      ∙ sym (pairs two accepted_steps (step.ands_before x i))
      ∙ ap (λ (z : List (ℕ × ℕ)). get_or z (step.ands_before x i) (0, 0))
      (sym (map-map (λ (m : step_runs.StepMade). (m.gave.first_bit, m.gave.second_bit)) in_steps.made accepted_steps)
      ∙ ap (map (λ (m : step_runs.StepMade). (m.gave.first_bit, m.gave.second_bit))) (in_steps.all_made l))

module _ (x : own.Circuit) (source : List ℕ) (role : ℕ) (v : says.View) where
  to_steps : says.HasRun page2.in_steps (step_opens (circuit x)) source (circuit x) role v
      → run.InSteps source x role v.shares v.triples (by_and x v.got) (by_and x v.sent) v.outputs
  to_steps h =
      let at : ℕ → ℕ = transcript.and_gate x.gates in
      let made = step_runs.steps_of (map lent_step h.run) in
      record {
        calls = map lent_step h.run;
        unaltered = in_steps.unaltered role source v.shares v.triples h.run h.unaltered;
        each-got = λ j b.
            let p = and_at x.gates j b in
            ap (transcript.far_in_steps made) (sym p.1) ∙ sym (step-got x h.run (at j)) ∙ h.got (at j) (and_is x (at j) ∙ p.0);
        each-sent = λ j b.
            let p = and_at x.gates j b in
            ap (transcript.sent_in_steps made) (sym p.1) ∙ sym (step-sent x h.run (at j)) ∙ h.sent (at j) (and_is x (at j) ∙ p.0);
        number = h.ends.0;
        last = in_steps.made h.ends.1;
        is_last = in_steps.to_library h.run h.ends.0 h.ends.1 h.ends.2;
        finished = in_steps.ended h.ends.1 h.ends.3;
        wrote = sym (in_steps.wrote_is h.ends.1) ∙ h.ends.4;
      }

  abbrev page_step : step.StepLent → page2.Lent
  page_step l =
      record {
        role = l.role;
        circuit = l.circuit;
        shares = l.shares;
        triples = l.triples;
        far = l.far_first ∷ l.far_second ∷ [];
        output = l.output;
        bits = [];
      }

  of_steps : run.InSteps source x role v.shares v.triples (by_and x v.got) (by_and x v.sent) v.outputs
      → says.HasRun page2.in_steps (step_opens (circuit x)) source (circuit x) role v
  of_steps r =
      let l = map page_step r.calls in
      let back : map lent_step l ≡ r.calls = map_back lent_step page_step (λ b. refl) r.calls in
      let made-back = ap step_runs.steps_of back in
      let final = in_steps.of_library l r.number r.last
      (subst (λ (z : List step_runs.StepMade). step_runs.IsStep z r.number r.last) (sym made-back) r.is_last) in
      record {
        run = l;
        unaltered = λ k m e.
            let o = r.unaltered k (in_steps.made m)
            (subst (λ (z : List step_runs.StepMade). step_runs.IsStep z k (in_steps.made m)) made-back (in_steps.to_library l k m e)) in
            (o.own-role, o.own-circuit, o.own-shares, o.own-triples);
        got = λ i b.
            let a = sym (and_is x i) ∙ b in
            step-got x l i ∙ ap (λ (z : List step_runs.StepMade). transcript.far_in_steps z (step.ands_before x i)) made-back
            ∙ r.each-got (step.ands_before x i) (and_before x i a) ∙ ap v.got (gate-of x.gates i a);
        sent = λ i b.
            let a = sym (and_is x i) ∙ b in
            step-sent x l i ∙ ap (λ (z : List step_runs.StepMade). transcript.sent_in_steps z (step.ands_before x i)) made-back
            ∙ r.each-sent (step.ands_before x i) (and_before x i a) ∙ ap v.sent (gate-of x.gates i a);
        ends = (
          r.number,
          final.0,
          final.1,
          (
            is_accepted page2.in_steps (page2.in_steps).fresh l r.number final.1,
            ap (λ (z : page2.StepState). eqb z.phase 2) (in_steps.state_is final.0.0 final.0.1)
                ∙ eq-eqb _ 2 (ap (λ (z : step_runs.StepMade). z.gave.state.phase) final.2 ∙ r.finished),
          ),
          in_steps.wrote_is final.0 ∙ ap (λ (z : step_runs.StepMade). step_runs.written_by z.gave) final.2 ∙ r.wrote,
        );
      }

abbrev Rounds : List ℕ → page2.Circuit → ℕ → says.View → Type 0
Rounds source c = says.HasRun page2.in_rounds (round_opens c) source c

abbrev Steps : List ℕ → page2.Circuit → ℕ → says.View → Type 0
Steps source c = says.HasRun page2.in_steps (step_opens c) source c

pub hidden-runs : says.HiddenRuns
hidden-runs source =
    on_read (λ c. says.Hidden (Rounds source c) c × says.Hidden (Steps source c) c) source λ x read. (
      hides x (Rounds source (circuit x)) (run.InRounds source x) (to_rounds x source read) (of_rounds x source read)
          (transcripts.rounds source x read) (hidden-rounds source x read) (admitted source x read),
      hides x (Steps source (circuit x)) (run.InSteps source x) (to_steps x source) (of_steps x source)
          (transcripts.steps source x read) (hidden-steps source x read) (admitted source x read),
    )
