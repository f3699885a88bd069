-- The single claim about every two lists of calls, over the page.
use Prim.Native.Nat.{ℕ, zero, suc, ◌+◌}
use mathlib.Core.Path.{◌≡◌, refl, sym, ap, ap₂, ◌∙◌}
use mathlib.Core.List.{List, [], ◌∷◌, map}
use mathlib.Core.Option.{some, some-injective, none-ne-some}
use mathlib.Core.Bool.{Bool, true, false}
use lib.Dec.{eqb}
use lib.ListN.{length, get_or, get_elem?}
use Rattle.answer.specs.Tests.{is_met}
use Rattle.field.specs.Kind.{kind_of}
use Rattle.dealing.specs.Input.{Input}
use Rattle.dealing.specs.Vectors as vectors
use Rattle.dealing.specs.Deal.{deal, noise_record_of, scalar_record_of}
use Rattle.ends.specs.Noise.Offline as noise_off
use Rattle.ends.specs.Scalar.Offline as scalar_off
use Rattle.algebra.specs.Choice.{choose}
use Rattle.field.specs.Bytes.{word_at}
use Rattle.dealing.proofs.Laws.{scalar-reads}
use Rattle.ends.proofs.scalar.Laws.{offline-accepted}
use Rattle.claims.specs.Correlation.{Setting, noise_end, scalar_end}
use Rattle.claims.proofs.Lists.{noise-step, scalar-step}
use Rattle.page.specs.Document01 as page
use Rattle.page.proofs.Fields.{KindIs, kind_is, joined_length, noise-length, over_is}
use Rattle.page.proofs.Rows.{head}
use Rattle.page.proofs.Calls.{none as no-tests, more, room_is, answer-one, answer-two, noise_off_return, noise-offline, scalar_off_return, scalar-offline, noise_on_return, noise-online, scalar_on_return, scalar-online}
use Rattle.page.proofs.Dealing.{input, deal_is, scalar-words}
use Rattle.page_claims.specs.Statements as says
use Rattle.page_claims.proofs.Answers as answers
use Rattle.page_claims.proofs.Answers.{numbered_rooms, inputs_stay, all-written, reads_off}
use Rattle.page_claims.proofs.Outputs.{input_of, u_is, v_is, w_is, outputs_hold}

-- a run of calls each of which leaves the memory as it was
run_is : (online : List (List ℕ) → says.Call → page.Return) (given : says.Call → page.Return) (m : List (List ℕ))
    → ((x : says.Call) → online m x ≡ given x) → ((x : says.Call) → (given x).inputs ≡ m)
    → (calls : List says.Call) → says.run online m calls ≡ map given calls
unfolding says.run
run_is online given m e k [] = refl
run_is online given m e k (x ∷ calls) =
    ap₂ (λ (r : page.Return) (l : List page.Return). r ∷ l) (e x)
    (ap (λ (m' : List (List ℕ)). says.run online m' calls) (ap (λ (r : page.Return). r.inputs) (e x) ∙ k x) ∙ run_is online given m e k calls)

-- the member of a mapped list
pub mapped_at : {A B : Type 0} (f : A → B) (l : List A) (i : ℕ) (a : A) (b : B) → get_elem? l i ≡ some a → get_elem? (map f l) i ≡ some b → b ≡ f a
mapped_at f [] i a b e g = absurd (none-ne-some _ e)
mapped_at f (x ∷ l) zero a b e g = sym (some-injective _ _ g) ∙ ap f (some-injective _ _ e)
mapped_at f (x ∷ l) (suc i) a b e g = mapped_at f l i a b e g

-- what a list hands out stands in the buffers of a call all of whose outputs are written
abbrev pub outputs : says.End → says.Call → List page.Output
outputs E x = page.list (length (E.dealt 0)) (λ i. (says.slice x.buffers i, page.joined x.c (λ k. says.slice (E.dealt (x.first + k)) i)))

handed : (E : says.End) (n : ℕ) (calls : List says.Call) → says.run E.online E.memory calls ≡ map (says.listed E n) calls
    → (x : ℕ) (a : List (List ℕ)) (h : says.HandsOut E calls x a) → a ≡ E.standing (map (λ (buffer, l). page.front l buffer) (outputs E h.call)) h.k
handed E n calls e x a h =
    let same = mapped_at (says.listed E n) calls h.i h.call h.return h.made
    (sym (ap (λ (l : List page.Return). get_elem? l h.i) e) ∙ h.came) in
    h.stands
    ∙ ap (λ (l : List (List ℕ)). E.standing l h.k)
    (ap (λ (r : page.Return). r.outputs) same
    ∙ all-written _ _ (answers.more _ _ (numbered_rooms (outputs E h.call))) (sym (ap (λ (r : page.Return). r.number) same) ∙ h.accepted))

-- an end with other memory
abbrev pub on : List (List ℕ) → says.End → says.End
on m E = record { memory = m; online = E.online; standing = E.standing; dealt = E.dealt }

module _ (I : Input) (σ : says.Setting (input I)) where
  pub noise-left : says.noise_left σ ≡ noise_off_return (noise_off.offline (noise_record_of (deal I σ.noise_buffer σ.scalar_buffer)) σ.noise_out σ.v_out)
  noise-left =
      ap (λ (r : page.Return). page.noise_offline (says.wrote r 0) σ.noise_out σ.v_out) (deal_is I σ.noise_buffer σ.scalar_buffer)
      ∙ noise-offline _ σ.noise_out σ.v_out

  pub scalar-left : says.scalar_left σ ≡ scalar_off_return (scalar_off.offline (scalar_record_of (deal I σ.noise_buffer σ.scalar_buffer)) σ.w_out σ.ΔOut)
  scalar-left =
      ap (λ (r : page.Return). page.scalar_offline (says.wrote r 1) σ.w_out σ.ΔOut) (deal_is I σ.noise_buffer σ.scalar_buffer)
      ∙ scalar-offline _ σ.w_out σ.ΔOut

  unfoldable pub setting : Setting
  setting =
      let M = σ.in_memory in
      record {
        input = I;
        in_memory = record { roots = M.0; positions = M.1; values = M.2; delta = M.3; code_key = M.4; label = M.5 };
        noise_record = σ.noise_buffer;
        scalar_record = σ.scalar_buffer;
        dealt = sym (ap (λ (r : page.Return). r.number) (deal_is I σ.noise_buffer σ.scalar_buffer)) ∙ σ.dealt;
        noise_buffer = σ.noise_out;
        v_buffer = σ.v_out;
        noise_accepted = sym (ap (λ (r : page.Return). r.number) noise-left) ∙ σ.noise_accepted;
        w_buffer = σ.w_out;
        delta_buffer = σ.ΔOut;
        scalar_accepted = sym (ap (λ (r : page.Return). r.number) scalar-left) ∙ σ.scalar_accepted;
      }

  abbrev noise_memory : List (List ℕ)
  noise_memory = (noise_end setting).start.source ∷ (noise_end setting).start.noise ∷ (noise_end setting).start.v ∷ []

  abbrev scalar_memory : List (List ℕ)
  scalar_memory = (scalar_end setting).start.source ∷ (scalar_end setting).start.w ∷ []

  -- the memory that each end begins with
  pub noise-start : (says.noise_end σ).memory ≡ noise_memory
  unfolding setting
  noise-start = ap (λ (r : page.Return). says.slice r.inputs 0 ∷ says.wrote r 0 ∷ says.wrote r 1 ∷ []) noise-left

  pub scalar-start : (says.scalar_end σ).memory ≡ scalar_memory
  unfolding setting
  scalar-start = ap (λ (r : page.Return). says.slice r.inputs 0 ∷ says.wrote r 0 ∷ []) scalar-left

  abbrev K : KindIs (page.field_of I.field) (kind_of I.field)
  K = kind_is I.field

  -- what a listed call returns on the memory that the workings have
  noise-one : (x : says.Call) → (says.noise_end σ).online noise_memory x ≡ says.listed (on noise_memory (says.noise_end σ)) I.outputs x
  unfolding setting is_met page.list
  noise-one x =
      let u' = says.slice x.buffers 0 in
      let v' = says.slice x.buffers 1 in
      let us : (k : ℕ) → says.u (input I) (x.first + k) ≡ (vectors.field I).noise_values.words (vectors.u I (x.first + k)) = λ k. u_is I (x.first + k) in
      let vs : (k : ℕ) → says.v (input I) (x.first + k) ≡ (vectors.field I).elements.words (vectors.v I (x.first + k)) = λ k. v_is I (x.first + k) in
      let long = noise-length K x.c _ _ us in
      let wide = joined_length K.elements x.c _ _ vs in
      let u'' = over_is K.noise_values x.c _ _ us u' in
      let v'' = over_is K.elements x.c _ _ vs v' in
      noise-online _ _ _ x.first x.c u' v'
      ∙ ap noise_on_return (noise-step setting (record { first = x.first; count = x.c; out = record { u_out = u'; v_out = v' } }))
      ∙ sym (answer-two noise_on_return noise_memory _ _ u' (page.joined x.c (λ k. says.u (input I) (x.first + k))) v'
      (page.joined x.c (λ k. says.v (input I) (x.first + k))) (λ n. refl)
      (λ i. page.returned 0 (long i ∷ wide i ∷ []) noise_memory (u'' i ∷ v'' i ∷ []))
      (more _ _ _ refl (more _ _ _ (room_is u' long) (more _ _ _ (room_is v' wide) no-tests))))

  scalar-one : (x : says.Call) → (says.scalar_end σ).online scalar_memory x ≡ says.listed (on scalar_memory (says.scalar_end σ)) I.outputs x
  unfolding setting is_met page.list
  scalar-one x =
      let w' = says.slice x.buffers 0 in
      let ws : (k : ℕ) → says.w (input I) (x.first + k) ≡ (vectors.field I).elements.words (vectors.w I (x.first + k)) = λ k. w_is I (x.first + k) in
      let wide = joined_length K.elements x.c _ _ ws in
      let w'' = over_is K.elements x.c _ _ ws w' in
      scalar-online _ _ x.first x.c w'
      ∙ ap scalar_on_return (scalar-step setting (record { first = x.first; count = x.c; out = w' }))
      ∙ sym (answer-one scalar_on_return scalar_memory _ _ w' (page.joined x.c (λ k. says.w (input I) (x.first + k))) (λ n. refl)
      (λ i. page.returned 0 (wide i ∷ []) scalar_memory (w'' i ∷ []))
      (more _ _ _ refl (more _ _ _ (room_is w' wide) no-tests)))

  noise-all : (calls : List says.Call)
      → says.run (says.noise_end σ).online (says.noise_end σ).memory calls ≡ map (says.listed (says.noise_end σ) I.outputs) calls
  noise-all =
      run_is (says.noise_end σ).online _ _
      (λ x. ap (λ (m : List (List ℕ)). (says.noise_end σ).online m x) noise-start ∙ noise-one x
      ∙ sym (ap (λ (m : List (List ℕ)). says.listed (on m (says.noise_end σ)) I.outputs x) noise-start))
      (λ x. inputs_stay _ _ _)

  scalar-all : (calls : List says.Call)
      → says.run (says.scalar_end σ).online (says.scalar_end σ).memory calls ≡ map (says.listed (says.scalar_end σ) I.outputs) calls
  scalar-all =
      run_is (says.scalar_end σ).online _ _
      (λ x. ap (λ (m : List (List ℕ)). (says.scalar_end σ).online m x) scalar-start ∙ scalar-one x
      ∙ sym (ap (λ (m : List (List ℕ)). says.listed (on m (says.scalar_end σ)) I.outputs x) scalar-start))
      (λ x. inputs_stay _ _ _)

  -- a value has as many words as its space is wide
  u_wide : (x : ℕ) → length (says.u (input I) x) ≡ (page.field_of I.field).noise_values.width
  u_wide x = ap length (u_is I x) ∙ K.noise_values.length-words _ ∙ sym K.noise_values.width

  v_wide : (x : ℕ) → length (says.v (input I) x) ≡ (page.field_of I.field).elements.width
  v_wide x = ap length (v_is I x) ∙ K.elements.length-words _ ∙ sym K.elements.width

  w_wide : (x : ℕ) → length (says.w (input I) x) ≡ (page.field_of I.field).elements.width
  w_wide x = ap length (w_is I x) ∙ K.elements.length-words _ ∙ sym K.elements.width

  noise-hands : (calls : List says.Call) (x : ℕ) (a : List (List ℕ)) → says.HandsOut (says.noise_end σ) calls x a
      → a ≡ says.u (input I) x ∷ says.v (input I) x ∷ []
  unfolding page.list
  noise-hands calls x a h =
      let c = h.call in
      handed (says.noise_end σ) I.outputs calls (noise-all calls) x a h
      ∙ ap₂ (λ (y z : List ℕ). y ∷ z ∷ [])
      (reads_off (page.field_of I.field).noise_values c.c (λ k. says.u (input I) (c.first + k)) (says.slice c.buffers 0) (λ k. u_wide (c.first + k)) h.k h.within)
      (reads_off (page.field_of I.field).elements c.c (λ k. says.v (input I) (c.first + k)) (says.slice c.buffers 1) (λ k. v_wide (c.first + k)) h.k h.within)
      ∙ ap (λ (y : ℕ). says.u (input I) y ∷ says.v (input I) y ∷ []) (sym h.index)

  scalar-hands : (calls : List says.Call) (x : ℕ) (a : List (List ℕ)) → says.HandsOut (says.scalar_end σ) calls x a → a ≡ says.w (input I) x ∷ []
  unfolding page.list
  scalar-hands calls x a h =
      let c = h.call in
      handed (says.scalar_end σ) I.outputs calls (scalar-all calls) x a h
      ∙ ap (λ (y : List ℕ). y ∷ [])
      (reads_off (page.field_of I.field).elements c.c (λ k. says.w (input I) (c.first + k)) (says.slice c.buffers 0) (λ k. w_wide (c.first + k)) h.k h.within)
      ∙ ap (λ (y : ℕ). says.w (input I) y ∷ []) (sym h.index)

  -- Δ whole, as the scalar end's offline call left it
  delta-left : says.wrote (says.scalar_left σ) 1 ≡ get_or (page.scalar (input I)) 0 0 ∷ get_or (page.scalar (input I)) 1 0 ∷ []
  unfolding setting
  delta-left =
      let read = scalar-reads I σ.noise_buffer σ.scalar_buffer setting.dealt setting.in_memory in
      ap (λ (r : page.Return). says.wrote r 1) scalar-left
      ∙ (offline-accepted _ σ.w_out σ.ΔOut read setting.scalar_accepted).delta
      ∙ whole (eqb I.field 1)
      ∙ ap (λ (l : List ℕ). get_or l 0 0 ∷ get_or l 1 0 ∷ []) (sym (scalar-words I))
    where
      whole : (t : Bool)
          → (get_or (choose t (word_at I.delta 0 ∷ word_at I.delta 8 ∷ []) (word_at I.delta 0 ∷ [])) 0 0
          ∷ choose t (get_or (choose t (word_at I.delta 0 ∷ word_at I.delta 8 ∷ []) (word_at I.delta 0 ∷ [])) 1 0) 0 ∷ [])
          ≡ (get_or (choose t (word_at I.delta 0 ∷ word_at I.delta 8 ∷ []) (word_at I.delta 0 ∷ [])) 0 0
          ∷ get_or (choose t (word_at I.delta 0 ∷ word_at I.delta 8 ∷ []) (word_at I.delta 0 ∷ [])) 1 0 ∷ [])
      whole true = refl
      whole false = refl

-- w = Δu + v at what both ends hand out
both_hand : (D : page.Input) (x : ℕ) (u' v' w' : List ℕ) → u' ∷ v' ∷ [] ≡ says.u D x ∷ says.v D x ∷ [] → w' ∷ [] ≡ says.w D x ∷ []
    → says.Correlated D (says.u D x) (says.v D x) (says.w D x) → says.Correlated D u' v' w'
both_hand D x u' v' w' e f h =
    let first : List (List ℕ) → List ℕ = λ l. get_or l 0 [] in
    let second : List (List ℕ) → List ℕ = λ l. get_or l 1 [] in
    ap first f ∙ h
    ∙ sym (ap₂ (λ (a b : List ℕ). (page.F D.head).elements.plus ((page.F D.head).elements.multiple (get_or a 0 0) (page.scalar D)) b) (ap first e) (ap second e))

pub lists : (D : page.Input) (σ : says.Setting D) (noise_calls scalar_calls : List says.Call) → says.Claim σ noise_calls scalar_calls
lists D σ noise_calls scalar_calls =
    let I = input_of D in
    record {
      noise_returns = noise-all I σ noise_calls;
      scalar_returns = scalar-all I σ scalar_calls;
      noise_hands = noise-hands I σ noise_calls;
      scalar_hands = scalar-hands I σ scalar_calls;
      scalarΔ = delta-left I σ;
      correlated = λ x u' v' w' h g.
          both_hand D x u' v' w' (noise-hands I σ noise_calls x (u' ∷ v' ∷ []) h) (scalar-hands I σ scalar_calls x (w' ∷ []) g)
          (outputs_hold I σ.noise_buffer σ.scalar_buffer σ.dealt x);
    }
