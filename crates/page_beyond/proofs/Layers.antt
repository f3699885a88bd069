-- Layers over the page: orders, the added vectors and the ends are those of the workings, and each call with the record of any layer
-- returns what it returns there.
use Prim.Native.Nat.{ℕ, zero, suc, ◌+◌, ◌-◌, ◌*◌, ◌≤◌, ◌<◌}
use native.Mathlib.Omega.{arith}
use mathlib.Core.Path.{◌≡◌, refl, sym, ap, ap₂, ◌∙◌, subst}
use mathlib.Core.Bool.{true, false}
use mathlib.Core.List.{List, [], ◌∷◌, ◌++◌, map}
use lib.Dec.{eqb, ltb}
use lib.ListN.{length, get_or, get_elem?, take, drop, take-append-drop}
use lib.Seq.{drop-cons}
use native.Mathlib.Numerals.{add-one}
use Rattle.algebra.specs.Order as order
use Rattle.answer.specs.Tests.{is_met}
use Rattle.field.specs.Kind.{kind_of}
use Rattle.dealing.specs.Input.{Input}
use Rattle.tree.specs.Tree.{listed}
use Rattle.tree.proofs.Listed.{length-listed, listed_at}
use Rattle.claims.proofs.Pads.{pads_of}
use Rattle.layer_claims.specs.Adding.{added_up, Accepted}
use Rattle.layer_claims.specs.Correlation.{Orders, noise_at, v_at, w_at, noise_end, scalar_end}
use Rattle.layer_claims.specs.Layers as layers
use Rattle.layer_claims.proofs.Lists.{noise-step, scalar-step, layer-lists}
use Rattle.layer_claims.proofs.Outputs.{of_layers}
use Rattle.page.specs.Document01 as page
use Rattle.page.proofs.Calls.{none as no-tests, more, room_is, answer-one, answer-two, noise_on_return, noise-online, scalar_on_return, scalar-online}
use Rattle.page.proofs.Fields.{KindIs, kind_is, joined_length, noise-length, over_is}
use Rattle.page.proofs.Dealing.{scalar-words}
use Rattle.page.proofs.Pads.{noise-pads, scalar-pads}
use Rattle.page_two.specs.Document02 as page2
use Rattle.page_two.proofs.Layers.{add_is}
use Rattle.page_claims.specs.Statements as alone
use Rattle.page_claims.proofs.Answers as answers
use Rattle.page_claims.proofs.Answers.{numbered_rooms, inputs_stay, all-written, reads_off}
use Rattle.page_claims.proofs.Entire.{element-lent}
use Rattle.page_claims.proofs.Lists as one
use Rattle.page_claims.proofs.Lists.{mapped_at, outputs, on, setting}
use Rattle.page_claims.proofs.Outputs.{input_of}
use Rattle.page_beyond.specs.Beyond as says
use Rattle.page_beyond.specs.Beyond.{layer, ◌into◌}
use Rattle.page_beyond.proofs.Sums.{layered, u_is, v_is, w_is, correlated, alone_is}

-- ---- orders

unfoldable order_of : says.Order → order.Order
order_of (layer i) = order.term i
order_of (a into b) = order.◌into◌ (order_of a) (order_of b)

occurs_is : (i : ℕ) (o : says.Order) → says.occurs i o ≡ order.occurs i (order_of o)
unfolding says.occurs order.occurs order_of page.when◌then◌else◌
occurs_is i (layer j) = refl
occurs_is i (a into b) = ap₂ (λ (m n : ℕ). m + n) (occurs_is i a) (occurs_is i b)

once_is : (k : ℕ) (o : says.Order) → ((i : ℕ) → says.occurs i o ≡ page.when◌then◌else◌ (ltb i k) 1 0) → order.Once k (order_of o)
unfolding page.when◌then◌else◌
once_is k o once i = sym (occurs_is i o) ∙ once i

module _ (f : ℕ) (mine theirs : ℕ → List ℕ) (same : (i : ℕ) → mine i ≡ theirs i) where
  added_is : (o : says.Order) → (says.added f mine o).0 ≡ added_up f theirs (order_of o)
  unfolding says.added added_up order_of
  added_is (layer i) = same i
  added_is (a into b) =
      ap₂ (λ (x y : List ℕ). alone.slice (page2.add f x y).outputs 0) (added_is a) (added_is b)
      ∙ ap (λ (r : page.Return). alone.slice r.outputs 0) (add_is f (added_up f theirs (order_of a)) (added_up f theirs (order_of b)))

  accepted_is : (o : says.Order) → Accepted f theirs (order_of o) → (says.added f mine o).1 ≡ 0
  unfolding says.added Accepted order_of
  accepted_is (layer i) A = refl
  accepted_is (a into b) A =
      let call : (page2.add f (says.added f mine a).0 (says.added f mine b).0).number ≡ 0 =
      ap₂ (λ (x y : List ℕ). (page2.add f x y).number) (added_is a) (added_is b)
      ∙ ap (λ (r : page.Return). r.number) (add_is f (added_up f theirs (order_of a)) (added_up f theirs (order_of b))) ∙ A.2 in
      omega (arith, accepted_is a A.0, accepted_is b A.1, call)

-- ---- memory

-- an answer with other inputs
other-inputs : (m m' : List (List ℕ)) (out : List page.Output) (tests : List page.Test)
    → page.returned (page.answer m out tests).number (page.answer m out tests).lengths m' (page.answer m out tests).outputs
    ≡ page.answer m' out tests
unfolding page.answer page.when◌then◌else◌
other-inputs m m' out [] = refl
other-inputs m m' out (page.◌otherwise◌ true k ∷ tests) = other-inputs m m' out tests
other-inputs m m' out (page.◌otherwise◌ false k ∷ tests) = refl

put_back : (i : ℕ) (l : List (List ℕ)) → i < length l → take i l ++ (get_or l i [] ∷ drop (i + 1) l) ≡ l
put_back i l h = rw (add-one i) (ap (λ (r : List (List ℕ)). take i l ++ r) (sym (drop-cons l i [] h)) ∙ take-append-drop i l)

-- a call that leaves the record of layer i as it was leaves all memory so
with-records : (i : ℕ) (records rest : List (List ℕ)) → i < length records → (out : List page.Output) (tests : List page.Test)
    → says.with_records i records (page.answer (get_or records i [] ∷ rest) out tests) ≡ page.answer (rest ++ records) out tests
with-records i records rest h out tests =
    let m = get_or records i [] ∷ rest in
    let r = page.answer m out tests in
    ap (λ (q : List (List ℕ)). page.returned r.number r.lengths
    (drop 1 q ++ (take i records ++ (alone.slice q 0 ∷ drop (i + 1) records))) r.outputs) (inputs_stay m out tests)
    ∙ ap (λ (l : List (List ℕ)). page.returned r.number r.lengths (rest ++ l) r.outputs) (put_back i records h)
    ∙ other-inputs m (rest ++ records) out tests

-- ---- lists of calls

run_is : {k : ℕ} (E : ℕ → alone.End) (given : says.LayerCall k → page.Return) (m : List (List ℕ))
    → ((y : says.LayerCall k) → (E y.0).online m y.2 ≡ given y) → ((y : says.LayerCall k) → (given y).inputs ≡ m)
    → (calls : List (says.LayerCall k)) → says.run E m calls ≡ map given calls
unfolding says.run
run_is E given m e kept [] = refl
run_is E given m e kept (y ∷ calls) =
    ap₂ (λ (r : page.Return) (l : List page.Return). r ∷ l) (e y)
    (ap (λ (m' : List (List ℕ)). says.run E m' calls) (ap (λ (r : page.Return). r.inputs) (e y) ∙ kept y)
    ∙ run_is E given m e kept calls)

-- what a list hands out stands in the buffers of a call all of whose outputs are written
handed : {k : ℕ} (E : ℕ → alone.End) (n : ℕ) (calls : List (says.LayerCall k))
    → says.run E (E 0).memory calls ≡ map (λ y. alone.listed (E y.0) n y.2) calls
    → (x : ℕ) (a : List (List ℕ)) (h : says.HandsOut E calls x a)
    → a ≡ (E 0).standing (map (λ (buffer, l). page.front l buffer) (outputs (E h.1.0) h.1.2)) h.3
handed E n calls e x a h =
    let y = h.1 in
    let same = mapped_at (λ y. alone.listed (E y.0) n y.2) calls h.0 y h.2 h.4
    (sym (ap (λ (l : List page.Return). get_elem? l h.0) e) ∙ h.5) in
    h.9
    ∙ ap (λ (l : List (List ℕ)). (E 0).standing l h.3)
    (ap (λ (r : page.Return). r.outputs) same
    ∙ all-written _ _ (answers.more _ _ (numbered_rooms (outputs (E y.0) y.2)))
    (sym (ap (λ (r : page.Return). r.number) same) ∙ h.6))

module _ (L : says.Layered) (O : says.Orders L) where
  abbrev W : layers.Layers
  W = layered L

  abbrev I : Input
  I = input_of (L.input 0)

  abbrev K : KindIs (page.field_of I.field) (kind_of I.field)
  K = kind_is I.field

  abbrev σ : (i : ℕ) → alone.Setting (L.input i)
  σ = L.setting

  -- the orders, in workings
  unfoldable ordered : Orders W
  unfolding layered
  ordered =
      record {
        noise = order_of (O.order 0);
        noise-once = once_is L.k (O.order 0) (O.once 0);
        v = order_of (O.order 1);
        v_once = once_is L.k (O.order 1) (O.once 1);
        w = order_of (O.order 2);
        w_once = once_is L.k (O.order 2) (O.once 2);
      }

  -- the memory that each end begins with
  abbrev noise_records : List (List ℕ)
  noise_records = page.list L.k (noise_end W ordered).start.records

  abbrev noise_memory : List (List ℕ)
  noise_memory = (noise_end W ordered).start.noise ∷ (noise_end W ordered).start.v ∷ noise_records

  abbrev scalar_records : List (List ℕ)
  scalar_records = page.list L.k (scalar_end W ordered).start.records

  abbrev scalar_memory : List (List ℕ)
  scalar_memory = (scalar_end W ordered).start.w ∷ scalar_records

  noise-left : (i : ℕ) → (alone.noise_end (σ i)).memory ≡ (noise_end W ordered).start.records i ∷ noise_at W i ∷ v_at W i ∷ []
  unfolding layered
  noise-left i = one.noise-start (input_of (L.input i)) (σ i)

  scalar-left : (i : ℕ) → (alone.scalar_end (σ i)).memory ≡ (scalar_end W ordered).start.records i ∷ w_at W i ∷ []
  unfolding layered
  scalar-left i = one.scalar-start (input_of (L.input i)) (σ i)

  abbrev part : ℕ → List (List ℕ) → List ℕ
  part q m = alone.slice m q

  noise-start : (says.noise_on L O 0).memory ≡ noise_memory
  unfolding ordered layered setting
  noise-start =
      let noise = added_is I.field _ (noise_at W) (λ i. ap (part 1) (noise-left i)) (O.order 0) in
      let v = added_is I.field _ (v_at W) (λ i. ap (part 2) (noise-left i)) (O.order 1) in
      λ t. noise t ∷ v t ∷ page.list L.k (λ i. part 0 (noise-left i t))

  scalar-start : (says.scalar_on L O 0).memory ≡ scalar_memory
  unfolding ordered layered setting
  scalar-start =
      let w = added_is I.field _ (w_at W) (λ i. ap (part 1) (scalar-left i)) (O.order 2) in
      λ t. w t ∷ page.list L.k (λ i. part 0 (scalar-left i t))

  -- record i, among the records
  record_at : (f : ℕ → List ℕ) (i : ℕ) → i < L.k → get_or (page.list L.k f) i [] ≡ f i
  unfolding page.list listed
  record_at f i h = listed_at L.k f [] i h

  records-long : (f : ℕ → List ℕ) → length (page.list L.k f) ≡ L.k
  unfolding page.list listed
  records-long f = length-listed L.k f

  -- what a call with the record of a layer returns, on the slices that it reads
  noise-read : (y : says.LayerCall L.k)
      → page.noise_online ((noise_end W ordered).start.records y.0) (noise_end W ordered).start.noise (noise_end W ordered).start.v
      y.2.first y.2.c (part 0 y.2.buffers) (part 1 y.2.buffers)
      ≡ alone.listed (on ((noise_end W ordered).start.records y.0 ∷ (noise_end W ordered).start.noise ∷ (noise_end W ordered).start.v ∷ [])
      (says.noise_on L O 0)) I.outputs y.2
  unfolding layered setting is_met page.list
  noise-read y =
      let x = y.2 in
      let u' = part 0 x.buffers in
      let v' = part 1 x.buffers in
      let us : (k : ℕ) → says.u_sum L (x.first + k) ≡ (layers.field W).noise_values.words (layers.u W (x.first + k)) =
      λ k. u_is L (x.first + k) in
      let vs : (k : ℕ) → says.sum_of alone.v L (x.first + k) ≡ (layers.field W).elements.words (layers.v W (x.first + k)) =
      λ k. v_is L (x.first + k) in
      let long = noise-length K x.c _ _ us in
      let wide = joined_length K.elements x.c _ _ vs in
      let u'' = over_is K.noise_values x.c _ _ us u' in
      let v'' = over_is K.elements x.c _ _ vs v' in
      let m = (noise_end W ordered).start.records y.0 ∷ (noise_end W ordered).start.noise ∷ (noise_end W ordered).start.v ∷ [] in
      noise-online _ _ _ x.first x.c u' v'
      ∙ ap noise_on_return (noise-step W ordered
      (record { first = x.first; count = x.c; out = record { layer = y.0; below = y.1; out = record { u_out = u'; v_out = v' } } }))
      ∙ sym (answer-two noise_on_return m _ _ u' (page.joined x.c (λ k. says.u_sum L (x.first + k))) v'
      (page.joined x.c (λ k. says.sum_of alone.v L (x.first + k))) (λ n. refl)
      (λ i. page.returned 0 (long i ∷ wide i ∷ []) m (u'' i ∷ v'' i ∷ []))
      (more _ _ _ refl (more _ _ _ (room_is u' long) (more _ _ _ (room_is v' wide) no-tests))))

  scalar_read : (y : says.LayerCall L.k)
      → page.scalar_online ((scalar_end W ordered).start.records y.0) (scalar_end W ordered).start.w
      y.2.first y.2.c (part 0 y.2.buffers)
      ≡ alone.listed (on ((scalar_end W ordered).start.records y.0 ∷ (scalar_end W ordered).start.w ∷ []) (says.scalar_on L O 0))
      I.outputs y.2
  unfolding layered setting is_met page.list
  scalar_read y =
      let x = y.2 in
      let w' = part 0 x.buffers in
      let ws : (k : ℕ) → says.sum_of alone.w L (x.first + k) ≡ (layers.field W).elements.words (layers.w W (x.first + k)) =
      λ k. w_is L (x.first + k) in
      let wide = joined_length K.elements x.c _ _ ws in
      let w'' = over_is K.elements x.c _ _ ws w' in
      let m = (scalar_end W ordered).start.records y.0 ∷ (scalar_end W ordered).start.w ∷ [] in
      scalar-online _ _ x.first x.c w'
      ∙ ap scalar_on_return (scalar-step W ordered
      (record { first = x.first; count = x.c; out = record { layer = y.0; below = y.1; out = w' } }))
      ∙ sym (answer-one scalar_on_return m _ _ w' (page.joined x.c (λ k. says.sum_of alone.w L (x.first + k))) (λ n. refl)
      (λ i. page.returned 0 (wide i ∷ []) m (w'' i ∷ []))
      (more _ _ _ refl (more _ _ _ (room_is w' wide) no-tests)))

  -- a listed call on all memory of its end
  noise-one : (y : says.LayerCall L.k)
      → (says.noise_on L O y.0).online noise_memory y.2 ≡ alone.listed (on noise_memory (says.noise_on L O y.0)) I.outputs y.2
  noise-one y =
      let x = y.2 in
      let E = (noise_end W ordered).start in
      let e = record_at E.records y.0 y.1 in
      let call : List ℕ → page.Return = λ s.
      page.noise_online s E.noise E.v x.first x.c (part 0 x.buffers) (part 1 x.buffers) in
      ap (λ (n : ℕ). says.with_records y.0 noise_records (call (get_or noise_memory n []))) (two_more y.0)
      ∙ ap (says.with_records y.0 noise_records)
      (ap call e ∙ noise-read y
      ∙ sym (ap (λ (s : List ℕ). alone.listed (on (s ∷ E.noise ∷ E.v ∷ []) (says.noise_on L O 0)) I.outputs x) e))
      ∙ with-records y.0 noise_records (E.noise ∷ E.v ∷ []) (subst (λ (n : ℕ). y.0 < n) (sym (records-long E.records)) y.1) _ _
    where
      two_more : (i : ℕ) → 2 + i ≡ suc (suc i)
      two_more i = omega arith

  scalar-one : (y : says.LayerCall L.k)
      → (says.scalar_on L O y.0).online scalar_memory y.2 ≡ alone.listed (on scalar_memory (says.scalar_on L O y.0)) I.outputs y.2
  scalar-one y =
      let x = y.2 in
      let E = (scalar_end W ordered).start in
      let e = record_at E.records y.0 y.1 in
      let call : List ℕ → page.Return = λ s. page.scalar_online s E.w x.first x.c (part 0 x.buffers) in
      ap (λ (n : ℕ). says.with_records y.0 scalar_records (call (get_or scalar_memory n []))) (one_more y.0)
      ∙ ap (says.with_records y.0 scalar_records)
      (ap call e ∙ scalar_read y
      ∙ sym (ap (λ (s : List ℕ). alone.listed (on (s ∷ E.w ∷ []) (says.scalar_on L O 0)) I.outputs x) e))
      ∙ with-records y.0 scalar_records (E.w ∷ []) (subst (λ (n : ℕ). y.0 < n) (sym (records-long E.records)) y.1) _ _
    where
      one_more : (i : ℕ) → 1 + i ≡ suc i
      one_more i = omega arith

  noise-all : (calls : List (says.LayerCall L.k))
      → says.run (says.noise_on L O) (says.noise_on L O 0).memory calls
      ≡ map (λ y. alone.listed (says.noise_on L O y.0) I.outputs y.2) calls
  noise-all =
      run_is (says.noise_on L O) _ _
      (λ y. ap (λ (m : List (List ℕ)). (says.noise_on L O y.0).online m y.2) noise-start ∙ noise-one y
      ∙ sym (ap (λ (m : List (List ℕ)). alone.listed (on m (says.noise_on L O y.0)) I.outputs y.2) noise-start))
      (λ y. inputs_stay _ _ _)

  scalar-all : (calls : List (says.LayerCall L.k))
      → says.run (says.scalar_on L O) (says.scalar_on L O 0).memory calls
      ≡ map (λ y. alone.listed (says.scalar_on L O y.0) I.outputs y.2) calls
  scalar-all =
      run_is (says.scalar_on L O) _ _
      (λ y. ap (λ (m : List (List ℕ)). (says.scalar_on L O y.0).online m y.2) scalar-start ∙ scalar-one y
      ∙ sym (ap (λ (m : List (List ℕ)). alone.listed (on m (says.scalar_on L O y.0)) I.outputs y.2) scalar-start))
      (λ y. inputs_stay _ _ _)

  -- a value has as many words as its space is wide
  u_wide : (x : ℕ) → length (says.u_sum L x) ≡ (page.field_of I.field).noise_values.width
  unfolding layered setting
  u_wide x = ap length (u_is L x) ∙ K.noise_values.length-words _ ∙ sym K.noise_values.width

  v_wide : (x : ℕ) → length (says.sum_of alone.v L x) ≡ (page.field_of I.field).elements.width
  unfolding layered setting
  v_wide x = ap length (v_is L x) ∙ K.elements.length-words _ ∙ sym K.elements.width

  w_wide : (x : ℕ) → length (says.sum_of alone.w L x) ≡ (page.field_of I.field).elements.width
  unfolding layered setting
  w_wide x = ap length (w_is L x) ∙ K.elements.length-words _ ∙ sym K.elements.width

  noise-hands : (calls : List (says.LayerCall L.k)) (x : ℕ) (a : List (List ℕ)) → says.HandsOut (says.noise_on L O) calls x a
      → a ≡ says.u_sum L x ∷ says.sum_of alone.v L x ∷ []
  unfolding page.list
  noise-hands calls x a h =
      let c = h.1.2 in
      handed (says.noise_on L O) I.outputs calls (noise-all calls) x a h
      ∙ ap₂ (λ (y z : List ℕ). y ∷ z ∷ [])
      (reads_off (page.field_of I.field).noise_values c.c (λ k. says.u_sum L (c.first + k)) (part 0 c.buffers)
      (λ k. u_wide (c.first + k)) h.3 h.7)
      (reads_off (page.field_of I.field).elements c.c (λ k. says.sum_of alone.v L (c.first + k)) (part 1 c.buffers)
      (λ k. v_wide (c.first + k)) h.3 h.7)
      ∙ ap (λ (y : ℕ). says.u_sum L y ∷ says.sum_of alone.v L y ∷ []) (sym h.8)

  scalar-hands : (calls : List (says.LayerCall L.k)) (x : ℕ) (a : List (List ℕ)) → says.HandsOut (says.scalar_on L O) calls x a
      → a ≡ says.sum_of alone.w L x ∷ []
  unfolding page.list
  scalar-hands calls x a h =
      let c = h.1.2 in
      handed (says.scalar_on L O) I.outputs calls (scalar-all calls) x a h
      ∙ ap (λ (y : List ℕ). y ∷ [])
      (reads_off (page.field_of I.field).elements c.c (λ k. says.sum_of alone.w L (c.first + k)) (part 0 c.buffers)
      (λ k. w_wide (c.first + k)) h.3 h.7)
      ∙ ap (λ (y : ℕ). says.sum_of alone.w L y ∷ []) (sym h.8)

  -- Δ, whole, of each layer
  delta-left : (i : ℕ) → i < L.k
      → alone.wrote (alone.scalar_left (σ i)) 1 ≡ get_or (page.scalar (L.input 0)) 0 0 ∷ get_or (page.scalar (L.input 0)) 1 0 ∷ []
  unfolding layered setting
  delta-left i h =
      ap (λ (r : page.Return). alone.wrote r 1) (one.scalar-left (input_of (L.input i)) (σ i))
      ∙ (layer-lists W ordered [] []).scalar-words i h
      ∙ ap (λ (l : List ℕ). get_or l 0 0 ∷ get_or l 1 0 ∷ []) (sym (scalar-words I))

  all-accepted : (q : ℕ) → q < 3 → (says.added_up L O q).1 ≡ 0
  unfolding layered setting ordered
  all-accepted zero h =
      accepted_is I.field _ (noise_at W) (λ i. ap (part 1) (noise-left i)) (O.order 0) (layer-lists W ordered [] []).noise-added
  all-accepted (suc zero) h =
      accepted_is I.field _ (v_at W) (λ i. ap (part 2) (noise-left i)) (O.order 1) (layer-lists W ordered [] []).v_added
  all-accepted (suc (suc zero)) h =
      accepted_is I.field _ (w_at W) (λ i. ap (part 1) (scalar-left i)) (O.order 2) (layer-lists W ordered [] []).w_added
  all-accepted (suc (suc (suc q))) h = absurd (omega arith)

  lists : (noise_calls scalar_calls : List (says.LayerCall L.k)) → says.LayersClaim L O noise_calls scalar_calls
  lists noise_calls scalar_calls =
      record {
        accepted = all-accepted;
        noise_returns = noise-all noise_calls;
        scalar_returns = scalar-all scalar_calls;
        noise_hands = noise-hands noise_calls;
        scalar_hands = scalar-hands scalar_calls;
        scalarΔ = delta-left;
        correlated = λ x u' v' w' h g.
            let e = noise-hands noise_calls x (u' ∷ v' ∷ []) h in
            let F = (page.F (L.input 0).head).elements in
            ap (part 0) (scalar-hands scalar_calls x (w' ∷ []) g) ∙ correlated L x
            ∙ sym (ap₂ (λ (a b : List ℕ). F.plus (F.multiple (get_or a 0 0) (page.scalar (L.input 0))) b) (ap (part 0) e) (ap (part 1) e));
      }

-- ---- in field 1

in_field_1 : (f : ℕ) → f ≡ 1 → (Δ u v w : List ℕ)
    → w ≡ (page.field_of f).elements.plus
    ((page.field_of f).elements.multiple (get_or u 0 0) (page.when◌then◌else◌ (eqb f 1) (page.words Δ) (page.word Δ 0 ∷ []))) v
    → w ≡ (page.blocks).plus ((page.blocks).multiple (get_or u 0 0) (page.words Δ)) v
unfolding page.field_of page.when◌then◌else◌
in_field_1 f one Δ u v w c = rw one at c

-- pad calls of both ends
module _ (L : says.Layered) (one : (L.input 0).head.field ≡ 1)
    (first c : ℕ) (vs choices out : List ℕ) (noise : (page.noise_pads first c vs choices out).number ≡ 0)
    (first' c' : ℕ) (ws out' : List ℕ) (scalar : (page.scalar_pads first' c' ws (L.input 0).Δ out').number ≡ 0)
    (x : ℕ) (below : x < (L.input 0).head.n) (window : (first ≤ x) × (x < first + c)) (window' : (first' ≤ x) × (x < first' + c'))
    (v_lent : page.block_at vs (x - first) ≡ says.sum_of alone.v L x) (u_lent : get_or choices (x - first) 0 ∷ [] ≡ says.u_sum L x)
    (w_lent : page.block_at ws (x - first') ≡ says.sum_of alone.w L x) where
  abbrev J : Input
  J = input_of (L.input 0)

  abbrev Δ : List ℕ
  Δ = (L.input 0).Δ

  abbrev number : page.Return → ℕ
  number r = r.number

  named : take 16 (drop (16 * (x - first)) (alone.slice (page.noise_pads first c vs choices out).outputs 0))
      ≡ take 16 (drop (32 * (x - first') + 16 * get_or choices (x - first) 0) (alone.slice (page.scalar_pads first' c' ws Δ out').outputs 0))
  unfolding layered setting
  named =
      ap (λ (r : page.Return). take 16 (drop (16 * (x - first)) (alone.slice r.outputs 0))) (noise-pads first c vs choices out)
      ∙ pads_of (of_layers (layered L) one)
      first c vs choices out (sym (ap number (noise-pads first c vs choices out)) ∙ noise)
      first' c' ws Δ out' (sym (ap number (scalar-pads first' c' ws Δ out')) ∙ scalar) x below window window'
      (record {
        v_lent = element-lent J vs (x - first) (layers.v (layered L) x) (v_lent ∙ v_is L x);
        u_lent =
            (kind_is J.field).num_same _ _
            ((kind_is J.field).num_read choices (x - first)
            ∙ ap (λ (l : List ℕ). get_or l 0 0) (u_lent ∙ u_is L x ∙ (kind_is J.field).one (layers.u (layered L) x)));
        w_lent = element-lent J ws (x - first') (layers.w (layered L) x) (w_lent ∙ w_is L x);
        Δ-lent = refl;
      })
      ∙ sym (ap (λ (r : page.Return). take 16 (drop (32 * (x - first') + 16 * get_or choices (x - first) 0) (alone.slice r.outputs 0)))
      (scalar-pads first' c' ws Δ out'))

pub layers_hold : says.Layers
layers_hold =
    record {
      outputs = λ L x below. correlated L x;
      lists = lists;
      one = λ L e x. alone_is L x e;
      source = λ L one x below.
          in_field_1 (L.input 0).head.field one (L.input 0).Δ (says.u_sum L x) (says.sum_of alone.v L x) (says.sum_of alone.w L x)
          (correlated L x);
      pads = named;
    }
