-- The page's expansion for the bench is the library's (request 11).
use Prim.Native.Nat.{ℕ, ◌+◌, ◌^◌}
use mathlib.Core.Path.{◌≡◌, refl, sym, ap, ap₂, ◌∙◌}
use mathlib.Core.List.{List, [], ◌∷◌}
use lib.Dec.{leb}
use lib.ListN.{get_or}
use Rattle.algebra.specs.Coding.{Coding}
use Rattle.algebra.specs.Group.{Scaled}
use Rattle.algebra.specs.Row as rows
use Rattle.answer.specs.Tests.{is_met}
use Rattle.answer.specs.Outcome.{Outcome, TwoWritten, outcome_one, outcome_two}
use Rattle.answer.specs.declared.OneLength.{OneLength}
use Rattle.answer.specs.declared.TwoLengths.{TwoLengths}
use Rattle.code.specs.Row.{row_of_blocks}
use Rattle.ends.specs.Noise.Bench as noise_bench
use Rattle.ends.specs.Scalar.Bench as scalar_bench
use Rattle.record.specs.Content.{Head}
use Rattle.window.specs.Head.{field_of, row}
use Rattle.page.specs.Document01 as page
use Rattle.page.proofs.Basics.{if_both}
use Rattle.page.proofs.Calls.{none, more, answer-one, answer-two, room_is}
use Rattle.page.proofs.Fields.{SpaceIs, kind_is, sum_is, joined_length, noise-length, over_is}
use Rattle.page.proofs.Reading.{noise_is, scalar_is}
use Rattle.page.proofs.Rows.{head, place_is, coefficient_is}
use Rattle.page.proofs.Vectors.{mu_is, v0_is, w0_is}
use Rattle.page_two.specs.Document02 as page2

module _ (h : Head) (x : ℕ) where
  abbrev entry : ℕ → ℕ
  entry j =
      get_or (page.sum (page.F (head h)).noise_values h.terms λ i.
      page.when◌then◌else◌ (leb j (page.place (head h) x i))
      ((page.F (head h)).coefficient (page.word (page.term (head h) x i) 8) ∷ []) (0 ∷ [])) 0 0

  entry_is : (j : ℕ) → entry j ≡ (kind_is h.field).num (rows.entry (row h x) j)
  unfolding rows.entry row_of_blocks
  entry_is j =
      let F = kind_is h.field in
      let words = (field_of h).noise_values.words in
      ap (λ (l : List ℕ). get_or l 0 0)
      (sum_is F.noise_values h.terms _ _ (λ i.
      ap₂ (λ (q c : ℕ). page.when◌then◌else◌ (leb j q) (c ∷ []) (0 ∷ [])) (place_is h x i) (coefficient_is h x i)
      ∙ if_both (λ a b. a ≡ words b) (leb j ((row h x).place i)) _ _ _ _ (sym (F.one ((row h x).coefficient i))) F.none)
      ∙ F.one (rows.entry (row h x) j))

  row-times : {S : page.Space} {G : Scaled (field_of h).ring} {C : Coding G.group.Of} → SpaceIs S G C (kind_is h.field).num
      → (f : ℕ → List ℕ) (g : ℕ → G.group.Of) → ((i : ℕ) → f i ≡ C.words (g i))
      → page2.row_times S (head h) f x ≡ C.words (rows.row_times G (2 ^ h.depth) (rows.entry (row h x)) g)
  unfolding page2.row_times rows.row_times
  row-times {S} {G} same f g e =
      sum_is same (2 ^ h.depth) _ _ (λ j. ap₂ S.multiple (entry_is j) (e j) ∙ same.multiple (rows.entry (row h x) j) (g j))

abbrev pub noise_return : Outcome TwoWritten noise_bench.Lent → page.Return
noise_return o =
    page.returned o.number (o.written.first_written ∷ o.written.second_written ∷ [])
    (o.lent.source ∷ []) (o.lent.u_out ∷ o.lent.v_out ∷ [])

pub noise-direct : (source : List ℕ) (first count : ℕ) (u_out v_out : List ℕ)
    → page2.noise_direct source first count u_out v_out
    ≡ noise_return (noise_bench.bench_expansion (noise_bench.lent_with source u_out v_out) first count)
unfolding page2.noise_direct noise_bench.bench_expansion noise_bench.bench_window noise_bench.filled noise_bench.u_at noise_bench.v_at is_met
noise-direct source first count u_out v_out =
    noise_is noise_return _ _ _ _ _ (λ n. refl)
    (λ P.
    let F = kind_is P.head.field in
    let us : (k : ℕ) → _ = λ (k : ℕ). row-times P.head (first + k) F.noise_values _ _ (mu_is P) in
    let vs : (k : ℕ) → _ = λ (k : ℕ). row-times P.head (first + k) F.elements _ _ (v0_is P) in
    let long = noise-length F count _ _ us in
    let wide = joined_length F.elements count _ _ vs in
    let u' = over_is F.noise_values count _ _ us u_out in
    let v' = over_is F.elements count _ _ vs v_out in
    answer-two noise_return _ _ _ _ _ _ _ (λ n. refl)
    (λ i. page.returned 0 (long i ∷ wide i ∷ []) (source ∷ []) (u' i ∷ v' i ∷ []))
    (more _ _ _ refl (more _ _ _ (room_is u_out long) (more _ _ _ (room_is v_out wide) none))))
    source

abbrev pub scalar_return : Outcome ℕ scalar_bench.Lent → page.Return
scalar_return o = page.returned o.number (o.written ∷ []) (o.lent.source ∷ []) (o.lent.w_out ∷ [])

pub scalar-direct : (source : List ℕ) (first count : ℕ) (w_out : List ℕ)
    → page2.scalar_direct source first count w_out ≡ scalar_return (scalar_bench.bench_expansion (scalar_bench.lent_with source w_out) first count)
unfolding page2.scalar_direct scalar_bench.bench_expansion scalar_bench.bench_window scalar_bench.filled scalar_bench.w_at is_met
scalar-direct source first count w_out =
    scalar_is scalar_return _ _ _ _ _ (λ n. refl)
    (λ P.
    let F = kind_is P.head.field in
    let ws : (k : ℕ) → _ = λ (k : ℕ). row-times P.head (first + k) F.elements _ _ (w0_is P) in
    let wide = joined_length F.elements count _ _ ws in
    let w' = over_is F.elements count _ _ ws w_out in
    answer-one scalar_return _ _ _ _ _ (λ n. refl) (λ i. page.returned 0 (wide i ∷ []) (source ∷ []) (w' i ∷ []))
    (more _ _ _ refl (more _ _ _ (room_is w_out wide) none)))
    source

pub noise_direct_returned : (r : TwoLengths) (first count : ℕ) (s u v s' u' v' : List ℕ)
    → outcome_two r (noise_bench.lent_with s' u' v') ≡ noise_bench.bench_expansion (noise_bench.lent_with s u v) first count
    → page.returned r.number (r.first_written ∷ r.second_written ∷ []) (s' ∷ []) (u' ∷ v' ∷ [])
    ≡ page2.noise_direct s first count u v
noise_direct_returned r first count s u v s' u' v' e = ap noise_return e ∙ sym (noise-direct s first count u v)

pub scalar_direct_returned : (r : OneLength) (first count : ℕ) (s w s' w' : List ℕ)
    → outcome_one r (scalar_bench.lent_with s' w') ≡ scalar_bench.bench_expansion (scalar_bench.lent_with s w) first count
    → page.returned r.number (r.written ∷ []) (s' ∷ []) (w' ∷ []) ≡ page2.scalar_direct s first count w
scalar_direct_returned r first count s w s' w' e = ap scalar_return e ∙ sym (scalar-direct s first count w)
