-- The page's calls are the library's: offline and online at both ends, and pads.
use Prim.Native.Nat.{ℕ, suc, ◌*◌, ◌^◌}
use mathlib.Core.Path.{◌≡◌, refl, ap, ap₂, ◌∙◌}
use mathlib.Core.Bool.{Bool, true, false, ◌&&◌}
use mathlib.Core.List.{List, [], ◌∷◌, ◌++◌, map}
use lib.Dec.{eqb, leb}
use lib.ListN.{length, drop}
use Rattle.algebra.specs.Choice.{choose}
use Rattle.algebra.specs.Coding.{at}
use Rattle.answer.specs.Tests.{Ask, Test, ◌or◌, is_met, first_fault}
use Rattle.answer.specs.Outcome.{Outcome, TwoWritten, by_number, answered}
use Rattle.window.specs.Head.{field_of}
use Rattle.ends.specs.Noise.Offline as noise_off
use Rattle.ends.specs.Noise.Online as noise_on
use Rattle.ends.specs.Scalar.Offline as scalar_off
use Rattle.ends.specs.Scalar.Online as scalar_on
use Rattle.ends.specs.Scalar.Vectors as scalar_vectors
use Rattle.page.specs.Document01 as page
use Rattle.page.proofs.Fields.{kind_is, accumulated_is, joined_length, noise-length, over_is}
use Rattle.page.proofs.Rows.{head, outputs_is, used_is}
use Rattle.page.proofs.Vectors.{mu_is, v0_is, w0_is}
use Rattle.page.proofs.Reading.{noise_is, scalar_is}

-- ---- tests

-- a test's number is not 0, as `k` of `suc k`
pub data Tests : List page.Test → List Test → Type 0 where
  none : Tests [] []
  more : {page-tests : List page.Test} {tests : List Test} (ask : Ask) (k : ℕ) (ok : Bool) → ok ≡ is_met ask → Tests page-tests tests
      → Tests (page.◌otherwise◌ ok (suc k) ∷ page-tests) (ask or suc k ∷ tests)

module _ {O : Type 0} (o : O → page.Return) (inputs : List (List ℕ)) (refusal : ℕ → O) (acceptance : O) where
  answer_is : (outputs : List page.Output)
      → ((n : ℕ) → page.refused inputs (map (λ (buffer, l). buffer) outputs) n ≡ o (refusal n)) → page.answer inputs outputs [] ≡ o acceptance
      → {page-tests : List page.Test} {tests : List Test} → Tests page-tests tests
      → page.answer inputs outputs page-tests ≡ o (answered tests refusal acceptance)
  unfolding page.answer answered by_number first_fault page.when◌then◌else◌
  answer_is outputs f e none = e
  answer_is outputs f e (more {page-tests} {tests} ask k ok m rest) =
      ap (λ (t : Bool). page.when◌then◌else◌ t (page.answer inputs outputs page-tests) (page.refused inputs (map (λ (buffer, l). buffer) outputs) (suc k))) m
      ∙ go (is_met ask) (answer_is outputs f e rest)
    where
      go : (t : Bool) → page.answer inputs outputs page-tests ≡ o (answered tests refusal acceptance)
          → page.when◌then◌else◌ t (page.answer inputs outputs page-tests) (page.refused inputs (map (λ (buffer, l). buffer) outputs) (suc k))
          ≡ o (by_number (choose t (first_fault tests) (suc k)) refusal acceptance)
      go true h = h
      go false h = f (suc k)

  -- a call with one output buffer, and with two
  pub answer-one : (a l : List ℕ) → ((n : ℕ) → page.returned n (0 ∷ []) inputs (a ∷ []) ≡ o (refusal n))
      → page.returned 0 (length l ∷ []) inputs (page.front l a ∷ []) ≡ o acceptance
      → {page-tests : List page.Test} {tests : List Test} → Tests page-tests tests
      → page.answer inputs ((a, l) ∷ []) page-tests ≡ o (answered tests refusal acceptance)
  unfolding page.answer
  answer-one a l = answer_is ((a, l) ∷ [])

  pub answer-two : (a l b m : List ℕ) → ((n : ℕ) → page.returned n (0 ∷ 0 ∷ []) inputs (a ∷ b ∷ []) ≡ o (refusal n))
      → page.returned 0 (length l ∷ length m ∷ []) inputs (page.front l a ∷ page.front m b ∷ []) ≡ o acceptance
      → {page-tests : List page.Test} {tests : List Test} → Tests page-tests tests
      → page.answer inputs ((a, l) ∷ (b, m) ∷ []) page-tests ≡ o (answered tests refusal acceptance)
  unfolding page.answer
  answer-two a l b m = answer_is ((a, l) ∷ (b, m) ∷ [])

-- room for as many words
pub room_is : {a b : ℕ} (buffer : List ℕ) → a ≡ b → leb a (length buffer) ≡ leb b (length buffer)
room_is buffer e = ap (λ (x : ℕ). leb x (length buffer)) e

-- ---- the noise end's offline call

abbrev pub noise_off_return : Outcome TwoWritten noise_off.OfflineLent → page.Return
noise_off_return o =
    page.returned o.number (o.written.first_written ∷ o.written.second_written ∷ []) (o.lent.source ∷ []) (o.lent.noise ∷ o.lent.v ∷ [])

pub noise-offline : (source noise v : List ℕ) → page.noise_offline source noise v ≡ noise_off_return (noise_off.offline source noise v)
unfolding page.noise_offline noise_off.offline noise_off.expanded is_met
noise-offline source noise v =
    noise_is noise_off_return _ _ _ _ _ (λ n. refl)
    (λ P.
    let F = kind_is P.head.field in
    let n = 2 ^ P.head.depth in
    let mu = accumulated_is F.noise_values _ _ (mu_is P) in
    let vs = accumulated_is F.elements _ _ (v0_is P) in
    let long = noise-length F n _ _ mu in
    let wide = joined_length F.elements n _ _ vs in
    let noise' = over_is F.noise_values n _ _ mu noise in
    let v' = over_is F.elements n _ _ vs v in
    answer-two noise_off_return _ _ _ _ _ _ _ (λ n. refl)
    (λ i. page.returned 0 (long i ∷ wide i ∷ []) (source ∷ []) (noise' i ∷ v' i ∷ []))
    (more _ _ _ (room_is noise long) (more _ _ _ (room_is v wide) none)))
    source

-- ---- the scalar end's offline call

abbrev pub scalar_off_return : Outcome TwoWritten scalar_off.OfflineLent → page.Return
scalar_off_return o =
    page.returned o.number (o.written.first_written ∷ o.written.second_written ∷ []) (o.lent.source ∷ []) (o.lent.w ∷ o.lent.delta ∷ [])

pub scalar-offline : (source w delta : List ℕ) → page.scalar_offline source w delta ≡ scalar_off_return (scalar_off.offline source w delta)
unfolding page.scalar_offline scalar_off.offline scalar_off.expanded is_met page.when◌then◌else◌
scalar-offline source w delta =
    scalar_is scalar_off_return _ _ _ _ _ (λ n. refl)
    (λ P.
    let F = kind_is P.head.field in
    let n = 2 ^ P.head.depth in
    let ws = accumulated_is F.elements _ _ (w0_is P) in
    let wide = joined_length F.elements n _ _ ws in
    let w' = over_is F.elements n _ _ ws w in
    answer-two scalar_off_return _ _ _ _ _ _ _ (λ n. refl)
    (λ i. page.returned 0 (wide i ∷ 2 ∷ []) (source ∷ []) (w' i ∷ (scalar_vectors.delta_out P ++ drop 2 delta) ∷ []))
    (more _ _ _ (room_is w wide) (more _ _ _ refl none)))
    source

-- ---- the noise end's online call

abbrev pub noise_on_return : Outcome TwoWritten noise_on.Lent → page.Return
noise_on_return o =
    page.returned o.number (o.written.first_written ∷ o.written.second_written ∷ [])
    (o.lent.source ∷ o.lent.noise ∷ o.lent.v ∷ []) (o.lent.u_out ∷ o.lent.v_out ∷ [])

pub noise-online : (source noise v : List ℕ) (first count : ℕ) (u_out v_out : List ℕ)
    → page.noise_online source noise v first count u_out v_out ≡ noise_on_return (noise_on.online (noise_on.lent_with source noise v u_out v_out) first count)
unfolding page.noise_online noise_on.online noise_on.filled noise_on.usable is_met
noise-online source noise v first count u_out v_out =
    noise_is noise_on_return _ _ _ _ _ (λ n. refl)
    (λ P.
    let h = P.head in
    let F = kind_is h.field in
    let all = ap (λ (x : ℕ). 2 ^ h.depth * x) F.elements.width in
    let us = outputs_is h first F.noise_values _ _ (F.noise_values.place noise) in
    let vs = outputs_is h first F.elements _ _ (F.elements.place v) in
    let long = noise-length F count _ _ us in
    let wide = joined_length F.elements count _ _ vs in
    let u' = over_is F.noise_values count _ _ us u_out in
    let v' = over_is F.elements count _ _ vs v_out in
    answer-two noise_on_return _ _ _ _ _ _ _ (λ n. refl)
    (λ i. page.returned 0 (long i ∷ wide i ∷ []) (source ∷ noise ∷ v ∷ []) (u' i ∷ v' i ∷ []))
    (more _ _ _ refl
    (more _ _ _ (ap (λ (x : ℕ). eqb (length v) x) all)
    (more _ _ _ refl
    (more _ _ _ (room_is u_out long)
    (more _ _ _ (room_is v_out wide)
    (more _ _ _
    (used_is h first count _ _ λ j.
    ap₂ ◌&&◌ (ap (page.F (head h)).noise_values.is_value (F.noise_values.place noise j) ∙ F.noise_values.is_value (at (field_of h).noise_values noise j))
    (ap (page.F (head h)).elements.is_value (F.elements.place v j) ∙ F.elements.is_value (at (field_of h).elements v j))) none)))))))
    source

-- ---- the scalar end's online call

abbrev pub scalar_on_return : Outcome ℕ scalar_on.Lent → page.Return
scalar_on_return o = page.returned o.number (o.written ∷ []) (o.lent.source ∷ o.lent.w ∷ []) (o.lent.w_out ∷ [])

pub scalar-online : (source w : List ℕ) (first count : ℕ) (w_out : List ℕ)
    → page.scalar_online source w first count w_out ≡ scalar_on_return (scalar_on.online (scalar_on.lent_with source w w_out) first count)
unfolding page.scalar_online scalar_on.online scalar_on.filled scalar_on.usable is_met
scalar-online source w first count w_out =
    scalar_is scalar_on_return _ _ _ _ _ (λ n. refl)
    (λ P.
    let h = P.head in
    let F = kind_is h.field in
    let all = ap (λ (x : ℕ). 2 ^ h.depth * x) F.elements.width in
    let ws = outputs_is h first F.elements _ _ (F.elements.place w) in
    let wide = joined_length F.elements count _ _ ws in
    let w' = over_is F.elements count _ _ ws w_out in
    answer-one scalar_on_return _ _ _ _ _ (λ n. refl)
    (λ i. page.returned 0 (wide i ∷ []) (source ∷ w ∷ []) (w' i ∷ []))
    (more _ _ _ (ap (λ (x : ℕ). eqb (length w) x) all)
    (more _ _ _ refl
    (more _ _ _ (room_is w_out wide)
    (more _ _ _
    (used_is h first count _ _ λ j.
    ap (page.F (head h)).elements.is_value (F.elements.place w j) ∙ F.elements.is_value (at (field_of h).elements w j)) none)))))
    source
