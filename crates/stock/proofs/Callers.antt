-- What concerns a caller decides its numbers, and without an accepted passage its replies, by induction over the list: a model of
-- the caller alone gives what its replies show.
use mathlib.Core.Path.{◌≡◌, refl, sym, ap, ap₂, subst, ◌∙◌}
use mathlib.Core.Bool.{Bool, true, false, false≢true}
use mathlib.Core.List.{List, [], ◌∷◌}
use mathlib.Core.Logic.{⊎_elim}
use Prim.Native.Nat.{ℕ, zero, suc, ◌+◌, ◌-◌}
use native.Mathlib.Omega.{arith}
use lib.Dec.{eqb, eqb-suc-zero}
use borrow.Author.Tests.{eqb-true, eq-eqb}
use Rattle.algebra.proofs.Tests.{and_left}
use Rattle.algebra.specs.Choice.{choose}
use Rattle.answer.specs.Numbers.{no_caller, share_spent, label_not_in_use}
use Rattle.answer.specs.Tests.{◌is◌, ◌at_most◌, holds, ◌or◌, first_fault}
use Rattle.answer.specs.Outcome.{by_number, answered}
use Rattle.stock.specs.declared.Label.{Label}
use Rattle.stock.specs.declared.Stock.{Stock}
use Rattle.stock.specs.Label.{number_of}
use Rattle.stock.specs.Stock.{is_caller, next_of, remaining, share_blocks}
use Rattle.stock.specs.Calls.{draw_tests, refused_draw, accepted_draw, draw, preview}
use Rattle.stock.specs.Lists.{Call, draws, previews, passes, Reply, StockMade, make, calls_made, those, any_of, draws_of, asks_of, a_passage, accepted_passage, handed_by, replies, reply_numbers, calls_of, asked, concerns, AlikeFor}
use Rattle.stock.proofs.Cases.{by_test}
use Rattle.stock.proofs.Blocks.{Well, Fresh, pass_cases}
use Rattle.stock.proofs.Picked.{some_in, some_out}
use Rattle.stock.proofs.Steps.{Stayed, kept, stayed_draw, stayed_preview, stayed_stale, moved_passed, make-call}

-- ---- a caller alone

-- the number of a caller's draw, by whether there is such a caller, the number of the label in use, and what the caller holds
number_by : Bool → ℕ → ℕ → Label → ℕ → ℕ
number_by known L left l c = first_fault (number_of l is L or label_not_in_use ∷ holds known or no_caller ∷ c at_most left or share_spent ∷ [])

-- what an accepted call hands out, by its number
abbrev given : ℕ → ℕ → ℕ
given number n = by_number number (λ k. 0) n

-- its reply, by its next index too
abbrev reply_by : Bool → ℕ → ℕ → ℕ → Label → ℕ → Reply
reply_by known L next left l c =
    record {
      number = number_by known L left l c;
      first = given (number_by known L left l c) next;
      count = given (number_by known L left l c) c;
    }

module _ {A : Type 0} (look : Reply → A) where
  -- what the draws and previews in a list of what concerns a caller show
  looks_by : Bool → ℕ → ℕ → ℕ → List Call → List A
  looks_by known L next left [] = []
  looks_by known L next left (draws l j c ∷ calls) =
      look (reply_by known L next left l c)
      ∷ looks_by known L (next + given (number_by known L left l c) c) (left - given (number_by known L left l c) c) calls
  looks_by known L next left (previews l j c ∷ calls) = look (reply_by known L next left l c) ∷ looks_by known L next left calls
  looks_by known L next left (passes l n ∷ calls) = looks_by known (number_of l) next left calls

  -- no first index shows
  abbrev Blind : Type 0
  Blind = (known : Bool) (L next from left : ℕ) (l : Label) (c : ℕ) → look (reply_by known L next left l c) ≡ look (reply_by known L from left l c)

  blind_by : Blind → (known : Bool) (L next from left : ℕ) (calls : List Call) → looks_by known L next left calls ≡ looks_by known L from left calls
  unfolding looks_by
  blind_by b known L next from left [] = refl
  blind_by b known L next from left (draws l j c ∷ calls) =
      ap₂ (λ (a : A) (r : List A). a ∷ r) (b known L next from left l c) (blind_by b known L _ _ _ calls)
  blind_by b known L next from left (previews l j c ∷ calls) =
      ap₂ (λ (a : A) (r : List A). a ∷ r) (b known L next from left l c) (blind_by b known L next from left calls)
  blind_by b known L next from left (passes l n ∷ calls) = blind_by b known (number_of l) next from left calls

  -- what a stock shows a caller of a list of what concerns it
  abbrev sees : ℕ → Stock → List Call → List A
  sees k s calls = looks_by (is_caller s k) (number_of s.label) (next_of s k) (remaining s k) calls

-- ---- one call

same_caller : (s t : Stock) (k : ℕ) → t.callers ≡ s.callers → is_caller t k ≡ is_caller s k
unfolding is_caller
same_caller s t k e = rw e

-- a made call is caller k's exactly if the call is
asked-call : (k : ℕ) (s : Stock) (c : Call) (t : Bool) → asks_of k c ≡ t → asked k (make s c) ≡ t
asked-call k s c t e = ap (asks_of k) (make-call s c) ∙ e

-- what is none of its draws and previews is no draw of it
asks-draws : (k : ℕ) (c : Call) → asks_of k c ≡ false → draws_of k c ≡ false
asks-draws k (draws l j c) n = n
asks-draws k (previews l j c) n = refl
asks-draws k (passes l n) e = refl

asks_passage : (k : ℕ) (c : Call) → asks_of k c ≡ true → a_passage c ≡ false
asks_passage k (draws l j c) y = refl
asks_passage k (previews l j c) y = refl
asks_passage k (passes l n) y = absurd (false≢true y)

-- the reply to a draw and to a preview of it
draw-reply : (k : ℕ) (s : Stock) (l : Label) (c : ℕ)
    → (make s (draws l k c)).reply ≡ reply_by (is_caller s k) (number_of s.label) (next_of s k) (remaining s k) l c
unfolding make draw answered by_number number_by
draw-reply k s l c = by_number_lem (first_fault (draw_tests s l k c))
  where
    by_number_lem : (n : ℕ) → let d = by_number n (refused_draw s) (accepted_draw s k c) in
        ◌≡◌ {A = Reply} (record { number = d.number; first = d.first; count = d.count })
        (record { number = n; first = given n (next_of s k); count = given n c })
    by_number_lem zero = refl
    by_number_lem (suc n) = refl

pub preview-reply : (k : ℕ) (s : Stock) (l : Label) (c : ℕ) → (make s (previews l k c)).reply ≡ (make s (draws l k c)).reply
unfolding make preview
preview-reply k s l c = refl

draw-part : (k : ℕ) (s : Stock) (l : Label) (c : ℕ)
    → handed_by (draws_of k) (make s (draws l k c)) ≡ given (number_by (is_caller s k) (number_of s.label) (remaining s k) l c) c
unfolding by_number
draw-part k s l c =
    rw (make-call s (draws l k c), draw-reply k s l c, eq-eqb k k refl)
    (handed_out (number_by (is_caller s k) (number_of s.label) (remaining s k) l c))
  where
    handed_out : (n : ℕ) → choose (eqb n 0) (given n c) 0 ≡ given n c
    handed_out zero = refl
    handed_out (suc n) = rw (eqb-suc-zero n)

moved_label : (s : Stock) (l : Label) (n : ℕ) → Fresh s l n → (make s (passes l n)).after.label ≡ l
unfolding make share_blocks
moved_label s l n f = rw f.gave

-- ---- every list

-- what made calls show: a list with what each reply shows
module _ {A : Type 0} (look : Reply → A) (shown : List StockMade → List A) (none : shown [] ≡ [])
    (more : (m : StockMade) (h : List StockMade) → shown (m ∷ h) ≡ look m.reply ∷ shown h) (k : ℕ) where
  -- caller k's replies show what the model gives
  abbrev ByModel : Stock → List Call → Type 0
  ByModel s calls = shown (those (asked k) (calls_made s calls)) ≡ sees look k s (calls_of (those (concerns k) (calls_made s calls)))

  module _ (s : Stock) (W : Well s) where
    -- a call that hands the caller nothing and keeps the label
    sees_on : (c : Call) → draws_of k c ≡ false → Stayed s (make s c) → (calls : List Call) → sees look k (make s c).after calls ≡ sees look k s calls
    sees_on c n S calls =
        let m = make s c in
        let nothing : handed_by (draws_of k) m ≡ 0 = rw (make-call s c, n) in
        let next : next_of m.after k ≡ next_of s k = let e = S.next k in omega arith in
        let left : remaining m.after k ≡ remaining s k = let e = (kept s W c).remaining k in omega arith in
        cc (same_caller s m.after k (kept s W c).callers, S.label, next, left)

    -- a call that does not concern the caller
    by_skip : (c : Call) (calls : List Call) → asks_of k c ≡ false → Stayed s (make s c) → ByModel (make s c).after calls → ByModel s (c ∷ calls)
    unfolding calls_made those
    by_skip c calls n S ih =
        let rest = calls_of (those (concerns k) (calls_made (make s c).after calls)) in
        rw (asked-call k s c false n, S.not_passed) (ih ∙ sees_on c (asks-draws k c n) S rest)

    -- a draw and a preview of the caller
    by_draw : (l : Label) (c : ℕ) (calls : List Call) → ByModel (make s (draws l k c)).after calls → ByModel s (draws l k c ∷ calls)
    unfolding calls_made those calls_of looks_by
    by_draw l c calls ih =
        let d = draws l k c in
        let m = make s d in
        let S = stayed_draw s W l k c in
        let p = draw-part k s l c in
        let n = number_by (is_caller s k) (number_of s.label) (remaining s k) l c in
        let left : remaining m.after k ≡ remaining s k - given n c = let h = (kept s W d).remaining k in omega arith in
        let same = same_caller s m.after k (kept s W d).callers in
        let h = calls_made m.after calls in
        let next : next_of m.after k ≡ next_of s k + given n c = let e = S.next k in omega arith in
        let on : sees look k m.after (calls_of (those (concerns k) h))
        ≡ looks_by look (is_caller s k) (number_of s.label) (next_of s k + given n c) (remaining s k - given n c) (calls_of (those (concerns k) h)) =
        cc (same, S.label, next, left) in
        rw (asked-call k s d true (eq-eqb k k refl), more m (those (asked k) h), make-call s d, draw-reply k s l c)
        (ap (λ (t : List A). look (reply_by (is_caller s k) (number_of s.label) (next_of s k) (remaining s k) l c) ∷ t) (ih ∙ on))

    by_preview : (l : Label) (c : ℕ) (calls : List Call) → ByModel (make s (previews l k c)).after calls → ByModel s (previews l k c ∷ calls)
    unfolding calls_made those calls_of looks_by
    by_preview l c calls ih =
        let d = previews l k c in
        let m = make s d in
        let h = calls_made m.after calls in
        let on = sees_on d refl (stayed_preview s W l k c) (calls_of (those (concerns k) h)) in
        rw (asked-call k s d true (eq-eqb k k refl), more m (those (asked k) h), make-call s d, preview-reply k s l c, draw-reply k s l c) (cc)

    -- a draw or preview of any caller
    by_asker : (d : ℕ → Call) (j : ℕ) (calls : List Call) → asks_of k (d j) ≡ eqb k j → Stayed s (make s (d j))
        → (ByModel (make s (d k)).after calls → ByModel s (d k ∷ calls)) → ByModel (make s (d j)).after calls → ByModel s (d j ∷ calls)
    by_asker d j calls e S own ih =
        by_test (eqb k j)
        (λ y. subst (λ (x : ℕ). ByModel (make s (d x)).after calls → ByModel s (d x ∷ calls)) (eqb-true k j y) own ih)
        (λ n. by_skip (d j) calls (e ∙ n) S ih)

    -- an accepted passage, after which the first index is another
    by_pass : (l : Label) (n : ℕ) (calls : List Call) → Fresh s l n → Blind look
        → ByModel (make s (passes l n)).after calls → ByModel s (passes l n ∷ calls)
    unfolding calls_made those calls_of looks_by
    by_pass l n calls f b ih =
        let d = passes l n in
        let m = make s d in
        let nothing : handed_by (draws_of k) m ≡ 0 = rw (make-call s d) in
        let left : remaining m.after k ≡ remaining s k = let e = (kept s W d).remaining k in omega arith in
        let rest = calls_of (those (concerns k) (calls_made m.after calls)) in
        let blind = blind_by look b (is_caller s k) (number_of l) (next_of m.after k) (next_of s k) (remaining s k) rest in
        let same = same_caller s m.after k (kept s W d).callers in
        rw (asked-call k s d false refl, moved_passed s W l n f, make-call s d) (cc (ih, blind, same, left, moved_label s l n f))

  -- where a passage is accepted, no first index may show
  by_model : (s : Stock) → Well s → (calls : List Call) → (any_of accepted_passage (calls_made s calls) ≡ true → Blind look) → ByModel s calls
  unfolding calls_made those calls_of looks_by
  by_model s W [] b = none
  by_model s W (draws l j c ∷ calls) b =
      let d = draws l j c in
      let S = stayed_draw s W l j c in
      by_asker s W (λ x. draws l x c) j calls refl S (by_draw s W l c calls)
      (by_model (make s d).after (kept s W d).well calls (λ e. b (some_out accepted_passage (make s d) _ S.not_passed ∙ e)))
  by_model s W (previews l j c ∷ calls) b =
      let d = previews l j c in
      let S = stayed_preview s W l j c in
      by_asker s W (λ x. previews l x c) j calls refl S (by_preview s W l c calls)
      (by_model (make s d).after (kept s W d).well calls (λ e. b (some_out accepted_passage (make s d) _ S.not_passed ∙ e)))
  by_model s W (passes l n ∷ calls) b =
      let d = passes l n in
      let go = by_model (make s d).after (kept s W d).well calls in
      ⊎_elim
      (λ f. let blind = b (some_in accepted_passage (make s d) _ (moved_passed s W l n f)) in by_pass s W l n calls f blind (go (λ e. blind)))
      (λ t. let S = stayed_stale s W l n t in
      by_skip s W d calls refl S (go (λ e. b (some_out accepted_passage (make s d) _ S.not_passed ∙ e))))
      (pass_cases s l n)

-- ---- two lists

-- an accepted passage is among made calls exactly if a passage is among what concerns a caller
some_passed : (k : ℕ) (h : List StockMade) → any_of a_passage (calls_of (those (concerns k) h)) ≡ any_of accepted_passage h
unfolding any_of those calls_of
some_passed k [] = refl
some_passed k (m ∷ h) =
    let ih = some_passed k h in
    by_test (asked k m)
    (λ t. cc (asks_passage k m.call t))
    (λ t. by_test (accepted_passage m) (λ y. cc (and_left (a_passage m.call) _ y)) (λ n. cc))

module _ (k : ℕ) (s : Stock) (W : Well s) (calls other : List Call) (same : AlikeFor k (calls_made s calls) (calls_made s other)) where
  alike : {A : Type 0} (look : Reply → A) (shown : List StockMade → List A) (none : shown [] ≡ [])
      (more : (m : StockMade) (h : List StockMade) → shown (m ∷ h) ≡ look m.reply ∷ shown h)
      → (any_of accepted_passage (calls_made s calls) ≡ true → Blind look)
      → shown (those (asked k) (calls_made s calls)) ≡ shown (those (asked k) (calls_made s other))
  alike look shown none more b =
      let model = by_model look shown none more k s W calls b ∙ ap (sees look k s) same in
      let passages = sym (some_passed k (calls_made s calls)) ∙ ap (any_of a_passage) same ∙ some_passed k (calls_made s other) in
      model ∙ sym (by_model look shown none more k s W other (λ e. b (passages ∙ e)))

  pub numbers-alike : reply_numbers (those (asked k) (calls_made s calls)) ≡ reply_numbers (those (asked k) (calls_made s other))
  unfolding reply_numbers
  numbers-alike = alike (λ r. r.number) reply_numbers refl (λ m h. refl) (λ e known L next from left l c. refl)

  pub replies-alike : any_of accepted_passage (calls_made s calls) ≡ false
      → replies (those (asked k) (calls_made s calls)) ≡ replies (those (asked k) (calls_made s other))
  unfolding replies
  replies-alike n = alike (λ r. r) replies refl (λ m h. refl) (λ e. absurd (false≢true (sym n ∙ e)))
