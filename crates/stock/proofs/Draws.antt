-- Draws alone: a caller's numbers for draws and, before any accepted passage, its replies to them do not depend on previews, its own
-- among them. It follows from what two lists that are alike for a caller have in common, on the lists without previews.
use mathlib.Core.Path.{◌≡◌, refl, sym, ap, ◌∙◌}
use mathlib.Core.Bool.{Bool, true, false, ◌&&◌, ◌||◌, false≢true}
use mathlib.Core.List.{List, [], ◌∷◌}
use Prim.Native.Nat.{ℕ}
use lib.Dec.{eqb}
use Rattle.answer.specs.Numbers.{accepted}
use Rattle.stock.specs.declared.Stock.{Stock}
use Rattle.stock.specs.Lists.{Call, draws, previews, passes, StockMade, make, calls_made, those, any_of, draws_of, asks_of, no_preview, a_passage, accepted_passage, replies, reply_numbers, calls_of, asked, concerns, drew, drew_or_passed, SameDraws}
use Rattle.stock.proofs.Cases.{by_test}
use Rattle.stock.proofs.Blocks.{Well}
use Rattle.stock.proofs.Callers.{numbers-alike, replies-alike}
use Rattle.stock.proofs.Picked.{some_in, some_out}
use Rattle.stock.proofs.Runs.{previews_nothing}
use Rattle.stock.proofs.Steps.{make-call}

-- ---- picked twice, and none picked

module _ {A : Type 0} where
  those-those : (p q r : A → Bool) → ((a : A) → (q a && p a) ≡ r a) → (l : List A) → those p (those q l) ≡ those r l
  unfolding those
  those-those p q r both [] = refl
  those-those p q r both (a ∷ l) =
      let ih = those-those p q r both l in
      let e = both a in
      by_test (q a) (λ y. by_test (p a) (λ t. rw (← e, y, t, ih)) (λ t. rw (← e, y, t) ih)) (λ n. rw (← e, n) ih)

  some-none : (p : A → Bool) (l : List A) → those p l ≡ [] → any_of p l ≡ false
  unfolding any_of those
  some-none p [] e = refl
  some-none p (a ∷ l) e =
      by_test (p a) (λ y. cc) (λ n. some_out p a l n ∙ some-none p l (cc))

  none-some : (p : A → Bool) (l : List A) → any_of p l ≡ false → those p l ≡ []
  unfolding those
  none-some p [] e = refl
  none-some p (a ∷ l) e =
      by_test (p a) (λ y. absurd (false≢true (sym e ∙ some_in p a l y))) (λ n. rw n (none-some p l (sym (some_out p a l n) ∙ e)))

  those_or : (p q : A → Bool) (l : List A) → any_of q l ≡ false → those (λ a. p a || q a) l ≡ those p l
  unfolding those any_of
  those_or p q [] e = refl
  those_or p q (a ∷ l) e =
      by_test (q a) (λ y. cc) (λ n. let ih = those_or p q l (cc) in by_test (p a) (λ t. rw (t, ih)) (λ t. rw (t, n) ih))

-- ---- the calls of a list that is made

calls-run : (p : Call → Bool) (s : Stock) (calls : List Call) → calls_of (those (λ m. p m.call) (calls_made s calls)) ≡ those p calls
unfolding calls_made those calls_of
calls-run p s [] = refl
calls-run p s (c ∷ calls) =
    let ih = calls-run p (make s c).after calls in
    let e = make-call s c in
    by_test (p c) (λ y. rw (e, y, ih)) (λ n. rw (e, n) ih)

-- a list of picked calls alone
alone : (p : Call → Bool) (q : StockMade → Bool) → ((s : Stock) (c : Call) → p c ≡ true → q (make s c) ≡ true) → (s : Stock) (calls : List Call)
    → those q (calls_made s (those p calls)) ≡ calls_made s (those p calls)
unfolding calls_made those
alone p q all s [] = refl
alone p q all s (c ∷ calls) = by_test (p c) (λ y. rw (y, all s c y, alone p q all (make s c).after calls)) (λ n. rw n (alone p q all s calls))

-- ---- a caller's draws

-- all but previews
abbrev not_previewed : StockMade → Bool
not_previewed m = no_preview m.call

drew-both : (k : ℕ) (c : Call) → (no_preview c && asks_of k c) ≡ draws_of k c
drew-both k (draws l j c) = refl
drew-both k (previews l j c) = refl
drew-both k (passes l n) = refl

passed_both : (k : ℕ) (c : Call) (t : Bool) → (no_preview c && (asks_of k c || (a_passage c && t))) ≡ (draws_of k c || (a_passage c && t))
passed_both k (draws l j c) t = refl
passed_both k (previews l j c) t = refl
passed_both k (passes l n) t = refl

passage_both : (c : Call) (t : Bool) → (no_preview c && (a_passage c && t)) ≡ (a_passage c && t)
passage_both (draws l j c) t = refl
passage_both (previews l j c) t = refl
passage_both (passes l n) t = refl

draws-asks : (k : ℕ) (c : Call) → draws_of k c ≡ true → asks_of k c ≡ true
draws-asks k (draws l j c) y = y
draws-asks k (previews l j c) y = absurd (false≢true y)
draws-asks k (passes l n) y = absurd (false≢true y)

module _ (first : Stock) (W : Well first) (k : ℕ) where
  -- the list without previews
  struck_run : (p r : StockMade → Bool) → ((m : StockMade) → (not_previewed m && p m) ≡ r m) → (calls : List Call)
      → those p (calls_made first (those no_preview calls)) ≡ those r (calls_made first calls)
  struck_run p r both calls = cc ((previews_nothing first calls).others, those-those p not_previewed r both (calls_made first calls))

  drew-run : (calls : List Call) → those (asked k) (calls_made first (those no_preview calls)) ≡ those (drew k) (calls_made first calls)
  drew-run = struck_run (asked k) (drew k) (λ m. drew-both k m.call)

  concerns-run : (calls : List Call) → those (concerns k) (calls_made first (those no_preview calls)) ≡ those (drew_or_passed k) (calls_made first calls)
  concerns-run = struck_run (concerns k) (drew_or_passed k) (λ m. passed_both k m.call (eqb m.reply.number accepted))

  -- the accepted passages and its own draws, in their order, decide a caller's numbers for draws
  pub numbers_of_draws : (calls other : List Call) → SameDraws k (calls_made first calls) (calls_made first other)
      → reply_numbers (those (drew k) (calls_made first calls)) ≡ reply_numbers (those (drew k) (calls_made first other))
  numbers_of_draws calls other same =
      let alike = ap calls_of (concerns-run calls) ∙ same ∙ sym (ap calls_of (concerns-run other)) in
      cc (drew-run calls, drew-run other, numbers-alike k first W (those no_preview calls) (those no_preview other) alike)

  -- before any accepted passage, a caller's replies to draws are those of the list with all but its own draws struck out
  pub replies_of_draws : (calls : List Call) → any_of accepted_passage (calls_made first calls) ≡ false
      → replies (those (drew k) (calls_made first calls)) ≡ replies (calls_made first (those (draws_of k) calls))
  replies_of_draws calls none =
      let struck = those (draws_of k) calls in
      let mine : (s : Stock) (c : Call) → draws_of k c ≡ true → asked k (make s c) ≡ true = λ s c y. ap (asks_of k) (make-call s c) ∙ draws-asks k c y in
      let kept : calls_of (those (concerns k) (calls_made first struck)) ≡ struck =
      ap calls_of (alone (draws_of k) (concerns k) (λ s c y. rw (mine s c y)) first calls)
      ∙ ap calls_of (sym (alone (draws_of k) (drew k) (λ s c y. ap (draws_of k) (make-call s c) ∙ y) first calls))
      ∙ calls-run (draws_of k) first struck
      ∙ those-those (draws_of k) (draws_of k) (draws_of k) (λ c. by_test (draws_of k c) (λ t. rw t) (λ t. rw t)) calls in
      let alike =
      ap calls_of (concerns-run calls)
      ∙ ap calls_of (those_or (drew k) accepted_passage (calls_made first calls) none)
      ∙ calls-run (draws_of k) first calls ∙ sym kept in
      let passed = struck_run accepted_passage accepted_passage (λ m. passage_both m.call (eqb m.reply.number accepted)) calls in
      let without = some-none accepted_passage _ (passed ∙ none-some accepted_passage (calls_made first calls) none) in
      let same = replies-alike k first W (those no_preview calls) struck alike without in
      cc (drew-run calls, alone (draws_of k) (asked k) mine first calls)
