-- The answers of calls by their tests, one law for each return: of a call that tests two buffers for room, and of one whose last test is
-- of what stands in memory.
use mathlib.Core.Path.{◌≡◌, refl, ap₂}
use mathlib.Core.Bool.{Bool, true, false, not}
use mathlib.Core.List.{List, [], ◌∷◌, ◌++◌}
use Prim.Native.Nat.{ℕ, ◌≤◌, ◌<◌}
use borrow.Author.Tests.{ne_eqb, not-true, not-false}
use Rattle.answer.specs.Numbers.{buffer_short, not_element}
use Rattle.answer.specs.Tests.{Test, ◌at_most◌, holds, ◌or◌, first_fault}
use Rattle.answer.specs.Inner.Numbered.{numbered}
use Rattle.answer.specs.Outcome.{Outcome, TwoWritten, answered, refused_two, wrote}
use Rattle.answer.proofs.Answers.{refused-with, refused-two, accepted_now}
use Rattle.answer.proofs.Faults.{held, broken, given_at_most, given_above, fault_here, fault_later, fault_nowhere, fault_before, fault-after}

-- room for a words in one buffer and b words in another, which the code has as m and n
module _ {Lent : Type 0} (lent after : Lent) (a b x y : ℕ) where
  abbrev rooms : Outcome TwoWritten Lent
  rooms = answered (a at_most x or buffer_short ∷ b at_most y or buffer_short ∷ []) (refused_two lent) (wrote (record { first_written = a; second_written = b }) after)

  module _ {m : ℕ} (me : m ≡ a) where
    pub first_short : x < m → refused_two lent buffer_short ≡ rooms
    first_short h = refused-two _ _ buffer_short (fault_here _ buffer_short _ (given_above a x m me h)) refl _

    module _ (h : m ≤ x) {n : ℕ} (ne : n ≡ b) where
      pub second_short : y < n → refused_two lent buffer_short ≡ rooms
      second_short k =
          refused-two _ _ buffer_short (fault_later _ _ _ buffer_short (given_at_most a x m me h) (fault_here _ buffer_short _ (given_above b y n ne k))) refl _

      pub both-written : n ≤ y → {l : Lent} → l ≡ after → wrote {Written = TwoWritten} (record { first_written = m; second_written = n }) l ≡ rooms
      both-written k e =
          accepted_now _ _ _ _ (fault_later _ _ _ 0 (given_at_most a x m me h) (fault_later _ _ [] 0 (given_at_most b y n ne k) fault_nowhere)) (cc (me, ne, e))

-- tests by lengths, whose number the code has as n, and then that of the words in use
module _ {Written Lent : Type 0} (zeros written : Written) (lent after : Lent) (before : List Test) (used : Bool) where
  abbrev refusal : ℕ → Outcome Written Lent
  refusal k = record { number = k; written = zeros; lent = lent }

  abbrev used_last : Outcome Written Lent
  used_last = answered (before ++ (holds used or not_element ∷ [])) refusal (wrote written after)

  module _ {n : ℕ} (number : n ≡ first_fault before) where
    pub lengths-refused : (n ≡ 0 → ⊥) → refusal n ≡ used_last
    lengths-refused h = refused-with _ _ _ _ n (fault_before before _ n number h) (ne_eqb n 0 h) refl

    module _ (ok : numbered before ≡ true) (z : n ≡ 0) {t : Bool} (told : t ≡ used) where
      pub words-refused : not t ≡ true → refusal not_element ≡ used_last
      words-refused g =
          refused-with _ _ _ _ not_element
          (fault-after before _ n not_element ok number z (fault_here _ not_element [] (broken used t told (not-true t g)))) refl refl

      pub words-written : not t ≡ false → {w : Written} {l : Lent} → w ≡ written → l ≡ after → wrote w l ≡ used_last
      words-written g p q =
          accepted_now _ _ _ _ (fault-after before _ n 0 ok number z (fault_later _ _ [] 0 (held used t told (not-false t g)) fault_nowhere))
          (ap₂ (λ (w : Written) (l : Lent). wrote w l) p q)
