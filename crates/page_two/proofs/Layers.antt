-- The page's sum of layers is the library's.
use Prim.Native.Nat.{ℕ, ◌+◌, ◌-◌, ◌%◌}
use native.Mathlib.Nat.{mul-one}
use mathlib.Core.Path.{◌≡◌, refl, sym, ap, ◌∙◌, fun_ext}
use mathlib.Core.Bool.{Bool, ◌||◌}
use mathlib.Core.List.{List, [], ◌∷◌, ◌++◌}
use lib.Bits.{bit_xor}
use lib.Dec.{eqb, leb, ltb, leb-suc-suc}
use lib.ListN.{length, drop, get_or}
use Rattle.algebra.specs.Coding.{over}
use Rattle.algebra.proofs.Written.{flat-length}
use Rattle.answer.specs.Tests.{is_met}
use Rattle.answer.specs.Outcome.{Outcome, outcome_one}
use Rattle.answer.specs.declared.OneLength.{OneLength}
use Rattle.layer_add.specs.Add as library
use Rattle.page.specs.Document01 as page
use Rattle.page.proofs.Calls.{none, more, answer-one}
use Rattle.page.proofs.Pads.{none_over}
use Rattle.page_two.specs.Document02 as page2
use Rattle.page_two.proofs.Basics.{list_is}

abbrev pub add_return : Outcome ℕ library.AddLent → page.Return
add_return o = page.returned o.number (o.written ∷ []) (o.lent.from ∷ []) (o.lent.into ∷ [])

words_are : (field : ℕ) (l : List ℕ) → page2.are_words field l ≡ library.are_words field l
words_are field l = ap (λ (t : Bool). eqb field 1 || t) (below ∙ none_over (page.p - 1) l)
  where
    below : page.every (length l) (λ k. ltb (get_or l k 0) page.p) ≡ page.every (length l) (λ k. leb (get_or l k 0) (page.p - 1))
    below = ap (page.every (length l)) (fun_ext (λ k. leb-suc-suc (get_or l k 0) (page.p - 1)))

sums_are : (field : ℕ) (from into : List ℕ) (k : ℕ)
    → page.when◌then◌else◌ (eqb field 1) (bit_xor (get_or from k 0) (get_or into k 0)) ((get_or from k 0 + get_or into k 0) % page.p)
    ≡ library.sum_at (library.word_sum field) from into k
unfolding page.when◌then◌else◌ library.sum_at library.prime_sum
sums_are field from into k = refl

pub add_is : (field : ℕ) (from into : List ℕ) → page2.add field from into ≡ add_return (library.add field (library.lent_add from into))
unfolding page2.add library.add library.summed over is_met
add_is field from into =
    let written = list_is (length into) _ _ (sums_are field from into) in
    let n = length into in
    let long = ap length written ∙ flat-length library.word (λ a. refl) n _ in
    answer-one add_return _ _ _ into _ (λ k. refl)
    (λ i. page.returned 0 ((long ∙ mul-one n) i ∷ []) (from ∷ []) ((written i ++ drop (long i) into) ∷ []))
    (more _ _ _ refl (more _ _ _ refl (more _ _ _ (words_are field from) (more _ _ _ (words_are field into) none))))

pub add-returned : (r : OneLength) (field : ℕ) (from into from' into' : List ℕ)
    → outcome_one r (library.lent_add from' into') ≡ library.add field (library.lent_add from into)
    → page.returned r.number (r.written ∷ []) (from' ∷ []) (into' ∷ []) ≡ page2.add field from into
add-returned r field from into from' into' e = ap add_return e ∙ sym (add_is field from into)
