-- The page's messages and triples are the library's (requests 1 and 6).
use Prim.Native.Nat.{ℕ, ◌*◌}
use native.Mathlib.Nat.{add-zero, mul_comm, mul-one}
use mathlib.Core.Path.{◌≡◌, refl, ap, sym, ◌∙◌}
use mathlib.Core.List.{List, [], ◌∷◌, ◌++◌}
use lib.ListN.{length, drop, get_or}
use Rattle.algebra.specs.Coding.{flat, over}
use Rattle.algebra.proofs.Written.{flat-length}
use Rattle.answer.specs.Tests.{is_met}
use Rattle.answer.specs.Outcome.{Outcome, outcome_one}
use Rattle.answer.specs.declared.OneLength.{OneLength}
use Rattle.pads.specs.Messages.Bytes.{byte, sixteen, thirty_two}
use Rattle.pads.specs.Messages.Calls as library
use Rattle.pads.specs.Triples.Call.{TriplesLent, lent_triples, triples}
use Rattle.pads.specs.Triples.Triple.{triple_bytes, triple_from, triple_of, lowest, pad_bit, pad_pair_bit}
use Rattle.page.specs.Document01 as page
use Rattle.page.proofs.Calls.{none, more, answer-one, room_is}
use Rattle.page.proofs.Fields.{joined-long, front-over}
use Rattle.page.proofs.Pads.{none_over}
use Rattle.page_two.specs.Document02 as page2
use Rattle.page_two.proofs.Basics.{list_is}

-- ---- 1. Messages

abbrev pub correction_return : Outcome ℕ library.CorrectionLent → page.Return
correction_return o = page.returned o.number (o.written ∷ []) (o.lent.choices ∷ o.lent.wanted ∷ []) (o.lent.bits ∷ [])

pub correction_is : (c : ℕ) (choices wanted bits : List ℕ)
    → page2.correction_bits c choices wanted bits ≡ correction_return (library.correction_bits c (library.lent_correction choices wanted bits))
unfolding page2.correction_bits library.correction_bits is_met over page.xor
correction_is c choices wanted bits =
    let written = list_is c (library.correction_bit choices wanted) _ (λ k. refl) in
    let long = ap length written ∙ flat-length byte (λ a. refl) c _ in
    answer-one correction_return _ _ _ bits _ (λ n. refl)
    (λ i. page.returned 0 ((long ∙ mul-one c) i ∷ []) (choices ∷ wanted ∷ []) ((written i ++ drop (long i) bits) ∷ []))
    (more _ _ _ refl (more _ _ _ refl (more _ _ _ refl
    (more _ _ _ (none_over 1 choices) (more _ _ _ (none_over 1 wanted) (more _ _ _ (room_is bits (long ∙ mul-one c)) none))))))

abbrev pub mask_return : Outcome ℕ library.MaskLent → page.Return
mask_return o = page.returned o.number (o.written ∷ []) (o.lent.bits ∷ o.lent.pads ∷ o.lent.messages ∷ []) (o.lent.answers ∷ [])

pub mask_is : (c : ℕ) (bits pads messages answers : List ℕ)
    → page2.mask_messages c bits pads messages answers ≡ mask_return (library.mask_messages c (library.lent_mask bits pads messages answers))
unfolding page2.mask_messages library.mask_messages is_met page.xor page.list flat library.answer_of
mask_is c bits pads messages answers =
    let long = joined-long thirty_two (λ a. refl) c _ (library.answer_of bits pads messages) (λ k. refl) ∙ mul_comm c 32 in
    let written = front-over thirty_two (λ a. refl) c _ (library.answer_of bits pads messages) (λ k. refl) answers in
    answer-one mask_return _ _ _ answers _ (λ n. refl)
    (λ i. page.returned 0 (long i ∷ []) (bits ∷ pads ∷ messages ∷ []) (written i ∷ []))
    (more _ _ _ refl (more _ _ _ refl (more _ _ _ refl (more _ _ _ refl
    (more _ _ _ (none_over 1 bits) (more _ _ _ (room_is answers long) none))))))

abbrev pub unmask_return : Outcome ℕ library.UnmaskLent → page.Return
unmask_return o =
    page.returned o.number (o.written ∷ []) (o.lent.wanted ∷ o.lent.pads ∷ o.lent.answers ∷ []) (o.lent.messages ∷ [])

pub unmask_is : (c : ℕ) (wanted pads answers messages : List ℕ)
    → page2.unmask_messages c wanted pads answers messages
    ≡ unmask_return (library.unmask_messages c (library.lent_unmask wanted pads answers messages))
unfolding page2.unmask_messages library.unmask_messages is_met page.xor page.list flat library.opened_of
unmask_is c wanted pads answers messages =
    let long = joined-long sixteen (λ a. refl) c _ (library.opened_of wanted pads answers) (λ k. refl) ∙ mul_comm c 16 in
    let written = front-over sixteen (λ a. refl) c _ (library.opened_of wanted pads answers) (λ k. refl) messages in
    answer-one unmask_return _ _ _ messages _ (λ n. refl)
    (λ i. page.returned 0 (long i ∷ []) (wanted ∷ pads ∷ answers ∷ []) (written i ∷ []))
    (more _ _ _ refl (more _ _ _ refl (more _ _ _ refl (more _ _ _ refl
    (more _ _ _ (none_over 1 wanted) (more _ _ _ (room_is messages long) none))))))

-- ---- 6. Triples

abbrev pub triples_return : Outcome ℕ TriplesLent → page.Return
triples_return o =
    page.returned o.number (o.written ∷ []) (o.lent.choices ∷ o.lent.pads ∷ o.lent.pad_pairs ∷ []) (o.lent.triples ∷ [])

triple_is : (choices pads pairs : List ℕ) (k : ℕ) → page2.triple choices pads pairs k ≡ triple_bytes.words (triple_of choices pads pairs k)
unfolding page2.triple triple_of triple_from
triple_is choices pads pairs k =
    ap (λ (x : ℕ). triple_bytes.words (triple_from (get_or choices k 0) (pad_bit pads k) (lowest (get_or pairs x 0)) (pad_pair_bit pairs k 1)))
    (sym (add-zero (32 * k)))

pub triples_are : (choices pads pairs out : List ℕ)
    → page2.triples choices pads pairs out ≡ triples_return (triples (lent_triples choices pads pairs out))
unfolding page2.triples triples is_met
triples_are choices pads pairs out =
    let c = length choices in
    let long = joined-long triple_bytes (λ a. refl) c _ _ (triple_is choices pads pairs) ∙ mul_comm c 3 in
    let written = front-over triple_bytes (λ a. refl) c _ _ (triple_is choices pads pairs) out in
    answer-one triples_return _ _ _ out _ (λ n. refl)
    (λ i. page.returned 0 (long i ∷ []) (choices ∷ pads ∷ pairs ∷ []) (written i ∷ []))
    (more _ _ _ refl (more _ _ _ refl (more _ _ _ (room_is out long) (more _ _ _ (none_over 1 choices) none))))

-- ---- what an inner call promises, on the page

module _ (r : OneLength) where
  pub correction-returned : (c : ℕ) (choices wanted bits choices' wanted' bits' : List ℕ)
      → outcome_one r (library.lent_correction choices' wanted' bits') ≡ library.correction_bits c (library.lent_correction choices wanted bits)
      → page.returned r.number (r.written ∷ []) (choices' ∷ wanted' ∷ []) (bits' ∷ []) ≡ page2.correction_bits c choices wanted bits
  correction-returned c choices wanted bits choices' wanted' bits' e = ap correction_return e ∙ sym (correction_is c choices wanted bits)

  pub mask-returned : (c : ℕ) (bits pads messages answers bits' pads' messages' answers' : List ℕ)
      → outcome_one r (library.lent_mask bits' pads' messages' answers')
      ≡ library.mask_messages c (library.lent_mask bits pads messages answers)
      → page.returned r.number (r.written ∷ []) (bits' ∷ pads' ∷ messages' ∷ []) (answers' ∷ [])
      ≡ page2.mask_messages c bits pads messages answers
  mask-returned c bits pads messages answers bits' pads' messages' answers' e = ap mask_return e ∙ sym (mask_is c bits pads messages answers)

  pub unmask-returned : (c : ℕ) (wanted pads answers messages wanted' pads' answers' messages' : List ℕ)
      → outcome_one r (library.lent_unmask wanted' pads' answers' messages')
      ≡ library.unmask_messages c (library.lent_unmask wanted pads answers messages)
      → page.returned r.number (r.written ∷ []) (wanted' ∷ pads' ∷ answers' ∷ []) (messages' ∷ [])
      ≡ page2.unmask_messages c wanted pads answers messages
  unmask-returned c wanted pads answers messages wanted' pads' answers' messages' e =
      ap unmask_return e ∙ sym (unmask_is c wanted pads answers messages)

  pub triples-returned : (choices pads pairs out choices' pads' pairs' out' : List ℕ)
      → outcome_one r (lent_triples choices' pads' pairs' out') ≡ triples (lent_triples choices pads pairs out)
      → page.returned r.number (r.written ∷ []) (choices' ∷ pads' ∷ pairs' ∷ []) (out' ∷ []) ≡ page2.triples choices pads pairs out
  triples-returned choices pads pairs out choices' pads' pairs' out' e = ap triples_return e ∙ sym (triples_are choices pads pairs out)
