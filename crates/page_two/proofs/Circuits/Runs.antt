-- What steps and rounds share: a call on a state is answered as the library answers it, and an AND takes the same bits of its triple.
use Prim.Native.Nat.{ℕ, suc, ◌+◌, ◌*◌}
use mathlib.Core.Path.{◌≡◌, refl, sym, ap, ◌∙◌}
use mathlib.Core.Bool.{Bool, true, false}
use mathlib.Core.List.{List, [], ◌∷◌}
use native.Mathlib.Omega.{arith}
use borrow.Author.Tests.{ne_eqb}
use lib.Bits.{bit_xor}
use lib.Dec.{eqb}
use lib.ListN.{length, drop, get_or}
use lib.Seq.{get_or-drop, drop-drop}
use Rattle.algebra.specs.Choice.{choose}
use Rattle.answer.specs.Tests.{Test, is_met, first_fault}
use Rattle.answer.specs.Outcome.{by_number, answered}
use Rattle.circuit.specs.Content as own
use Rattle.circuit.proofs.Ands.{ands_more}
use Rattle.circuit_run.specs.Step as step
use Rattle.page.specs.Document01 as page
use Rattle.page.proofs.Calls.{Tests, none, more}
use Rattle.page_two.specs.Document02 as page2
use Rattle.page_two.proofs.Circuits.Content.{gate, is-and}

-- ---- a call on a state

-- what an accepted call returns that has finished or not
abbrev pub wrote : page2.Lent → List ℕ → Bool → List ℕ → List ℕ → page.Return
wrote x bits finished sent outputs =
    let written = page.when◌then◌else◌ finished outputs [] in
    page.returned 0 (length written ∷ length sent ∷ []) (page2.read_only x) (page.front written x.output ∷ page.front sent bits ∷ [])

-- f is what the call makes of it, o what the library's outcome stands for
module _ {S R O : Type 0} (f : page.Return × S → R) (o : O → R) (x : page2.Lent) (bits : List ℕ) (s after : S) (refusal : ℕ → O) (acceptance : O)
    (on-no : (n : ℕ) → f (page.refused (page2.read_only x) (x.output ∷ bits ∷ []) n, s) ≡ o (refusal n)) (sent outputs : List ℕ) where
  abbrev left : page.Return → R
  left r = f (r, page.when◌then◌else◌ (eqb r.number 0) after s)

  -- what an accepted call leaves is asked for only where every test is met
  pub ran_is : {page-tests : List page.Test} {tests : List Test} → Tests page-tests tests
      → (first_fault tests ≡ 0 → f (wrote x bits (eqb (length sent) 0) sent outputs, after) ≡ o acceptance)
      → left (page2.ran x bits sent outputs page-tests) ≡ o (answered tests refusal acceptance)
  unfolding page.answer answered by_number first_fault page.when◌then◌else◌
  ran_is none e = e refl
  ran_is (more {page-tests} {tests} ask k ok m rest) e =
      ap (λ (t : Bool). left (page.when◌then◌else◌ t (page2.ran x bits sent outputs page-tests) (refused_with (suc k)))) m
      ∙ go (is_met ask) (ran_is rest) e
    where
      refused_with : ℕ → page.Return
      refused_with k = page.refused (page2.read_only x) (x.output ∷ bits ∷ []) k

      go : (t : Bool)
          → ((first_fault tests ≡ 0 → f (wrote x bits (eqb (length sent) 0) sent outputs, after) ≡ o acceptance)
          → left (page2.ran x bits sent outputs page-tests) ≡ o (answered tests refusal acceptance))
          → (choose t (first_fault tests) (suc k) ≡ 0 → f (wrote x bits (eqb (length sent) 0) sent outputs, after) ≡ o acceptance)
          → left (page.when◌then◌else◌ t (page2.ran x bits sent outputs page-tests) (refused_with (suc k)))
          ≡ o (by_number (choose t (first_fault tests) (suc k)) refusal acceptance)
      go true rest h = rest h
      go false rest h =
          ap (λ (t : Bool). f (refused_with (suc k), page.when◌then◌else◌ t after s)) (ne_eqb (suc k) 0 (λ z. omega arith)) ∙ on-no (suc k)

-- ---- triples left

pub at_drop : (n k m : ℕ) (l : List ℕ) → n + k ≡ m → get_or (drop n l) k 0 ≡ get_or l m 0
at_drop n k m l e = get_or-drop n l k 0 ∙ ap (λ (i : ℕ). get_or l i 0) e

pub drop_more : (n k m : ℕ) (l : List ℕ) → n + k ≡ m → drop k (drop n l) ≡ drop m l
drop_more n k m l e = drop-drop k n l ∙ ap (λ (i : ℕ). drop i l) e

module _ (x : own.Circuit) (triples : List ℕ) where
  abbrev pub triples_from : ℕ → List ℕ
  triples_from i = drop (3 * step.ands_before x i) triples

  -- after a gate they are those of the next
  pub triples-next : (i : ℕ) {g : own.Gate} {later : List own.Gate} → drop i x.gates ≡ g ∷ later
      → page.when◌then◌else◌ (page2.is_and (gate g)) (drop 3 (triples_from i)) (triples_from i) ≡ triples_from (i + 1)
  unfolding page.when◌then◌else◌
  triples-next i {g} e =
      ap (λ (t : Bool). choose t (drop 3 (triples_from i)) (triples_from i)) (is-and g)
      ∙ go (own.is_and g) (ands_more x.gates i e)
    where
      go : (t : Bool) → step.ands_before x (i + 1) ≡ step.ands_before x i + choose t 1 0
          → choose t (drop 3 (triples_from i)) (triples_from i) ≡ triples_from (i + 1)
      go true n = drop_more (3 * step.ands_before x i) 3 (3 * step.ands_before x (i + 1)) triples (omega (arith, n))
      go false n = let m : 3 * step.ands_before x i ≡ 3 * step.ands_before x (i + 1) = omega (arith, n) in ap (λ (k : ℕ). drop k triples) m

  module _ (i : ℕ) where
    bit : (k m : ℕ) → 3 * step.ands_before x i + k ≡ m → get_or (triples_from i) k 0 ≡ get_or triples m 0
    bit k m e = at_drop (3 * step.ands_before x i) k m triples e

    abbrev j : ℕ
    j = step.ands_before x i

    bit1 : get_or (triples_from i) 0 0 ≡ step.triple_first triples j
    bit1 = bit 0 (j * 3) (omega arith)

    bit2 : get_or (triples_from i) 1 0 ≡ step.triple_second triples j
    bit2 = bit 1 (j * 3 + 1) (omega arith)

    bit3 : get_or (triples_from i) 2 0 ≡ step.triple_third triples j
    bit3 = bit 2 (j * 3 + 2) (omega arith)

    module _ (shares : List ℕ) {a b : ℕ} (g : step.gate_at x i ≡ own.And a b) where
      pub masked_is : page2.masked (triples_from i) (get_or shares a 0) (get_or shares b 0)
          ≡ step.masked_first x triples shares i ∷ step.masked_second x triples shares i ∷ []
      unfolding step.masked_first step.masked_second
      masked_is =
          λ k. bit_xor (get_or shares (step.first_wire (sym g k)) 0) (bit1 k) ∷ bit_xor (get_or shares (step.second_wire (sym g k)) 0) (bit2 k) ∷ []

      pub share_is : (role d e : ℕ) → page2.and_share role (triples_from i) (get_or shares a 0) (get_or shares b 0) d e
          ≡ step.and_share role (bit_xor (step.masked_first x triples shares i) d) (bit_xor (step.masked_second x triples shares i) e)
          (step.triple_first triples j) (step.triple_second triples j) (step.triple_third triples j)
      unfolding page2.and_share step.and_share page.when◌then◌else◌
      share_is role d e =
          λ k. step.and_share role (bit_xor (get_or (masked_is k) 0 0) d) (bit_xor (get_or (masked_is k) 1 0) e) (bit1 k) (bit2 k) (bit3 k)

pub not_is : (role a : ℕ) → page2.not_share role a ≡ step.flipped role a
unfolding page2.not_share step.flipped page.when◌then◌else◌
not_is role a = refl
