-- The accepted calls of a run on the page are those of the library's run; what is read of a circuit, and combined lists.
use Prim.Native.Nat.{ℕ, zero, suc}
use mathlib.Core.Path.{◌≡◌, refl, sym, ap, ◌∙◌, subst}
use mathlib.Core.Bool.{Bool, true, false}
use mathlib.Core.List.{List, [], ◌∷◌, map}
use mathlib.Core.Logic.{◌≢◌}
use mathlib.Core.Option.{some}
use native.Mathlib.Omega.{arith}
use borrow.Author.Tests.{eqb-true}
use lib.Bits.{bit_xor}
use lib.Dec.{eqb}
use lib.ListN.{length, get_elem?}
use Rattle.algebra.specs.Choice.{choose}
use Rattle.circuit.specs.Content as own
use Rattle.circuit.specs.Reading as reading
use Rattle.circuit_claims.specs.Calls as library
use Rattle.circuit_claims.specs.Evaluation.{combined}
use Rattle.circuit_claims.proofs.Calls.{some_is, none-some}
use Rattle.number.specs.Reading.{Reading, Whole, Refused}
use Rattle.page.specs.Document01 as page
use Rattle.page_claims.specs.Statements.{Gives}
use Rattle.page_two.specs.Document02 as page2
use Rattle.page_two.proofs.Circuits.Content.{circuit}
use Rattle.page_two.proofs.Circuits.Reading.{Agrees, whole, no, reads}
use Rattle.tree.specs.Tree.{listed}
use Rattle.tree.proofs.Listed.{listed-front}

-- ---- the accepted calls

-- each is accepted
pub is_accepted : (K : page2.RunKind) (s : K.State) (run : List page2.Lent) (k : ℕ) {m : page2.Lent × K.State}
    → get_elem? (page2.accepted_from K s run) k ≡ some m → (K.call m).0.number ≡ 0
unfolding page2.accepted_from page.when◌then◌else◌
is_accepted K s [] k e = absurd (none-some e)
is_accepted K s (x ∷ run) k {m} e =
    go (eqb (K.call (x, s)).0.number 0) refl k (λ j. is_accepted K (K.call (x, s)).1 run j) e
  where
    go : (t : Bool) → eqb (K.call (x, s)).0.number 0 ≡ t → (k : ℕ)
        → ((j : ℕ) → get_elem? (page2.accepted_from K (K.call (x, s)).1 run) j ≡ some m → (K.call m).0.number ≡ 0)
        → get_elem? (page.when◌then◌else◌ t ((x, s) ∷ page2.accepted_from K (K.call (x, s)).1 run) (page2.accepted_from K (K.call (x, s)).1 run)) k ≡ some m
        → (K.call m).0.number ≡ 0
    go true n zero later e = ap (λ (z : page2.Lent × K.State). (K.call z).0.number) (sym (some_is e)) ∙ eqb-true (K.call (x, s)).0.number 0 n
    go true n (suc k) later e = later k e
    go false n k later e = later k e

module _ (K : page2.RunKind) {L S O : Type 0} (lent : page2.Lent → L) (state : K.State → S) (call : L → S → O) (number : O → ℕ) (left : O → S)
    (number_is : (x : page2.Lent) (s : K.State) → (K.call (x, s)).0.number ≡ number (call (lent x) (state s)))
    (left_is : (x : page2.Lent) (s : K.State) → state (K.call (x, s)).1 ≡ left (call (lent x) (state s))) where
  abbrev pub made : page2.Lent × K.State → library.CallMade L O
  made m = record { got = lent m.0; gave = call (lent m.0) (state m.1) }

  all_made : (s : K.State) (run : List page2.Lent)
      → map made (page2.accepted_from K s run) ≡ library.accepted_calls call number left (state s) (map lent run)
  unfolding page2.accepted_from library.accepted_calls page.when◌then◌else◌
  all_made s [] = refl
  all_made s (x ∷ run) =
      let o = call (lent x) (state s) in
      go (eqb (K.call (x, s)).0.number 0) (page2.accepted_from K (K.call (x, s)).1 run)
      (all_made (K.call (x, s)).1 run ∙ ap (λ (z : S). library.accepted_calls call number left z (map lent run)) (left_is x s))
      ∙ ap (λ (n : ℕ). choose (eqb n 0)
      (record { got = lent x; gave = o } ∷ library.accepted_calls call number left (left o) (map lent run))
      (library.accepted_calls call number left (left o) (map lent run))) (number_is x s)
    where
      go : (t : Bool) (l : List (page2.Lent × K.State)) {l' : List (library.CallMade L O)} → map made l ≡ l'
          → map made (page.when◌then◌else◌ t ((x, s) ∷ l) l) ≡ choose t (record { got = lent x; gave = call (lent x) (state s) } ∷ l') l'
      go true l e = ap (λ (r : List (library.CallMade L O)). made (x, s) ∷ r) e
      go false l e = e

  module _ (run : List page2.Lent) {fresh : S} (begins : state K.fresh ≡ fresh) where
    abbrev calls : List (library.CallMade L O)
    calls = library.accepted_calls call number left fresh (map lent run)

    pub same-calls : map made (page2.accepted_from K K.fresh run) ≡ calls
    same-calls = all_made K.fresh run ∙ ap (λ (z : S). library.accepted_calls call number left z (map lent run)) begins

    at_map : (l : List (page2.Lent × K.State)) (k : ℕ) {m : page2.Lent × K.State} → get_elem? l k ≡ some m → get_elem? (map made l) k ≡ some (made m)
    at_map [] k e = absurd (none-some e)
    at_map (a ∷ l) zero e = ap (λ (z : page2.Lent × K.State). some (made z)) (some_is e)
    at_map (a ∷ l) (suc k) e = at_map l k e

    of_map : (l : List (page2.Lent × K.State)) (k : ℕ) {m : library.CallMade L O} → get_elem? (map made l) k ≡ some m
        → (a : page2.Lent × K.State) × (get_elem? l k ≡ some a) × (made a ≡ m)
    of_map [] k e = absurd (none-some e)
    of_map (a ∷ l) zero e = (a, refl, some_is e)
    of_map (a ∷ l) (suc k) e = of_map l k e

    pub to_library : (k : ℕ) (m : page2.Lent × K.State) → page2.IsCall K run k m → library.IsCall calls k (made m)
    to_library k m e =
        subst (λ (l : List (library.CallMade L O)). get_elem? l k ≡ some (made m)) same-calls (at_map (page2.accepted_from K K.fresh run) k e)

    pub of_library : (k : ℕ) (m : library.CallMade L O) → library.IsCall calls k m
        → (a : page2.Lent × K.State) × page2.IsCall K run k a × (made a ≡ m)
    of_library k m e =
        of_map (page2.accepted_from K K.fresh run) k (subst (λ (l : List (library.CallMade L O)). get_elem? l k ≡ some m) (sym same-calls) e)

-- ---- what is read

pub whole_of : (s : List ℕ) (c : page2.Circuit) → Gives (page2.read_circuit s 0) c → (x : own.Circuit) × (reading.read_circuit s ≡ Whole x) × (circuit x ≡ c)
whole_of s c g = go _ _ (reads s) g.1
  where
    got_is : {a b : page2.Circuit} {m n : ℕ} → page.got a m ≡ page.got b n → a ≡ b
    got_is e = cc

    fault-got : {a : page2.Circuit} {k n : ℕ} → page.fault k ≡ page.got a n → ⊥
    fault-got e = let z : ◌≡◌ {A = ℕ} 0 1 = cc in omega arith

    go : (r : page.Read page2.Circuit) (r' : Reading own.Circuit) → Agrees r r' → r ≡ page.got c g.0
        → (x : own.Circuit) × (r' ≡ Whole x) × (circuit x ≡ c)
    go r r' (whole x next) e = (x, refl, got_is e)
    go r r' (no k) e = absurd (fault-got e)

-- what holds of each circuit that the library reads holds of each that the page reads
pub on_read : (P : page2.Circuit → Type 0) (s : List ℕ) → ((x : own.Circuit) → reading.read_circuit s ≡ Whole x → P (circuit x))
    → (c : page2.Circuit) → Gives (page2.read_circuit s 0) c → P c
on_read P s h c g = let w = whole_of s c g in subst P w.2 (h w.0 w.1)

pub gives_of : (s : List ℕ) (x : own.Circuit) → reading.read_circuit s ≡ Whole x → Gives (page2.read_circuit s 0) (circuit x)
gives_of s x e = go _ _ (reads s) e
  where
    whole_is : {a b : own.Circuit} → Whole a ≡ Whole b → a ≡ b
    whole_is e = cc

    refused-whole : {k : ℕ} {a : own.Circuit} → ◌≡◌ {A = Reading own.Circuit} (Refused k) (Whole a) → ⊥
    refused-whole e = let z : ◌≡◌ {A = ℕ} 0 1 = cc in omega arith

    go : (r : page.Read page2.Circuit) (r' : Reading own.Circuit) → Agrees r r' → r' ≡ Whole x → Gives r (circuit x)
    go r r' (whole y next) f = (next, ap (λ (z : own.Circuit). page.got (circuit z) next) (whole_is f))
    go r r' (no k) f = absurd (refused-whole f)

-- a call that is refused leaves the state
pub stays : {S : Type 0} (x : page2.Lent) (bits_out : List ℕ) (s : S) (r : page.Read page2.Circuit) (call : page2.Circuit → page.Return × S)
    → (page2.on_circuit x bits_out s r call).0.number ≢ 0 → (page2.on_circuit x bits_out s r call).1 ≡ s
unfolding page2.on_circuit page.when◌then◌else◌
stays x bits_out s (page.fault k) call n = refl
stays x bits_out s (page.got c next) call n = by_test (eqb (call c).0.number 0) (call c).1 s (λ e. n (eqb-true _ 0 e))
  where
    by_test : {S : Type 0} (t : Bool) (left s : S) → (t ≡ true → ⊥) → page.when◌then◌else◌ t left s ≡ s
    by_test true left s n = absurd (n refl)
    by_test false left s n = refl

-- ---- combined lists

pub combined_is : (a b : List ℕ) (n : ℕ) → length a ≡ n → length b ≡ n → combined a b ≡ page.xor n a b
unfolding combined page.xor page.list listed
combined_is [] b zero e f = refl
combined_is [] b (suc n) e f = absurd (omega arith)
combined_is (x ∷ a) b zero e f = absurd (omega arith)
combined_is (x ∷ a) [] (suc n) e f = absurd (omega arith)
combined_is (x ∷ a) (y ∷ b) (suc n) e f =
    ap (λ (l : List ℕ). bit_xor x y ∷ l) (combined_is a b n (omega arith) (omega arith)) ∙ sym (listed-front n _)

-- a combined list of n members is that of the first n
pub combined-long : (a b : List ℕ) (n : ℕ) → length (combined a b) ≡ n → combined a b ≡ page.xor n a b
unfolding combined page.xor page.list listed
combined-long [] b zero e = refl
combined-long [] b (suc n) e = absurd (omega arith)
combined-long (x ∷ a) [] zero e = refl
combined-long (x ∷ a) [] (suc n) e = absurd (omega arith)
combined-long (x ∷ a) (y ∷ b) zero e = absurd (omega arith)
combined-long (x ∷ a) (y ∷ b) (suc n) e =
    ap (λ (l : List ℕ). bit_xor x y ∷ l) (combined-long a b n (omega arith)) ∙ sym (listed-front n _)
