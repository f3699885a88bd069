-- A record is never refused with 0: what an accepted call was lent is read. Assumes nothing.
use Prim.Native.Nat.{ℕ, zero, suc, ◌+◌, ◌-◌, ◌≤◌}
use mathlib.Core.Path.{◌≡◌, refl}
use mathlib.Core.Bool.{Bool, true, false}
use mathlib.Core.List.{List, [], ◌∷◌}
use native.Mathlib.Omega.{arith}
use lib.Dec.{eqb, ltb}
use lib.ListN.{length}
use Rattle.page.specs.Document01 as page
use Rattle.page_claims.specs.Statements as first

-- no fault, or one with a number
unfoldable Numbered : {A : Type 0} → page.Read A → Type 0
Numbered (page.got a next) = Unit {0}
Numbered (page.fault k) = 1 ≤ k

given : {A : Type 0} (a : A) (next : ℕ) → Numbered (page.got a next)
unfolding Numbered
given a next = tt

failed : (A : Type 0) (k : ℕ) → Numbered {A = A} (page.fault (suc k))
unfolding Numbered
failed A k = omega arith

after : {A B : Type 0} (r : page.Read A) (f : A → ℕ → page.Read B) → Numbered r → ((a : A) (next : ℕ) → Numbered (f a next))
    → Numbered (page.and_then r f)
unfolding Numbered page.and_then
after (page.got a next) f h g = g a next
after (page.fault k) f h g = h

either : {A : Type 0} (t : Bool) (x y : page.Read A) → Numbered x → Numbered y → Numbered (page.when◌then◌else◌ t x y)
unfolding page.when◌then◌else◌
either true x y h g = h
either false x y h g = g

module _ (s : List ℕ) where
  one_of : {A : Type 0} (t : Bool) (x y : page.Reader A) (at : ℕ) → Numbered (x s at) → Numbered (y s at)
      → Numbered (page.when◌then◌else◌ t x y s at)
  unfolding page.when◌then◌else◌
  one_of true x y at h g = h
  one_of false x y at h g = g

  item : {A : Type 0} (n : ℕ) (value : List ℕ → ℕ → A) (at : ℕ) → Numbered (page.item n value s at)
  unfolding page.item
  item {A} n value at = either _ (page.got _ _) (page.fault 10) (given _ _) (failed A 9)

  test : {A : Type 0} (r : page.Reader A) (ok : A → Bool) (k at : ℕ) → Numbered (r s at) → Numbered (page.test r ok (suc k) s at)
  unfolding page.test
  test {A} r ok k at h =
      after (r s at) _ h (λ a next. one_of (ok a) (page.give a) (page.fail (suc k)) next (given a next) (failed A k))

  byte : (at : ℕ) → Numbered (page.read_byte s at)
  byte at = item 1 _ at

  number : (at : ℕ) → Numbered (page.read_number s at)
  unfolding page.read_number
  number at =
      after (page.read_byte s at) _ (byte at)
      (λ a at₁. one_of (ltb a 128) (page.give a) _ at₁ (given a at₁)
      (after (page.read_byte s at₁) _ (byte at₁)
      (λ b at₂. one_of (ltb b 128) _ _ at₂ (one_of (eqb b 0) (page.fail 11) (page.give _) at₂ (failed ℕ 10) (given _ at₂))
      (after (page.read_byte s at₂) _ (byte at₂)
      (λ c at₃. one_of (ltb c 128) _ (page.fail 11) at₃
      (one_of (eqb c 0) (page.fail 11) (page.give _) at₃ (failed ℕ 10) (given _ at₃)) (failed ℕ 10))))))

  read_head : (end at : ℕ) → Numbered (page.read_head end s at)
  unfolding page.read_head
  read_head end at =
      after _ _ (test page.read_byte (λ e. eqb e end) 8 at (byte at))
      (λ e i. after _ _ (test page.read_byte page.is_field 0 i (byte i))
      (λ f i. after _ _ (test page.read_number page.is_depth 1 i (number i))
      (λ d i. after _ _ (test page.read_number (page.is_branch d) 1 i (number i))
      (λ g i. after _ _ (test page.read_number (page.is_tree_count d) 1 i (number i))
      (λ t i. after _ _ (test page.read_number (page.is_term_count d) 1 i (number i))
      (λ l i. after _ _ (test page.read_number (page.is_output_count d) 1 i (number i))
      (λ n i. after _ _ (item 16 page.block_from i)
      (λ code_key i. after _ _ (item 16 page.block_from i) (λ label i. given _ i)))))))))

  tree : (h : page.Head) (base at : ℕ) → Numbered (page.read_tree h base s at)
  unfolding page.read_tree
  tree h base at =
      after _ _ (test _ _ 3 at (after (page.read_number s at) _ (number at) (λ x i. given (base + x) i)))
      (λ q i. after _ _ (one_of (eqb h.field 1) (page.give 1) _ i (given 1 i) (test (page.item 8 page.word) _ 4 i (item 8 _ i)))
      (λ value i. after _ _ (test (page.read_words (page.F h).elements.width) _ 7 i (item _ _ i))
      (λ correction i. after _ _ (item _ _ i) (λ siblings i. given _ i))))

  trees : (h : page.Head) (n base at : ℕ) → Numbered (page.read_trees h n base s at)
  unfolding page.read_trees
  trees h zero base at = given [] at
  trees h (suc n) base at = after _ _ (tree h base at) (λ x i. after _ _ (trees h n (x.position + 1) i) (λ l i. given _ i))

  ended : {A : Type 0} (a : A) (at : ℕ) → Numbered (page.ended a s at)
  unfolding page.ended
  ended {A} a at = either (ltb at (length s)) (page.fault 12) (page.got a at) (failed A 11) (given a at)

  noise : Numbered (page.read_noise s 0)
  unfolding page.read_noise
  noise = after _ _ (read_head 1 0) (λ h i. after _ _ (trees h h.t 0 i) (λ l i. ended (h, l) i))

  scalar : Numbered (page.read_scalar s 0)
  unfolding page.read_scalar
  scalar =
      after _ _ (read_head 2 0)
      (λ h i. after _ _ (test (page.read_words (page.F h).elements.width) _ 5 i (item _ _ i))
      (λ d i. after _ _ (item _ _ i) (λ roots i. ended (h, d, roots) i)))

-- an accepted call on a record
accepted : {A : Type 0} (inputs buffers : List (List ℕ)) (r : page.Read A) (call : A → page.Return) → Numbered r
    → (page.on_record inputs buffers r call).number ≡ 0 → (a : A) × first.Gives r a
unfolding page.on_record Numbered
accepted inputs buffers (page.got a next) call h e = (a, (next, refl))
accepted inputs buffers (page.fault k) call h e = absurd (omega arith)

pub noise-read : (s a b : List ℕ) → (page.noise_offline s a b).number ≡ 0
    → (x : page.Head × List page.Tree) × first.Gives (page.read_noise s 0) x
unfolding page.noise_offline
noise-read s a b e = accepted (s ∷ []) (a ∷ b ∷ []) (page.read_noise s 0) _ (noise s) e

pub scalar_read : (s a b : List ℕ) → (page.scalar_offline s a b).number ≡ 0
    → (x : page.Head × List ℕ × List (List ℕ)) × first.Gives (page.read_scalar s 0) x
unfolding page.scalar_offline
scalar_read s a b e = accepted (s ∷ []) (a ∷ b ∷ []) (page.read_scalar s 0) _ (scalar s) e
