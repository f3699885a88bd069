-- Items of one size one after the other: reading them, and that what stands at their places is their writing. Assumes nothing.
use Prim.Native.Nat.{ℕ, zero, suc, ◌+◌, ◌*◌, ◌≤◌, ◌<◌}
use mathlib.Core.List.{List, [], ◌∷◌}
use mathlib.Core.Path.{◌≡◌, refl, sym, ap, ◌∙◌, subst}
use borrow.Author.Tests.{le-leb, leb-true}
use native.Mathlib.Nat.{mul-zero, mul-suc}
use native.Mathlib.Omega.{arith}
use lib.Dec.{leb}
use lib.ListN.{length, get_or, length-append}
use Rattle.number.proofs.Places.{choose-whole, has-front, has-back, has-next}
use Rattle.number.specs.Reading.{Whole}
use Rattle.number.specs.Inner.Known.{Has}
use Rattle.record.specs.Admitted.{Each}
use Rattle.record.specs.Reading.{items, read_items}
use Rattle.record.specs.Writing.{write_each}

module _ {A : Type 0} (item : List ℕ → ℕ → A) (size : ℕ) where
  -- what items that were read are, and where they end
  pub items-whole : (n : ℕ) (s : List ℕ) (at : ℕ) {xs : List A} {next : ℕ} → read_items item size n s at ≡ Whole (xs, next)
      → (at + size * n ≤ length s) × (xs ≡ items item size s at n) × (next ≡ at + size * n)
  unfolding read_items
  items-whole n s at e =
      let c = choose-whole {A = List A × ℕ} (leb (at + size * n) (length s)) (items item size s at n, at + size * n) 10 e in
      (leb-true _ _ c.0, ap (λ (z : List A × ℕ). z.0) (sym c.1), ap (λ (z : List A × ℕ). z.1) (sym c.1))

  pub length-items : (s : List ℕ) (at n : ℕ) → length (items item size s at n) ≡ n
  unfolding items
  length-items s at zero = refl
  length-items s at (suc n) = ap suc (length-items s (at + size) n)

  -- an item that is written in `size` bytes
  module _ (write : A → List ℕ) (Ok : A → Type 0) (long : (x : A) → Ok x → length (write x) ≡ size) where
    pub length-flat : (xs : List A) → Each Ok xs → length (write_each write xs) ≡ size * length xs
    unfolding write_each Each
    length-flat [] ok = sym (mul-zero size)
    length-flat (x ∷ xs) ok =
        omega (arith, length-append (write x) (write_each write xs), long x ok.0, length-flat xs ok.1, mul-suc size (length xs))

    -- and is read back where it stands
    module _ (s : List ℕ) (back : (at : ℕ) (x : A) → Ok x → Has s at (write x) → item s at ≡ x) where
      items_back : (at : ℕ) (xs : List A) → Each Ok xs → Has s at (write_each write xs) → items item size s at (length xs) ≡ xs
      unfolding items write_each Each
      items_back at [] ok h = refl
      items_back at (x ∷ xs) ok h =
          let first = back at x ok.0 (has-front s at (write x) (write_each write xs) h) in
          let place : at + length (write x) ≡ at + size = ap (λ (n : ℕ). at + n) (long x ok.0) in
          let rest = subst (λ (i : ℕ). Has s i (write_each write xs)) place (has-back s at (write x) (write_each write xs) h) in
          ap (λ (y : A). y ∷ items item size s (at + size) (length xs)) first ∙ ap (λ (ys : List A). x ∷ ys) (items_back (at + size) xs ok.1 rest)

      pub items-reads : (at n : ℕ) (xs : List A) → length xs ≡ n → Each Ok xs → Has s at (write_each write xs)
          → read_items item size n s at ≡ Whole (xs, at + length (write_each write xs))
      unfolding read_items Has
      items-reads at n xs e ok h =
          let long-all : length (write_each write xs) ≡ size * n = length-flat xs ok ∙ ap (λ (k : ℕ). size * k) e in
          let room : at + size * n ≤ length s = omega (arith, h.0, long-all) in
          let same : items item size s at n ≡ xs = ap (items item size s at) (sym e) ∙ items_back at xs ok h in
          simp (le-leb _ _ room, same, long-all)

    -- and stands wherever there is room for it
    module _ (s : List ℕ) (only : (at : ℕ) → at + size ≤ length s → Ok (item s at) × Has s at (write (item s at))) where
      items_only : (at n : ℕ) → at + size * n ≤ length s → Each Ok (items item size s at n) × Has s at (write_each write (items item size s at n))
      unfolding items write_each Each Has
      items_only at zero h = (tt, (omega (arith, mul-zero size), refl))
      items_only at (suc n) h =
          let first = only at (omega (arith, mul-suc size n)) in
          let rest = items_only (at + size) n (omega (arith, mul-suc size n)) in
          let place : at + size ≡ at + length (write (item s at)) = ap (λ (k : ℕ). at + k) (sym (long (item s at) first.0)) in
          ((first.0, rest.0), has-next s at (write (item s at)) (write_each write (items item size s (at + size) n)) first.1 place rest.1)

      pub items-exact : (at n : ℕ) {xs : List A} {next : ℕ} → read_items item size n s at ≡ Whole (xs, next)
          → (length xs ≡ n) × Each Ok xs × Has s at (write_each write xs) × (next ≡ at + length (write_each write xs))
      items-exact at n {xs} {next} e =
          let w = items-whole n s at e in
          let o = items_only at n w.0 in
          let ok : Each Ok xs = subst (Each Ok) (sym w.1) o.0 in
          let many : length xs ≡ n = ap length w.1 ∙ length-items s at n in (
            many,
            ok,
            subst (λ (l : List A). Has s at (write_each write l)) (sym w.1) o.1,
            w.2 ∙ ap (λ (k : ℕ). at + k) (ap (λ (k : ℕ). size * k) (sym many) ∙ sym (length-flat xs ok)),
          )

-- item i of many
pub item_at : {A : Type 0} (item : List ℕ → ℕ → A) (size : ℕ) (s : List ℕ) (at n i : ℕ) (none : A) → i < n
    → get_or (items item size s at n) i none ≡ item s (at + size * i)
unfolding items
item_at item size s at zero i none h = absurd (omega arith)
item_at item size s at (suc n) zero none h = ap (item s) (omega arith)
item_at item size s at (suc n) (suc i) none h = item_at item size s (at + size) n i none (omega arith) ∙ ap (item s) (omega arith)
