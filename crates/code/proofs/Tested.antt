-- Words tested one a turn: over a row's terms, over a window's rows, and over the whole vector; and the choice between the
-- last two.
use mathlib.Core.Bool.{Bool, true, false, ◌&&◌}
use mathlib.Core.List.{List}
use mathlib.Core.Path.{◌≡◌, sym, ap, ◌∙◌}
use Prim.Native.Nat.{ℕ, ◌+◌, ◌≤◌, ◌<◌}
use native.Mathlib.Nat.{le_antisymm}
use native.Mathlib.Numerals.{add-one}
use borrow.Author.Tests.{lt-ltb, le-ltb}
use lib.ListN.{length, get_or}
use Rattle.code.specs.declared.Shape.{Shape}
use Rattle.code.specs.declared.Window.{Window}
use Rattle.code.specs.Inner.Rows.{place_in}
use Rattle.algebra.specs.Every.{every}
use Rattle.code.specs.Inner.Used.{word_below, terms_below, row_below, used_below, all_below}
use Rattle.algebra.proofs.Every.{every-none, every_more, every_done, every_stop}
use Rattle.code.proofs.Laws.{used_all}

module _ (bound : ℕ) (words : List ℕ) (keys : List (List (List ℕ))) (s : Shape) where
  module _ (x : ℕ) where
    pub terms-none : terms_below bound words keys s x 0 ≡ true
    unfolding terms_below
    terms-none = every-none (λ k. word_below bound words (place_in keys s x k))

    -- before the first term the value so far is true
    pub below_none : true ≡ terms_below bound words keys s x 0
    below_none = sym terms-none

    pub below_more : (i : ℕ) {j : ℕ} → j ≡ place_in keys s x i → {t next : Bool} → t ≡ terms_below bound words keys s x i
        → next ≡ (t && word_below bound words j) → next ≡ terms_below bound words keys s x (i + 1)
    unfolding terms_below every
    below_more i named e q = q ∙ rw (add-one, e, named)

    pub below_done : (i : ℕ) {t : Bool} → t ≡ terms_below bound words keys s x i → i ≤ s.terms → s.terms ≤ i → t ≡ row_below bound words keys s x
    unfolding terms_below row_below
    below_done i e h k = e ∙ ap (λ (n : ℕ). every n (λ i. word_below bound words (place_in keys s x i))) (le_antisymm {n = i} {m = s.terms} h k)

    pub terms_done : (i : ℕ) → terms_below bound words keys s x i ≡ true → i ≤ s.terms → s.terms ≤ i → true ≡ row_below bound words keys s x
    unfolding terms_below row_below
    terms_done i = every_done (λ k. word_below bound words (place_in keys s x k)) i s.terms

    module _ (i : ℕ) {j : ℕ} (named : j ≡ place_in keys s x i) where
      pub term_more : terms_below bound words keys s x i ≡ true → get_or words j 0 < bound → terms_below bound words keys s x (i + 1) ≡ true
      unfolding terms_below
      term_more e h =
          every_more (λ k. word_below bound words (place_in keys s x k)) i e
          (ap (word_below bound words) (sym named) ∙ lt-ltb (get_or words j 0) bound h)

      pub term_stop : i < s.terms → bound ≤ get_or words j 0 → false ≡ row_below bound words keys s x
      unfolding row_below
      term_stop k h =
          every_stop (λ k. word_below bound words (place_in keys s x k)) i s.terms k
          (ap (word_below bound words) (sym named) ∙ le-ltb (get_or words j 0) bound h)

  -- the rows of a window
  pub rows_none : (first : ℕ) → used_below bound words keys s (record { first = first; count = 0 }) ≡ true
  unfolding used_below
  rows_none first = every-none (λ k. row_below bound words keys s (first + k))

  module _ (w : Window) (k : ℕ) {r : Bool} (row : r ≡ row_below bound words keys s (w.first + k)) where
    pub row_more : r ≡ true → used_below bound words keys s (record { first = w.first; count = k }) ≡ true
        → used_below bound words keys s (record { first = w.first; count = k + 1 }) ≡ true
    unfolding used_below
    row_more q e = every_more (λ i. row_below bound words keys s (w.first + i)) k e (sym row ∙ q)

    pub row_stop : r ≡ false → k < w.count → false ≡ used_below bound words keys s w
    unfolding used_below
    row_stop q h = every_stop (λ i. row_below bound words keys s (w.first + i)) k w.count h (sym row ∙ q)

module _ (bound : ℕ) (words : List ℕ) where
  pub all_more : (j : ℕ) → every j (word_below bound words) ≡ true → get_or words j 0 < bound → every (j + 1) (word_below bound words) ≡ true
  all_more j e h = every_more (word_below bound words) j e (lt-ltb (get_or words j 0) bound h)

  pub all_stop : (j : ℕ) → j < length words → bound ≤ get_or words j 0 → false ≡ all_below bound words
  unfolding all_below
  all_stop j k h = every_stop (word_below bound words) j (length words) k (le-ltb (get_or words j 0) bound h)

  pub all_done : (j : ℕ) → every j (word_below bound words) ≡ true → j ≤ length words → length words ≤ j → true ≡ all_below bound words
  unfolding all_below
  all_done j = every_done (word_below bound words) j (length words)

-- ---- the choice between the two

pub all-passes : (bound : ℕ) (words : List ℕ) (keys : List (List (List ℕ))) (s : Shape) (w : Window) {r : Bool} → r ≡ all_below bound words → r ≡ true
    → s.terms ≤ s.places → length words ≡ s.places → true ≡ used_below bound words keys s w
all-passes bound words keys s w p q h e = sym (used_all keys s bound words w h e (sym p ∙ q))
