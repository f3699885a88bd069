-- An accepted dealing of field 1 correlates, and accepted pad calls write the pads of their indices.
use Prim.Native.Nat.{ℕ, zero, suc, ◌+◌, ◌*◌, ◌<◌}
use native.Mathlib.Nat.{eq-or-lt_of_le, le_of_suc-le-suc}
use native.Mathlib.Omega.{arith}
use mathlib.Core.Path.{◌≡◌, refl, sym, ap, ap₂, ◌∙◌}
use mathlib.Core.List.{List, [], ◌∷◌, ◌++◌, append_assoc}
use mathlib.Core.Logic.{⊎_elim}
use lib.Dec.{eqb}
use lib.ListN.{length, get_or, take, drop, length-append}
use lib.Seq.{take_at, drop_at, drop-drop}
use Rattle.page.specs.Document01 as page
use Rattle.page_claims.specs.Statements as first
use Rattle.page_claims.proofs.Answers.{none, more, all-written}
use Rattle.page_claims.proofs.Entire.{demand3}
use Rattle.page_two_claims.specs.Statements as says

in_field_1 : (f : ℕ) → f ≡ 1 → (Δ u v w : List ℕ)
    → w ≡ (page.field_of f).elements.plus
    ((page.field_of f).elements.multiple (get_or u 0 0) (page.when◌then◌else◌ (eqb f 1) (page.words Δ) (page.word Δ 0 ∷ []))) v
    → w ≡ (page.blocks).plus ((page.blocks).multiple (get_or u 0 0) (page.words Δ)) v
unfolding page.field_of page.when◌then◌else◌
in_field_1 f one Δ u v w c = rw one at c

-- values of w bytes one after another: what stands from value k on
module _ (w : ℕ) (f : ℕ → List ℕ) (wide : (k : ℕ) → length (f k) ≡ w) where
  long : (c : ℕ) → length (page.joined c f) ≡ w * c
  unfolding page.joined
  long zero = omega arith
  long (suc c) = length-append (page.joined c f) (f c) ∙ ap₂ ◌+◌ (long c) (wide c) ∙ (omega arith)

  from-value : (c : ℕ) (rest : List ℕ) (k : ℕ) → k < c → (more : List ℕ) × (drop (w * k) (page.joined c f ++ rest) ≡ f k ++ more)
  unfolding page.joined
  from-value zero rest k h = absurd (omega arith)
  from-value (suc c) rest k h =
      ⊎_elim
      (λ (e : k ≡ c). (
        rest,
        ap₂ (λ (x : ℕ) (l : List ℕ). drop (w * x) l) e (append_assoc (page.joined c f) (f c) rest)
            ∙ drop_at (page.joined c f) (f c ++ rest) (w * c) (long c)
            ∙ ap (λ (x : ℕ). f x ++ rest) (sym e),
      ))
      (λ s. let r = from-value c (f c ++ rest) k s in
      (r.0, ap (drop (w * k)) (append_assoc (page.joined c f) (f c) rest) ∙ r.1))
      (eq-or-lt_of_le (le_of_suc-le-suc h))

wide-block : (l : List ℕ) → length (page.block l) ≡ 16
unfolding page.block page.to_bytes
wide-block l = refl

module _ (start c : ℕ) where
  noise-written : (vs choices out : List ℕ) → (page.noise_pads start c vs choices out).number ≡ 0 → (k : ℕ) → k < c
      → page.block_from (first.slice (page.noise_pads start c vs choices out).outputs 0) (16 * k)
      ≡ page.block (page.pad (start + k) (page.block_at vs k))
  unfolding page.noise_pads
  noise-written vs choices out e k h =
      let f : ℕ → List ℕ = λ k. page.block (page.pad (start + k) (page.block_at vs k)) in
      let r = from-value 16 f (λ k. wide-block _) c (drop (length (page.joined c f)) out) k h in
      ap (λ (l : List (List ℕ)). page.block_from (first.slice l 0) (16 * k))
      (all-written _ _ (more _ _ (more _ _ (more _ _ (more _ _ (more _ _ none))))) e)
      ∙ ap (take 16) r.1
      ∙ take_at (f k) r.0 16 (wide-block _)

  scalar-written : (ws Δ out : List ℕ) → (page.scalar_pads start c ws Δ out).number ≡ 0 → (k : ℕ) → k < c
      → (page.block_from (first.slice (page.scalar_pads start c ws Δ out).outputs 0) (32 * k)
      ≡ page.block (page.pad (start + k) (page.block_at ws k)))
      × (page.block_from (first.slice (page.scalar_pads start c ws Δ out).outputs 0) (32 * k + 16)
      ≡ page.block (page.pad (start + k) (page.xor 2 (page.block_at ws k) (page.words Δ))))
  unfolding page.scalar_pads page.words
  scalar-written ws Δ out e k h =
      let a : ℕ → List ℕ = λ k. page.block (page.pad (start + k) (page.block_at ws k)) in
      let b : ℕ → List ℕ = λ k. page.block (page.pad (start + k) (page.xor 2 (page.block_at ws k) (page.block_at Δ 0))) in
      let f : ℕ → List ℕ = λ k. a k ++ b k in
      let r = from-value 32 f (λ k. length-append (a k) (b k)
      ∙ ap₂ ◌+◌ (wide-block _) (wide-block _)) c (drop (length (page.joined c f)) out) k h in
      let written = all-written _ _ (more _ _ (more _ _ (more _ _ (more _ _ (more _ _ none))))) e in
      let apart = r.1 ∙ append_assoc (a k) (b k) r.0 in (
        ap (λ (l : List (List ℕ)). page.block_from (first.slice l 0) (32 * k)) written
            ∙ ap (take 16) apart
            ∙ take_at (a k) (b k ++ r.0) 16 (wide-block _),
        ap (λ (l : List (List ℕ)). page.block_from (first.slice l 0) (32 * k + 16)) written
            ∙ ap (take 16) (sym (drop-drop 16 (32 * k) _) ∙ ap (drop 16) apart ∙ drop_at (a k) (b k ++ r.0) 16 (wide-block _))
            ∙ take_at (b k) r.0 16 (wide-block _),
      )

pub pads : says.Pads
pads =
    record {
      dealings = λ D one a b e x h.
          in_field_1 D.head.field one D.Δ (first.u D x) (first.v D x) (first.w D x) (demand3.outputs D a b e x h);
      noise = noise-written;
      scalar = scalar-written;
    }
