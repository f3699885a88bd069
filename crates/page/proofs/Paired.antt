-- The page's line of two records is the one that the pair program prints.
use Prim.Native.Nat.{ℕ, zero, suc, ◌+◌, ◌^◌}
use mathlib.Core.Path.{◌≡◌, refl, sym, ap, ap₂, ◌∙◌}
use mathlib.Core.Bool.{Bool, true, false, not, ◌||◌}
use mathlib.Core.List.{List, ◌++◌, map}
use lib.Dec.{ltb}
use lib.ListN.{get_or}
use Rattle.algebra.specs.Choice.{choose}
use Rattle.number.specs.Reading.{Reading, Whole, Refused}
use Rattle.record.specs.Content.{Head, NoisePart, ScalarPart}
use Rattle.record.specs.Reading as rec
use Rattle.ends.specs.Scalar.Vectors as scalar_end
use Rattle.window.specs.Head.{field_of}
use Rattle.pairing.specs.Line as lines
use Rattle.pairing.specs.Line.{digits, text}
use Rattle.pairing.specs.Verdict.{TooLarge, Different, Checked, same_list, same_dealing, holds, pair_of, held_at, held_of, paired, verdict, u_at, v_at}
use Rattle.pairing.proofs.Laws.{noise_refusal, scalar_refusal, both-whole}
use Rattle.page.specs.Document01 as page
use Rattle.page.proofs.Fields.{kind_is, accumulated_is}
use Rattle.page.proofs.Rows.{head, output_is}
use Rattle.page.proofs.Vectors.{tree, noise_record, scalar_record, mu_is, v0_is, w0_is}
use Rattle.page.proofs.Contents.{content, mapped, noise-content, scalar-content}

same_is : (a b : List ℕ) → page.same a b ≡ same_list a b
unfolding page.same same_list
same_is a b = refl

dealing_is : (h k : Head) → page.same_dealing (head h) (head k) ≡ same_dealing h k
unfolding page.same_dealing same_dealing page.same same_list
dealing_is h k = refl

-- a record is refused, or its content goes on
unfoldable by_content : {A : Type 0} → Reading A → (A → List ℕ) → List ℕ
by_content (Whole a) go = go a
by_content (Refused k) go = lines.refused_text ++ digits 9 k

or-refused : {A : Type 0} (r : page.Read A) (go : A → List ℕ) → page.or_refused r go ≡ by_content (content r) go
unfolding page.or_refused by_content content page.decimal digits page.when◌then◌else◌
or-refused (page.got a next) go = refl
or-refused (page.fault k) go = refl

module _ (P : NoisePart) (Q : ScalarPart) where
  abbrev h : Head
  h = P.head

  -- w = Δu + v at output x, under the noise record's head
  held_is : (x : ℕ) → page.holds_at (head h) (map tree P.trees) Q.delta Q.roots x ≡ held_at (pair_of P Q) x
  unfolding page.holds_at held_at holds
  held_is x =
      let F = kind_is h.field in
      let D : ScalarPart = record { head = h; delta = Q.delta; roots = Q.roots } in
      let us = output_is h x F.noise_values _ _ (accumulated_is F.noise_values _ _ (mu_is P)) in
      let vs = output_is h x F.elements _ _ (accumulated_is F.elements _ _ (v0_is P)) in
      let ws = output_is h x F.elements _ _ (accumulated_is F.elements _ _ (w0_is D)) in
      let u₀ = ap (λ (l : List ℕ). get_or l 0 0) (us ∙ F.one _) in
      same_is _ _
      ∙ ap₂ same_list ws
      (ap₂ (λ (y : ℕ) (v : List ℕ). (page.F (head h)).elements.plus ((page.F (head h)).elements.multiple y Q.delta) v) u₀ vs
      ∙ F.multiple-read _ Q.delta _
      ∙ ap (λ (l : List ℕ). (page.F (head h)).elements.plus l ((field_of h).elements.words (v_at P x))) (F.elements.multiple (u_at P x) (scalar_end.delta D))
      ∙ F.elements.plus _ (v_at P x))

  count_is : (n : ℕ) → page.count_of n (page.holds_at (head h) (map tree P.trees) Q.delta Q.roots) ≡ held_of (pair_of P Q) n
  unfolding page.count_of held_of page.when◌then◌else◌
  count_is zero = refl
  count_is (suc n) = ap₂ (λ (a : ℕ) (t : Bool). a + choose t 1 0) (count_is n) (held_is n)

  -- two accepted records
  pair_is : page.pair_line (noise_record P) (scalar_record Q) ≡ text (paired P Q)
  unfolding page.pair_line text paired page.when◌then◌else◌ page.decimal digits
  pair_is =
      ap₂ (λ (t : Bool) (n : ℕ). choose (ltb 1024 (2 ^ h.depth) || ltb 1024 (2 ^ Q.head.depth)) lines.too_large_text
      (choose (not t) lines.different_text (text (Checked h.outputs n)))) (dealing_is h Q.head) (count_is h.outputs)
      ∙ by_test (ltb 1024 (2 ^ h.depth) || ltb 1024 (2 ^ Q.head.depth)) (not (same_dealing h Q.head))
    where
      by_test : (t s : Bool) → choose t lines.too_large_text (choose s lines.different_text (text (Checked h.outputs (held_of (pair_of P Q) h.outputs))))
          ≡ text (choose t TooLarge (choose s Different (Checked h.outputs (held_of (pair_of P Q) h.outputs))))
      by_test true s = refl
      by_test false true = refl
      by_test false false = refl

pub line_is : (noise scalar : List ℕ) → page.line_text noise scalar ≡ text (verdict noise scalar)
unfolding page.line_text text by_content mapped
line_is noise scalar =
    or-refused (page.read_noise noise 0) _
    ∙ ap (λ r. by_content r (λ x. page.or_refused (page.read_scalar scalar 0) λ y. page.pair_line x y)) (noise-content noise)
    ∙ go (rec.read_noise noise) refl
  where
    whole : (P : NoisePart) → rec.read_noise noise ≡ Whole P → (r : Reading ScalarPart) → rec.read_scalar scalar ≡ r
        → by_content (mapped scalar_record r) (λ y. page.pair_line (noise_record P) y) ≡ text (verdict noise scalar)
    whole P e (Refused k) f = sym (ap text (scalar_refusal noise scalar e f))
    whole P e (Whole Q) f = pair_is P Q ∙ sym (ap text (both-whole noise scalar e f))

    go : (r : Reading NoisePart) → rec.read_noise noise ≡ r
        → by_content (mapped noise_record r) (λ x. page.or_refused (page.read_scalar scalar 0) λ y. page.pair_line x y) ≡ text (verdict noise scalar)
    go (Refused k) e = sym (ap text (noise_refusal noise scalar e))
    go (Whole P) e =
        or-refused (page.read_scalar scalar 0) _
        ∙ ap (λ r. by_content r (λ y. page.pair_line (noise_record P) y)) (scalar-content scalar)
        ∙ whole P e (rec.read_scalar scalar) refl
