-- What the page's readers accept is what the library's accept, with the same content; the place where it ended is left out.
use Prim.Native.Nat.{ℕ}
use mathlib.Core.Path.{◌≡◌, refl, ap, ◌∙◌}
use mathlib.Core.Bool.{Bool, true, false}
use mathlib.Core.List.{List, map}
use lib.Dec.{ltb}
use lib.ListN.{length}
use Rattle.algebra.specs.Choice.{choose}
use Rattle.answer.specs.Numbers.{bytes_after}
use Rattle.number.specs.Reading.{Reading, Whole, Refused, Parsed, then}
use Rattle.record.specs.Reading as rec
use Rattle.page.specs.Document01 as page
use Rattle.page.proofs.Rows.{head}
use Rattle.page.proofs.Vectors.{tree, noise_record, scalar_record}
use Rattle.page.proofs.Reading.{read, head_is, trees_is, delta_is, blocks_is}

-- a reading's content, without the place where it ended
unfoldable pub content : {A : Type 0} → page.Read A → Reading A
content (page.got a end) = Whole a
content (page.fault k) = Refused k

unfoldable pub mapped : {A B : Type 0} → (A → B) → Reading A → Reading B
mapped c (Whole a) = Whole (c a)
mapped c (Refused k) = Refused k

content-end : {A B : Type 0} (c : A → B) (s : List ℕ) (at : ℕ) (a : A) → content (page.ended (c a) s at) ≡ mapped c (rec.ended s at a)
unfolding content mapped page.ended page.when◌then◌else◌
content-end {A} c s at a = go (ltb at (length s))
  where
    go : (t : Bool) → content (page.when◌then◌else◌ t (page.fault bytes_after) (page.got (c a) at)) ≡ mapped c (choose {A = Reading A} t (Refused bytes_after) (Whole a))
    go true = refl
    go false = refl

then-content : {A B A' B' : Type 0} (c : A → B) (c' : A' → B') (r : Parsed A') (r' : page.Read B') → r' ≡ read c' r
    → (k : A' → ℕ → Reading A) (k' : B' → ℕ → page.Read B) → ((a : A') (next : ℕ) → content (k' (c' a) next) ≡ mapped c (k a next))
    → content (page.and_then r' k') ≡ mapped c (then r k)
unfolding content mapped page.and_then read
then-content c c' r r' e k k' h = ap (λ x. content (page.and_then x k')) e ∙ go r
  where
    go : (x : Parsed _) → content (page.and_then (read c' x) k') ≡ mapped c (then x k)
    go (Whole x) = h x.0 x.1
    go (Refused n) = refl

pub noise-content : (s : List ℕ) → content (page.read_noise s 0) ≡ mapped noise_record (rec.read_noise s)
unfolding page.read_noise rec.read_noise
noise-content s =
    then-content noise_record head _ _ (head_is s 1) _ _ λ h body.
    then-content noise_record (map tree) _ _ (trees_is h s h.trees 0 body) _ _ λ trees end.
    content-end noise_record s end (record { head = h; trees = trees })

pub scalar-content : (s : List ℕ) → content (page.read_scalar s 0) ≡ mapped scalar_record (rec.read_scalar s)
unfolding page.read_scalar rec.read_scalar
scalar-content s =
    then-content scalar_record head _ _ (head_is s 2) _ _ λ h body.
    then-content scalar_record (λ x. x) _ _ (delta_is h s body) _ _ λ delta at.
    then-content scalar_record (λ x. x) _ _ (blocks_is h s h.trees at) _ _ λ roots end.
    content-end scalar_record s end (record { head = h; delta = delta; roots = roots })
