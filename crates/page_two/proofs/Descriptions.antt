-- The page's description of a record is the library's.
use Prim.Native.Nat.{ℕ}
use mathlib.Core.Path.{◌≡◌, refl, sym, ap, ◌∙◌}
use mathlib.Core.Bool.{Bool, ◌||◌}
use mathlib.Core.List.{List}
use lib.Dec.{eqb}
use Rattle.answer.specs.Numbers.{wrong_end}
use Rattle.record_describe.specs.Describe as library
use Rattle.record_describe.specs.declared.Described.{Described}
use Rattle.number.specs.Reading.{Reading, Whole, Refused, Parsed, tested, read_byte, after_reading}
use Rattle.record.specs.Content.{Head}
use Rattle.page.specs.Document01 as page
use Rattle.page.proofs.Basics.{if_both}
use Rattle.page.proofs.Fields.{kind_is}
use Rattle.page.proofs.Rows.{head}
use Rattle.page.proofs.Contents.{content, mapped, noise-content, scalar-content}
use Rattle.page.proofs.Reading.{read, test_is, byte_is}
use Rattle.page_two.specs.Document02 as page2

-- an answer and the record, as the page has them
abbrev pub view : List ℕ → Described → page2.Description
view source r =
    record {
      number = r.number;
      end = r.end;
      head = record {
        field = r.field;
        d = r.depth;
        g = r.branch_bits;
        t = r.trees;
        ℓ = r.terms;
        n = r.outputs;
        code_key = r.code_key;
        label = r.label;
      };
      leaves = r.leaves;
      element_words = r.element_words;
      source = source;
    }

module _ (s : List ℕ) where
  described_is : (end : ℕ) (h : Head) → page2.described s end (head h) ≡ view s (library.described_head end h)
  described_is end h =
      ap (λ (w : ℕ). record { number = 0; end = end; head = head h; leaves = page.N (head h); element_words = w; source = s })
      (kind_is h.field).elements.width

  -- a record by its content
  unfoldable after : {A : Type 0} → Reading A → (A → page2.Description) → page2.Description
  after (Whole a) go = go a
  after (Refused k) go = page2.undescribed s k

  by-content : {A B : Type 0} (c : A → B) (r' : page.Read B) (r : Reading A) → content r' ≡ mapped c r
      → (go : B → page2.Description) (said : A → Described) → ((a : A) → go (c a) ≡ view s (said a))
      → page2.or_undescribed s r' go ≡ view s (after_reading r library.refused said)
  unfolding page2.or_undescribed content mapped after after_reading
  by-content c r' r e go said same = first r' ∙ ap (λ x. after x go) e ∙ second r
    where
      first : (x : page.Read _) → page2.or_undescribed s x go ≡ after (content x) go
      first (page.got a next) = refl
      first (page.fault k) = refl

      second : (x : Reading _) → after (mapped c x) go ≡ view s (after_reading x library.refused said)
      second (Whole a) = same a
      second (Refused k) = refl

  abbrev is_end : ℕ → Bool
  is_end e = eqb e 1 || eqb e 2

  pub describe_is : page2.describe s ≡ view s (library.describe s).answer
  unfolding page2.describe library.describe page2.or_undescribed read after_reading
  describe_is =
      ap (λ r. page2.or_undescribed s r by_end) (test_is page.read_byte s 0 (read_byte s 0) (byte_is s 0) is_end is_end (λ e. refl) wrong_end)
      ∙ go (tested (read_byte s 0) is_end wrong_end)
    where
      by_end : ℕ → page2.Description
      by_end e =
          page.when◌then◌else◌ (eqb e 1)
          (page2.or_undescribed s (page.read_noise s 0) (λ (h, trees). page2.described s 1 h))
          (page2.or_undescribed s (page.read_scalar s 0) (λ (h, Δ, roots). page2.described s 2 h))

      go : (r : Parsed ℕ) → page2.or_undescribed s (read (λ e. e) r) by_end ≡ view s (library.by_end s r)
      go (Refused n) = refl
      go (Whole x) =
          if_both (λ a b. a ≡ view s b) (eqb x.0 1) _ _ _ _
          (by-content _ _ _ (noise-content s) _ _ (λ P. described_is 1 P.head))
          (by-content _ _ _ (scalar-content s) _ _ (λ P. described_is 2 P.head))

pub describe-returned : (r : Described) (s s' : List ℕ) → library.description r s' ≡ library.describe s → view s' r ≡ page2.describe s
unfolding library.describe
describe-returned r s s' e = ap (λ (d : library.Description). view d.source d.answer) e ∙ sym (describe_is s)
