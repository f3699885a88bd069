-- What each return gives: the head that was read, or the number of the record's fault. Assumes nothing.
use mathlib.Core.List.{List}
use mathlib.Core.Path.{◌≡◌, refl, sym, ap}
use Prim.Native.Nat.{ℕ, ◌≤◌, ◌<◌}
use native.Mathlib.Omega.{arith}
use borrow.Author.Tests.{lt-ltb, le-ltb, ne_eqb}
use lib.ListN.{length, get_or}
use Rattle.number.specs.Reading.{Whole, Refused, tested, read_byte, after_reading}
use Rattle.number.proofs.Records.{read-refused, read_whole}
use Rattle.number.proofs.Places.{either}
use Rattle.record.specs.Content.{NoisePart, ScalarPart}
use Rattle.record.specs.Reading.{read_head, read_noise, read_scalar}
use Rattle.record.specs.Answer.{head_of, head_if_whole}
use Rattle.record.specs.declared.Layout.{Layout}
use Rattle.record.proofs.Callers.{head_ranges, noise-refused, noise-content, scalar-refused, scalar-content}
use Rattle.record_describe.specs.declared.Described.{Described}
use Rattle.record_describe.specs.Describe.{described_head, refused, said, description, describe}
use Rattle.window.proofs.Sizes.{head-sizes}

-- what a head that was read says of its numbers, and that its code key and its label stand before the body
pub record Reads (s : List ℕ) (f : Layout) : Type 0 where
  pub depth : f.depth ≤ 16
  pub field : f.field < 256
  pub key : 32 ≤ f.body
  pub room : f.body ≤ length s

head-reads : (end : ℕ) (s : List ℕ) (f : Layout) → read_head end s ≡ Whole (head_of s f, f.body) → Reads s f
head-reads end s f e =
    let r = head_ranges end s e in
    let z = head-sizes end s e in
    record {
      depth = z.depth;
      field = either f.field 1 (λ e. omega arith) (λ n. let e = r.field n in omega arith);
      key = z.key;
      room = z.room;
    }

-- ---- the noise record

module _ (s : List ℕ) where
  pub noise-fault : {k : ℕ} → Refused k ≡ head_if_whole (read_noise s) (read_head 1 s) → refused k ≡ said 1 (λ P. P.head) (read_noise s)
  noise-fault {k} y = read-refused _ _ _ _ k (noise-refused s (sym y)) refl

  module _ {f : Layout} (y : Whole (head_of s f, f.body) ≡ head_if_whole (read_noise s) (read_head 1 s)) where
    noise-layout : (p : NoisePart) × (read_noise s ≡ Whole p) × (p.head ≡ head_of s f) × Reads s f
    noise-layout = let o = noise-content s (sym y) in (o.0, o.2.whole, o.2.same, head-reads 1 s f o.2.head)

    pub noise-reads : Reads s f
    noise-reads = noise-layout.3

    pub noise-accepted : described_head 1 (head_of s f) ≡ said 1 (λ P. P.head) (read_noise s)
    noise-accepted = let o = noise-layout in read_whole _ _ _ _ o.0 o.1 (ap (described_head 1) (sym o.2))

-- ---- the scalar record

module _ (s : List ℕ) where
  pub scalar-fault : {k : ℕ} → Refused k ≡ head_if_whole (read_scalar s) (read_head 2 s) → refused k ≡ said 2 (λ P. P.head) (read_scalar s)
  scalar-fault {k} y = read-refused _ _ _ _ k (scalar-refused s (sym y)) refl

  module _ {f : Layout} (y : Whole (head_of s f, f.body) ≡ head_if_whole (read_scalar s) (read_head 2 s)) where
    scalar-layout : (p : ScalarPart) × (read_scalar s ≡ Whole p) × (p.head ≡ head_of s f) × Reads s f
    scalar-layout = let o = scalar-content s (sym y) in (o.0, o.1.whole, o.1.same, head-reads 2 s f o.1.head)

    pub scalar-reads : Reads s f
    scalar-reads = scalar-layout.3

    pub scalar-accepted : described_head 2 (head_of s f) ≡ said 2 (λ P. P.head) (read_scalar s)
    scalar-accepted = let o = scalar-layout in read_whole _ _ _ _ o.0 o.1 (ap (described_head 2) (sym o.2))

-- ---- the end byte

module _ (s : List ℕ) where
  pub empty_said : length s ≤ 0 → {a : Described} → a ≡ refused 10 → description a s ≡ describe s
  unfolding describe tested read_byte after_reading
  empty_said h g = rw (le-ltb 0 (length s) h) (rw g)

  module _ (some : 0 < length s) where
    pub noise-said : get_or s 0 0 ≡ 1 → {a : Described} → a ≡ said 1 (λ P. P.head) (read_noise s) → description a s ≡ describe s
    unfolding describe tested read_byte after_reading
    noise-said e g = rw (lt-ltb 0 (length s) some, e) (rw g)

    pub scalar-said : get_or s 0 0 ≡ 2 → {a : Described} → a ≡ said 2 (λ P. P.head) (read_scalar s) → description a s ≡ describe s
    unfolding describe tested read_byte after_reading
    scalar-said e g = rw (lt-ltb 0 (length s) some, e) (rw g)

    pub neither-said : (get_or s 0 0 ≡ 1 → ⊥) → (get_or s 0 0 ≡ 2 → ⊥) → {a : Described} → a ≡ refused 9 → description a s ≡ describe s
    unfolding describe tested read_byte after_reading
    neither-said m n g = rw (lt-ltb 0 (length s) some, ne_eqb (get_or s 0 0) 1 m, ne_eqb (get_or s 0 0) 2 n) (rw g)
