-- Sums of any kind after a row's first terms: none, one term more, a turn of two or of the last, and all.
use mathlib.Core.List.{List}
use mathlib.Core.Path.{◌≡◌, refl}
use Prim.Native.Nat.{ℕ, ◌+◌, ◌<◌, ◌≤◌}
use native.Mathlib.Numerals.{add-one}
use native.Mathlib.Omega.{arith}
use Rattle.aes128.specs.Inner.Blocks.{cipher_of}
use Rattle.field.specs.declared.block.Block.{Block}
use Rattle.field.specs.Binary.{block}
use Rattle.code.specs.declared.Shape.{Shape}
use Rattle.code.specs.Inner.Rows.{place_by}
use Rattle.rows.specs.Inner.Sums.{terms_to}
use Rattle.rows.specs.Inner.Walked.{Walked}
use Rattle.rows.proofs.Turns.{to_none, to_below, to_past, to_two, to_last}

module _ {S : Type 0} (Added : ℕ → ℕ → S → S → Type 0) (keys : List ℕ) (s : Shape) (x : ℕ) (start : S) where
  pub walked-none : 1 ≤ s.terms → Walked Added keys s x start (terms_to s 0) start
  unfolding Walked
  walked-none some = rw (to_none s some) refl

  walked_more : (i : ℕ) {b : Block} → b ≡ cipher_of keys (block x i) → {m r : S} → Walked Added keys s x start i m
      → Added (place_by s i b.low) b.high m r → Walked Added keys s x start (i + 1) r
  unfolding Walked
  walked_more i p {m} walked added = rw add-one (m, walked, rw p at added)

  module _ (i : ℕ) {m : S} (walked : Walked Added keys s x start (terms_to s i) m)
      {b : Block} (first : b ≡ cipher_of keys (block x i)) {next : S} (added : Added (place_by s i b.low) b.high m next) where
    pub walked-last : i < s.terms → s.terms ≤ i + 1 → Walked Added keys s x start (terms_to s (i + 2)) next
    walked-last h k = rw (to_last s i h k) (walked_more i first (rw (to_below s i h) at walked) added)

    pub walked-two : i + 1 < s.terms → {c : Block} → c ≡ cipher_of keys (block x (i + 1)) → {both : S}
        → Added (place_by s (i + 1) c.low) c.high next both → Walked Added keys s x start (terms_to s (i + 2)) both
    walked-two h second more =
        rw (to_two s i h) (walked_more (i + 1) second (walked_more i first (rw (to_below s i (omega arith)) at walked) added) more)

  pub walked-all : (i : ℕ) (m : S) → s.terms ≤ i → Walked Added keys s x start (terms_to s i) m → Walked Added keys s x start s.terms m
  walked-all i m h walked = rw (to_past s i h) at walked
