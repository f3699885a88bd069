-- Inner: no promise cites this file. Two records that are checked, their outputs, and how many hold.
use Rattle.std.specs.Prelude.{◌≡◌, Bool, ◌&&◌, List, ℕ, zero, suc, ◌+◌, ◌^◌, ◌≤◌, ◌<◌, eqb, length}
use Rattle.algebra.specs.Choice.{choose}
use Rattle.algebra.specs.Coding.{at}
use Rattle.algebra.specs.Field.{Field}
use Rattle.field.specs.Kind.{kind_of}
use Rattle.record.specs.declared.Layout.{Layout}
use Rattle.record.specs.Answer.{head_of}
use Rattle.ends.specs.Inner.Noise as noise
use Rattle.ends.specs.Inner.Scalar as scalar
use Rattle.pairing.specs.Verdict.{u_at, v_at, w_at, holds}

-- field and sizes all equal
abbrev pub same_sizes : Layout → Layout → Bool
same_sizes p q =
    eqb p.field q.field && eqb p.depth q.depth && eqb p.branch_bits q.branch_bits && eqb p.trees q.trees
    && eqb p.terms q.terms && eqb p.outputs q.outputs

-- a record whose code key and label lie before the body
pub record KeyIn (s : List ℕ) (f : Layout) : Type 0 where
  pub key : 32 ≤ f.body
  pub room : f.body ≤ length s

-- two records of one dealing of at most 1,024 leaves
pub record Paired (s : List ℕ) (p : Layout) (t : List ℕ) (q : Layout) : Type 0 where
  pub head : head_of t q ≡ head_of s p
  pub small : 2 ^ p.depth ≤ 1024
  pub small_too : 2 ^ q.depth ≤ 1024

-- words that are u and v at every output of a noise record
pub record NoiseOutputs (s : List ℕ) (f : Layout) (u v : List ℕ) : Type 0 where
  pub u_is : (x : ℕ) → x < f.outputs → at (kind_of f.field).field.noise_values u x ≡ u_at (noise.content_of s f) x
  pub v_is : (x : ℕ) → x < f.outputs → at (kind_of f.field).field.elements v x ≡ v_at (noise.content_of s f) x

-- words that are w at every output of a scalar record, and words that are its Δ
pub record ScalarOutputs (t : List ℕ) (f : Layout) (w delta : List ℕ) : Type 0 where
  pub w_is : (x : ℕ) → x < f.outputs → at (kind_of f.field).field.elements w x ≡ w_at (scalar.content_of t f) x
  pub delta_is : (kind_of f.field).field.elements.read delta 0 ≡ (kind_of f.field).field.elements.read (scalar.content_of t f).delta 0

-- 1 for what holds
abbrev pub counted : Bool → ℕ
counted t = choose t 1 0

-- w = Δu + v at output x, from the words of Δ, u, v and w
unfoldable pub holds_at : Field → List ℕ → List ℕ → List ℕ → List ℕ → ℕ → Bool
holds_at F delta u v w x = holds F (F.elements.read delta 0) (at F.noise_values u x) (at F.elements v x) (at F.elements w x)

-- how many of the outputs 0 to n − 1 hold
unfoldable pub held_words : Field → List ℕ → List ℕ → List ℕ → List ℕ → ℕ → ℕ
held_words F delta u v w zero = 0
held_words F delta u v w (suc n) = held_words F delta u v w n + counted (holds_at F delta u v w n)
