-- What the pair program finds of two records (document 01, 'Cases', the pair program; document 02, 8), in the order of its
-- answers.
use Rattle.std.specs.Prelude.{Bool, true, false, ◌&&◌, ◌||◌, not, List, [], ◌∷◌, ℕ, zero, suc, ◌+◌, ltb, eqb}
use Rattle.algebra.specs.Choice.{choose}
use Rattle.algebra.specs.Field.{Field, NoiseValue, Value}
use Rattle.algebra.specs.Group.{itself}
use Rattle.algebra.specs.Row.{output}
use Rattle.algebra.specs.Sum.{accumulate}
use Rattle.number.specs.Reading.{Reading, Whole, Refused}
use Rattle.record.specs.Content.{Head, NoiseTree, NoisePart, ScalarPart}
use Rattle.record.specs.Reading.{read_noise, read_scalar}
use Rattle.window.specs.Head.{field_of, places, row}
use Rattle.ends.specs.Noise.Vectors as noise_end
use Rattle.ends.specs.Scalar.Vectors as scalar_end

pub data Verdict : Type 0 where
  -- a record is refused with this number
  Refusal : ℕ → Verdict
  -- a record has more than 1,024 leaves
  TooLarge : Verdict
  -- field, sizes, code key and label are not all equal
  Different : Verdict
  -- the outputs tried, and those where w = Δu + v
  Checked : ℕ → ℕ → Verdict

-- two lists of numbers are equal
unfoldable pub same_list : List ℕ → List ℕ → Bool
same_list [] [] = true
same_list [] (b ∷ m) = false
same_list (a ∷ l) [] = false
same_list (a ∷ l) (b ∷ m) = eqb a b && same_list l m

-- the same dealing: field, sizes (g among them, document 02, 10), code key and label all equal (document 02, 8)
unfoldable pub same_dealing : Head → Head → Bool
same_dealing h k =
    eqb h.field k.field
    && eqb h.depth k.depth
    && eqb h.branch_bits k.branch_bits
    && eqb h.trees k.trees
    && eqb h.terms k.terms
    && eqb h.outputs k.outputs
    && same_list h.code_key k.code_key
    && same_list h.label k.label

-- u and v at output x, from the noise record alone, and w, from the scalar record alone
abbrev pub u_at : (P : NoisePart) → ℕ → NoiseValue (field_of P.head)
u_at P x = output (itself (field_of P.head).ring) (row P.head x) (accumulate (field_of P.head).ring.group (noise_end.mu P))

abbrev pub v_at : (P : NoisePart) → ℕ → Value (field_of P.head)
v_at P x = output (field_of P.head).scaled (row P.head x) (accumulate (field_of P.head).scaled.group (noise_end.v0 P))

abbrev pub w_at : (Q : ScalarPart) → ℕ → Value (field_of Q.head)
w_at Q x = output (field_of Q.head).scaled (row Q.head x) (accumulate (field_of Q.head).scaled.group (scalar_end.w0 Q))

-- w = Δu + v, in the words of both sides
unfoldable pub holds : (F : Field) → Value F → NoiseValue F → Value F → Value F → Bool
holds F Δ u v w = same_list (F.elements.words w) (F.elements.words (F.scaled.group.add (F.scaled.scale u Δ) v))

-- two records of one dealing: the head that they share, the noise record's trees, and the scalar record's Δ and roots
pub record Pair : Type 0 where
  pub head : Head
  pub trees : List NoiseTree
  pub delta : List ℕ
  pub roots : List (List ℕ)

-- each record of a pair, under the one head
abbrev pub noise_of : Pair → NoisePart
noise_of D = record { head = D.head; trees = D.trees }

abbrev pub scalar_of : Pair → ScalarPart
scalar_of D = record { head = D.head; delta = D.delta; roots = D.roots }

-- the pair of two records that have one head
abbrev pub pair_of : NoisePart → ScalarPart → Pair
pair_of P Q = record { head = P.head; trees = P.trees; delta = Q.delta; roots = Q.roots }

-- w = Δu + v at output x of a pair
unfoldable pub held_at : Pair → ℕ → Bool
held_at D x = holds (field_of D.head) (scalar_end.delta (scalar_of D)) (u_at (noise_of D) x) (v_at (noise_of D) x) (w_at (scalar_of D) x)

-- how many of the outputs 0 to n − 1 hold
unfoldable pub held_of : Pair → ℕ → ℕ
held_of D zero = 0
held_of D (suc n) = held_of D n + choose (held_at D n) 1 0

-- two accepted records
unfoldable pub paired : NoisePart → ScalarPart → Verdict
paired P Q =
    choose (ltb 1024 (places P.head) || ltb 1024 (places Q.head)) TooLarge
    (choose (not (same_dealing P.head Q.head)) Different
    (Checked P.head.outputs (held_of (pair_of P Q) P.head.outputs)))

-- the noise record's number if both are refused
unfoldable pub verdict : List ℕ → List ℕ → Verdict
verdict noise scalar = from (read_noise noise) (read_scalar scalar)
  where
    from : Reading NoisePart → Reading ScalarPart → Verdict
    from (Refused k) r = Refusal k
    from (Whole P) (Refused k) = Refusal k
    from (Whole P) (Whole Q) = paired P Q
