-- Building a circuit part by part, without a thought for the numbers of wires: a part is told which wire comes next, and gives its gates
-- and what the parts after it need of it, such as the wires of a sum.
use Rattle.std.specs.Prelude.{ℕ, ◌+◌, List, [], ◌∷◌, ◌++◌, length}
use Rattle.circuit.specs.Content.{Gate, Xor, And, Not}

-- what a part gives
pub record Built (A : Type 0) : Type 0 where
  pub gates : List Gate
  pub result : A

-- a part: from the wire of its first gate, what it gives
abbrev pub Part : Type 0 → Type 0
Part A = ℕ → Built A

-- no gates
unfoldable pub give : {A : Type 0} → A → Part A
give x n = record { gates = []; result = x }

-- one part after another, which may use the result of the first
unfoldable pub then : {A B : Type 0} → Part A → (A → Part B) → Part B
then p q n =
    let r = p n in
    let s = q r.result (n + length r.gates) in
    record { gates = r.gates ++ s.gates; result = s.result }

-- a part for each of a list, in order
unfoldable pub each : {A B : Type 0} → (A → Part B) → List A → Part (List B)
each f [] = give []
each f (x ∷ xs) = then (f x) λ y. then (each f xs) λ ys. give (y ∷ ys)

-- one gate; its result is its own wire
unfoldable pub xor : ℕ → ℕ → Part ℕ
xor a b n = record { gates = Xor a b ∷ []; result = n }

unfoldable pub and : ℕ → ℕ → Part ℕ
and a b n = record { gates = And a b ∷ []; result = n }

unfoldable pub invert : ℕ → Part ℕ
invert a n = record { gates = Not a ∷ []; result = n }
