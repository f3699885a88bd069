-- The circuit that clears the market, gate by gate as demo/market/clearing.c makes it. Words are lists of wires, lowest bit first.
use Rattle.std.specs.Prelude.{ℕ, zero, suc, ◌+◌, ◌*◌, ◌/◌, ◌%◌, ◌^◌, List, [], ◌∷◌, ◌++◌, map, eqb, get_or}
use Rattle.algebra.specs.Choice.{choose}
use Rattle.circuit.specs.Content.{Circuit}
use Rattle.market.specs.Building.{Part, give, then, each, xor, and, invert}

-- the carries out of the bits of two words, after a carry into the lowest: where a and b differ it goes on, where they agree it is theirs
unfoldable pub carries : ℕ → List ℕ → List ℕ → Part (List ℕ)
carries g [] ys = give []
carries g (a ∷ xs) [] = give []
carries g (a ∷ xs) (b ∷ ys) =
    then (xor b g) λ q. then (xor a g) λ p. then (and p q) λ r. then (xor g r) λ c. then (carries c xs ys) λ cs. give (c ∷ cs)

-- the sum's higher bits, from each bit's carry in; the last carry is its highest bit
unfoldable pub higher_sum : List ℕ → List ℕ → List ℕ → Part (List ℕ)
higher_sum (a ∷ xs) (b ∷ ys) (c ∷ cs) = then (xor a b) λ d. then (xor d c) λ s. then (higher_sum xs ys cs) λ ss. give (s ∷ ss)
higher_sum [] ys cs = give cs
higher_sum (a ∷ xs) [] cs = give cs
higher_sum (a ∷ xs) (b ∷ ys) [] = give []

-- the sum of two words, one bit wider: all carries first
unfoldable pub sum : List ℕ → List ℕ → Part (List ℕ)
sum (a ∷ xs) (b ∷ ys) =
    then (and a b) λ g. then (carries g xs ys) λ cs. then (xor a b) λ s. then (higher_sum xs ys (g ∷ cs)) λ ss. give (s ∷ ss)
sum [] ys = give []
sum (a ∷ xs) [] = give []

-- the last of wires
unfoldable pub last : ℕ → List ℕ → ℕ
last g [] = g
last g (c ∷ cs) = last c cs

-- the highest carry of two words
unfoldable pub highest_carry : List ℕ → List ℕ → Part ℕ
highest_carry (a ∷ xs) (b ∷ ys) = then (and a b) λ g. then (carries g xs ys) λ cs. give (last g cs)
highest_carry [] ys = give 0
highest_carry (a ∷ xs) [] = give 0

-- whether one word is less than another: NOT the first, and the second, carry
unfoldable pub less : List ℕ → List ℕ → Part ℕ
less xs ys = then (each invert xs) λ inverted. highest_carry inverted ys

-- the words of a level as both houses give them, and both houses' demand and supply there
pub record Given : Type 0 where
  pub buy₁ : List ℕ
  pub sell₁ : List ℕ
  pub buy₂ : List ℕ
  pub sell₂ : List ℕ

pub record Total : Type 0 where
  pub demand : List ℕ
  pub supply : List ℕ

unfoldable pub total : Given → Part Total
total g = then (sum g.buy₁ g.buy₂) λ d. then (sum g.sell₁ g.sell₂) λ s. give (record { demand = d; supply = s })

-- whether supply meets demand at a level
unfoldable pub meets : Total → Part ℕ
meets t = then (less t.supply t.demand) λ l. invert l

-- the mark of the lowest level at which it does: it does there, and at no level below
unfoldable pub marks_above : ℕ → List ℕ → Part (List ℕ)
marks_above none [] = give []
marks_above none (m ∷ ms) = then (and m none) λ l. then (xor none l) λ none'. then (marks_above none' ms) λ ls. give (l ∷ ls)

unfoldable pub marks : List ℕ → Part (List ℕ)
marks [] = give []
marks (m ∷ ms) = then (invert m) λ none. then (marks_above none ms) λ ls. give (m ∷ ls)

-- exclusive or of wires
unfoldable pub gather_to : ℕ → List ℕ → Part ℕ
gather_to w [] = give w
gather_to w (u ∷ us) = then (xor w u) λ x. gather_to x us

unfoldable pub gather : List ℕ → Part ℕ
gather [] = give 0
gather (w ∷ ws) = gather_to w ws

-- bit i of a number
abbrev pub bit : ℕ → ℕ → ℕ
bit i q = q / 2 ^ i % 2

-- of wires numbered from k those whose number has bit i
unfoldable pub having : ℕ → ℕ → List ℕ → List ℕ
having i k [] = []
having i k (w ∷ ws) = choose (eqb (bit i k) 1) (w ∷ having i (suc k) ws) (having i (suc k) ws)

-- bit i of the marked level's number: levels are numbered from 1
unfoldable pub level_bit : List ℕ → ℕ → Part ℕ
level_bit ms i = gather (having i 1 ms)

-- bit i of the word that is marked
unfoldable pub choose_to : ℕ → List ℕ → List ℕ → Part ℕ
choose_to w (m ∷ ms) (d ∷ ds) = then (and m d) λ x. then (xor w x) λ y. choose_to y ms ds
choose_to w [] ds = give w
choose_to w (m ∷ ms) [] = give w

unfoldable pub chosen : List ℕ → List ℕ → Part ℕ
chosen (m ∷ ms) (d ∷ ds) = then (and m d) λ x. choose_to x ms ds
chosen [] ds = give 0
chosen (m ∷ ms) [] = give 0

unfoldable pub quantity_bit : List ℕ → List Total → ℕ → Part ℕ
quantity_bit ms ts i = chosen ms (map (λ (t : Total). get_or t.demand i 0) ts)

-- n numbers, or wires, from k on
unfoldable pub from : ℕ → ℕ → List ℕ
from k zero = []
from k (suc n) = k ∷ from (suc k) n

-- the length of a number in binary
unfoldable pub length_within : ℕ → ℕ → ℕ
length_within zero n = 0
length_within (suc most) n = choose (eqb n 0) 0 (1 + length_within most (n / 2))

abbrev pub bit_length : ℕ → ℕ
bit_length n = length_within n n

-- the words of levels whose first stands at wire n: a curve is L words of b bits, of each house demand and then supply
unfoldable pub given_from : ℕ → ℕ → ℕ → ℕ → List Given
given_from curve b n zero = []
given_from curve b n (suc count) =
    record { buy₁ = from n b; sell₁ = from (n + curve) b; buy₂ = from (n + 2 * curve) b; sell₂ = from (n + 3 * curve) b }
    ∷ given_from curve b (n + b) count

-- the parts in order; the result is the level's number and then the quantity
unfoldable pub clearing : ℕ → ℕ → Part (List ℕ)
clearing L b =
    then (each total (given_from (L * b) b 0 L)) λ totals.
    then (each meets totals) λ met.
    then (marks met) λ marked.
    then (each (level_bit marked) (from 0 (bit_length L))) λ level.
    then (each (quantity_bit marked totals) (from 0 (b + 1))) λ quantity.
    give (level ++ quantity)

-- the circuit for L levels and quantities of b bits
unfoldable pub clearing_circuit : ℕ → ℕ → Circuit
clearing_circuit L b =
    let inputs : ℕ = 4 * (L * b) in
    let built = clearing L b inputs in
    record { inputs = inputs; gates = built.gates; outputs = built.result }
