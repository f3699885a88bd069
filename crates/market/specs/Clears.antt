-- What clears a market of L levels, numbered from 1, with a demand and a supply at each. Curves need not be monotone.
use Rattle.std.specs.Prelude.{ℕ, ◌≤◌, ◌<◌, ◌≡◌, ◌⊎◌}

-- the lowest level at which supply is at least demand, with the demand there as quantity
pub record At (L : ℕ) (demand supply : ℕ → ℕ) (level quantity : ℕ) : Type 0 where
  pub first : 1 ≤ level
  pub top : level ≤ L
  pub meets : demand level ≤ supply level
  pub lowest : (k : ℕ) → 1 ≤ k → k < level → supply k < demand k
  pub traded : quantity ≡ demand level

-- level 0 and quantity 0, where supply is below demand at every level
pub record Nowhere (L : ℕ) (demand supply : ℕ → ℕ) (level quantity : ℕ) : Type 0 where
  pub none : (k : ℕ) → 1 ≤ k → k ≤ L → supply k < demand k
  pub level_0 : level ≡ 0
  pub quantity_0 : quantity ≡ 0

abbrev pub Clears : ℕ → (ℕ → ℕ) → (ℕ → ℕ) → ℕ → ℕ → Type 0
Clears L demand supply level quantity = At L demand supply level quantity ⊎ Nowhere L demand supply level quantity

-- there is exactly one such level and quantity
abbrev pub OnePrice : Type 0
OnePrice =
    (L : ℕ) (demand supply : ℕ → ℕ) → (level : ℕ) × (quantity : ℕ) × Clears L demand supply level quantity
    × ((k q : ℕ) → Clears L demand supply k q → (k ≡ level) × (q ≡ quantity))
