-- The pass over the inputs: a known one stays, another takes its share. Assumes nothing.
use Prim.Native.Nat.{ℕ, suc, ◌+◌, ◌≤◌, ◌<◌}
use mathlib.Core.List.{List, [], ◌∷◌, ◌++◌, append_assoc}
use mathlib.Core.Path.{◌≡◌, refl, sym, ap, ◌∙◌}
use native.Mathlib.Numerals.{add-one}
use native.Mathlib.Omega.{arith}
use lib.ListN.{length, get_or, take, drop, set}
use lib.Seq.{set_at, get_or_at, take-suc, drop-cons, get_or-drop, length-take-le}
use Rattle.circuit_run.specs.Inner.RoundGates.{input_byte}
use Rattle.circuit_run.specs.Round.{input_bytes}

pub inputs-length : (shares bytes : List ℕ) → length (input_bytes shares bytes) ≡ length shares
unfolding input_bytes
inputs-length [] bytes = refl
inputs-length (x ∷ shares) bytes = ap suc (inputs-length shares (drop 1 bytes))

inputs_more : (shares : List ℕ) (x : ℕ) (bytes : List ℕ)
    → input_bytes (shares ++ (x ∷ [])) bytes ≡ input_bytes shares bytes ++ (input_byte (get_or bytes (length shares) 0) x ∷ [])
unfolding input_bytes
inputs_more [] x bytes = refl
inputs_more (y ∷ shares) x bytes =
    ap (λ (l : List ℕ). input_byte (get_or bytes 0 0) y ∷ l)
    (inputs_more shares x (drop 1 bytes)
    ∙ ap (λ (b : ℕ). input_bytes shares (drop 1 bytes) ++ (input_byte b x ∷ []))
    (get_or-drop 1 bytes (length shares) 0 ∙ ap (λ (n : ℕ). get_or bytes n 0) {x = 1 + length shares} {y = suc (length shares)} (omega arith)))

pub record InputTurn (shares before wires : List ℕ) (i : ℕ) : Type 0 where
  pub turns : i ≤ length shares
  pub taken : wires ≡ input_bytes (take i shares) before ++ drop i before

pub input-start : (shares before : List ℕ) → InputTurn shares before before 0
unfolding input_bytes
input-start shares before = record { turns = omega arith; taken = refl }

module _ {shares before wires : List ℕ} {i : ℕ} (few : length shares ≤ 4096) (long : length before ≡ 4096) (turn : InputTurn shares before wires i) where
  pub input-next : {b : ℕ} → i < length shares → b ≡ input_byte (get_or wires i 0) (get_or shares i 0) → InputTurn shares before (set wires i b) (i + 1)
  input-next {b} more e =
      let p : List ℕ = input_bytes (take i shares) before in
      let q : List ℕ = drop (suc i) before in
      let n : length (take i shares) ≡ i = length-take-le i shares (omega arith) in
      let m : length p ≡ i = inputs-length (take i shares) before ∙ n in
      let w : wires ≡ p ++ (get_or before i 0 ∷ q) = turn.taken ∙ ap (λ (l : List ℕ). p ++ l) (drop-cons before i 0 (omega arith)) in
      let g : get_or wires i 0 ≡ get_or before i 0 = ap (λ (l : List ℕ). get_or l i 0) w ∙ get_or_at p (get_or before i 0) q 0 i m in
      let t : take (i + 1) shares ≡ take i shares ++ (get_or shares i 0 ∷ []) = ap (λ (k : ℕ). take k shares) (add-one i) ∙ take-suc shares i 0 more in
      let v : input_bytes (take (i + 1) shares) before ≡ p ++ (b ∷ []) =
      ap (λ (l : List ℕ). input_bytes l before) t
      ∙ inputs_more (take i shares) (get_or shares i 0) before
      ∙ ap (λ (k : ℕ). p ++ (input_byte (get_or before k 0) (get_or shares i 0) ∷ [])) n
      ∙ ap (λ (x : ℕ). p ++ (x ∷ [])) (sym (e ∙ ap (λ (x : ℕ). input_byte x (get_or shares i 0)) g)) in
      record {
        turns = omega arith;
        taken =
            ap (λ (l : List ℕ). set l i b) w
            ∙ set_at p (get_or before i 0) q b i m
            ∙ sym (append_assoc p (b ∷ []) q)
            ∙ ap (λ (l : List ℕ). l ++ q) (sym v)
            ∙ ap (λ (k : ℕ). input_bytes (take (i + 1) shares) before ++ drop k before) (sym (add-one i));
      }
