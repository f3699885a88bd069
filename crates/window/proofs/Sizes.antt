-- The sizes of a head that was read are in their ranges, and its code key and its label are the 32 bytes before the body.
use mathlib.Core.Path.{◌≡◌, ap}
use mathlib.Core.List.{List}
use Prim.Native.Nat.{ℕ, ◌+◌, ◌≤◌}
use native.Mathlib.Omega.{arith}
use lib.Dec.{leb}
use lib.ListN.{length}
use lib.Pow.{pow_mono}
use borrow.Author.Tests.{leb-true}
use Rattle.number.specs.Reading.{Whole, part, read_bytes}
use Rattle.number.proofs.Places.{choose-whole}
use Rattle.record.specs.Content.{Head}
use Rattle.record.specs.Reading.{read_head}
use Rattle.record.proofs.Callers.{head_ranges}
use Rattle.record.proofs.Parts.{head_parts}
use Rattle.window.specs.Inner.Sizes.{Sizes}

pub head-sizes : (end : ℕ) (s : List ℕ) {h : Head} {body : ℕ} → read_head end s ≡ Whole (h, body) → Sizes s h body
unfolding read_bytes
head-sizes end s {h} {body} e =
    let p = head_parts end s e in
    let r = head_ranges end s e in
    let c = choose-whole (leb (p.at6 + 16) (length s)) (part s p.at6 16, p.at6 + 16) 10 p.code_key in
    let a = choose-whole (leb (p.at7 + 16) (length s)) (part s p.at7 16, p.at7 + 16) 10 p.label in
    let k : p.at6 + 16 ≡ p.at7 = ap (λ (z : List ℕ × ℕ). z.1) c.1 in
    let b : p.at7 + 16 ≡ body = ap (λ (z : List ℕ × ℕ). z.1) a.1 in
    let l : p.at7 + 16 ≤ length s = leb-true _ _ a.0 in
    record {
      depth = r.depth-most;
      branch = record { two = r.branch_least; eight = r.branch-most };
      divides = r.branch-divides;
      some = r.terms_least;
      terms = r.terms-most;
      full = r.terms-leaves;
      outputs = omega (arith, r.outputs-most, pow_mono r.depth-most);
      key = omega arith;
      room = omega arith;
    }
