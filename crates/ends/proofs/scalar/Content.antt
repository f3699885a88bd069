-- What an accepted record's numbers say: its content stands at the places that they give.
use mathlib.Core.Path.{◌≡◌, sym, ap, ◌∙◌}
use mathlib.Core.List.{List}
use Prim.Native.Nat.{ℕ}
use Rattle.number.specs.Reading.{Whole}
use Rattle.record.specs.Content.{Head, ScalarPart}
use Rattle.record.specs.Reading.{read_head, read_scalar}
use Rattle.record.specs.Answer.{head_of, head_if_whole}
use Rattle.record.specs.declared.Layout.{Layout}
use Rattle.record.proofs.Callers.{scalar-content}
use Rattle.window.proofs.Sizes.{head-sizes}
use Rattle.ends.specs.Inner.Scalar.{content_of, Ready}

-- contents are equal by their parts
parts : (P : ScalarPart) {h : Head} {d : List ℕ} {r : List (List ℕ)} → P.head ≡ h → P.delta ≡ d → P.roots ≡ r
    → P ≡ record { head = h; delta = d; roots = r }
parts P a b c = rw (← a, ← b, ← c)

pub ready : (s : List ℕ) {f : Layout} → Whole (head_of s f, f.body) ≡ head_if_whole (read_scalar s) (read_head 2 s) → Ready s f
ready s {f} e =
    let o = scalar-content s (sym e) in
    let p : o.0 ≡ content_of s f =
    parts o.0 o.1.same o.1.delta o.1.roots in
    record { read = o.1.whole ∙ ap Whole p; sizes = head-sizes 2 s o.1.head; room = o.1.room }
