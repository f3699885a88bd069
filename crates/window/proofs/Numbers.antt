-- Numbers of words that fit a word, and what the tests 3, 7 and 13 of an online call say of a vector, a window and a buffer.
use mathlib.Core.Path.{◌≡◌}
use mathlib.Core.List.{List}
use Prim.Native.Nat.{ℕ, ◌+◌, ◌*◌, ◌^◌, ◌≤◌}
use native.Mathlib.Nat.{mul-le-mul}
use native.Mathlib.Omega.{arith}
use mir.Syntax.{w64}
use mir.Val.{Fits}
use Rattle.answer.specs.Tests.{first_fault}
use Rattle.answer.proofs.Faults.{is_so, at-most}
use Rattle.code.specs.declared.Window.{Window}
use Rattle.field.specs.Kind.{element_words}
use Rattle.field.proofs.Widths.{width-most}
use Rattle.record.specs.declared.Layout.{Layout}
use Rattle.record.specs.Answer.{head_of}
use Rattle.window.specs.Inner.Numbers.{length_tests, element_tests}
use Rattle.window.specs.Inner.Outputs.{rows_of, shape_of}
use Rattle.window.specs.Inner.Sizes.{Sizes}
use Rattle.window.specs.Inner.Testing.{Fitting}

-- the elements of a window that ends at 32768 or before fit a word
pub count_fits : (field : ℕ) {width : ℕ} → width ≡ element_words field → (first count : ℕ) → first + count ≤ 32768 → Fits w64 (count * width)
count_fits field {width} we first count within =
    let c : count ≤ 32768 = omega arith in
    let m : count * width ≤ 32768 * 2 = rw we (mul-le-mul c (width-most field)) in
    record { fits = omega arith }

-- a vector, a window and a buffer that pass all three tests fit each other
pub passed_fits : (width : ℕ) (s : List ℕ) (f : Layout) (vector : ℕ) (w : Window) (room : ℕ) → Sizes s (head_of s f) f.body
    → vector ≡ 2 ^ f.depth * width → w.first + w.count ≤ f.outputs → w.count * width ≤ room
    → Fitting width (shape_of f) (rows_of f w) vector room
passed_fits width s f vector w room sizes whole within enough =
    record { testing = record { whole = whole; within = omega (arith, sizes.outputs) }; enough = enough }

-- with as many words of noise as there are places, and as much room for u as the window's count, the tests of the elements are left
pub elements-alone : (f : Layout) (vector : ℕ) (w : Window) (room : ℕ) {noise : ℕ} → noise ≡ 2 ^ f.depth
    → first_fault (length_tests f noise vector w w.count room) ≡ first_fault (element_tests f vector w room)
unfolding first_fault
elements-alone f vector w room e = rw (is_so _ _ e, at-most w.count w.count (omega arith))
