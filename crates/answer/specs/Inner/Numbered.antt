-- Inner: no promise cites this file. No test of a call gives 0 for its fault, or another number.
use Rattle.std.specs.Prelude.{Bool, true, false, not, ◌&&◌, List, [], ◌∷◌, ℕ, zero, suc, eqb}
use Rattle.answer.specs.Tests.{Test, ◌or◌}

-- every test's number is that of a fault
abbrev pub numbered : List Test → Bool
numbered [] = true
numbered (a or zero ∷ tests) = false
numbered (a or suc n ∷ tests) = numbered tests

-- no test has this number
abbrev pub apart : ℕ → List Test → Bool
apart k [] = true
apart k (a or n ∷ tests) = not (eqb n k) && apart k tests
