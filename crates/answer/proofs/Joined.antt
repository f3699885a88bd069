-- Tests in two lists, one after the other: what both ask for.
use mathlib.Core.List.{List, [], ◌∷◌, ◌++◌}
use Rattle.answer.specs.Tests.{Test, ◌or◌, AllSaid, AllMet}

said_before : (tests later : List Test) → AllSaid (tests ++ later) → AllSaid tests
said_before [] later s = tt
said_before (a or n ∷ tests) later s = (s.0, said_before tests later s.1)

said-after : (tests later : List Test) → AllSaid (tests ++ later) → AllSaid later
said-after [] later s = s
said-after (a or n ∷ tests) later s = said-after tests later s.1

said-both : (tests later : List Test) → AllSaid tests → AllSaid later → AllSaid (tests ++ later)
said-both [] later s u = u
said-both (a or n ∷ tests) later s u = (s.0, said-both tests later s.1 u)

module _ (tests later : List Test) where
  pub met_before : AllMet (tests ++ later) → AllMet tests
  met_before m = record { all = said_before tests later m.all }

  pub met_after : AllMet (tests ++ later) → AllMet later
  met_after m = record { all = said-after tests later m.all }

  pub met_both : AllMet tests → AllMet later → AllMet (tests ++ later)
  met_both m k = record { all = said-both tests later m.all k.all }
