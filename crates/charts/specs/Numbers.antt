-- A chart's state as numbers.
use Rattle.std.specs.Prelude.{ℕ, List, [], ◌∷◌, Some, None, Option}

-- the one number of a step
abbrev pub step_numbers : ℕ → List ℕ
step_numbers step = step ∷ []

-- the step that a list of numbers is: one number is a step, and no other list is
abbrev pub step_of : List ℕ → Option ℕ
step_of [] = None
step_of (n ∷ []) = Some n
step_of (n ∷ m ∷ ns) = None
