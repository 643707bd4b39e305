-- The priorities of the classes, and the rule that they follow.
use Rattle.std.specs.Prelude.{ℕ, ◌-◌, ◌*◌, cond, List, [], ◌∷◌, Some, None, Option, nat_lt, slice_index}

-- how many classes there are
abbrev pub classes : ℕ
classes = 24

-- the priorities of classes 0 to 23
abbrev pub priorities : List ℕ
priorities =
    250 ∷ 240 ∷ 230 ∷ 220 ∷ 210 ∷ 200 ∷ 190 ∷ 180 ∷ 150 ∷ 145 ∷ 140 ∷ 135 ∷ 130 ∷ 125 ∷ 120 ∷ 115 ∷ 80 ∷ 75 ∷ 70 ∷ 65 ∷ 60 ∷ 55 ∷ 50 ∷ 45 ∷ []

-- the value at a class, and none at a number that is no class
abbrev pub at_class : (ℕ → ℕ) → ℕ → Option ℕ
at_class f class = cond (nat_lt class classes) (Some (f class)) None

abbrev pub priority_of : ℕ → Option ℕ
priority_of = at_class (λ class. slice_index priorities class)

-- three bands of eight classes: from 250 down by tens, from 150 down by fives, from 80 down by fives
abbrev pub band : ℕ → ℕ
band class = cond (nat_lt class 8) (250 - 10 * class) (cond (nat_lt class 16) (150 - 5 * (class - 8)) (80 - 5 * (class - 16)))

abbrev pub by_bands : ℕ → Option ℕ
by_bands = at_class band
