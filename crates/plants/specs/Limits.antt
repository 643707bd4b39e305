-- The limits of a plant.
use Rattle.std.specs.Prelude.{ℕ}

-- the greatest number of ticks that a field of a task may be
abbrev pub most_ticks : ℕ
most_ticks = 255

abbrev pub most_resources : ℕ
most_resources = 4

abbrev pub most_tasks : ℕ
most_tasks = 8
