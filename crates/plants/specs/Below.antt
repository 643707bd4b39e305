-- A test at the numbers below another.
use Rattle.std.specs.Prelude.{ℕ, Bool, Option}
use Rattle.std.specs.List.{list_all, list_any, find, range_with_len}

-- the test passes at every number below n
abbrev pub all_below : (ℕ → Bool) → ℕ → Bool
all_below p n = list_all p (range_with_len 0 n)

-- the test passes at some number below n
abbrev pub any_below : (ℕ → Bool) → ℕ → Bool
any_below p n = list_any p (range_with_len 0 n)

-- the first number below n at which the test passes
abbrev pub first_below : (ℕ → Bool) → ℕ → Option ℕ
first_below p n = find p (range_with_len 0 n)
