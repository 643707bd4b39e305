-- One bit of a number, and the number of given bits.
use Rattle.std.specs.Prelude.{ℕ, ◌/◌, ◌%◌, ◌^◌, Bool, cond, ◌==◌, bit_or}
use Rattle.std.specs.List.{fold, range_with_len}

abbrev pub bit : ℕ → ℕ → Bool
bit n i = n / 2 ^ i % 2 == 1

-- the bits below n at which the test passes
abbrev pub bits_below : (ℕ → Bool) → ℕ → ℕ
bits_below p n = fold (λ m k. cond (p k) (bit_or m (2 ^ k)) m) 0 (range_with_len 0 n)
