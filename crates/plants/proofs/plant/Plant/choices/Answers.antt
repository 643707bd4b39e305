-- The count fits 32 bits.
use native.Mathlib.Nat.{pow-le-pow_right}
use Rattle.std.proofs.Common.{arith}
use Rattle.plants.proofs.plant.Plant.choices.Goals as goal

pub pow-requires : goal.pow-requires
pow-requires g c = omega (arith, pow-le-pow_right {n = 4} (omega arith) c.len.ensures.fits)
