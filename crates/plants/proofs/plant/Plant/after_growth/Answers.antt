-- At the end every task's record has grown.
use Rattle.std.proofs.Common.{arith}
use Rattle.plants.specs.Each.{upto_all}
use Rattle.plants.proofs.plant.Plant.after_growth.Goals as goal

pub returns : goal.returns
returns g c = upto_all _ _ _ c.loop-i.i _ (omega arith) c.loop-i.invariant
