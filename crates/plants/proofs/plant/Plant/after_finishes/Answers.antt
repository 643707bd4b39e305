-- The test and the change are those of the rule.
use Rattle.std.proofs.Common.{◌+◌, rules}
use Rattle.plants.specs.Layouts.{task_count}
use Rattle.plants.specs.Bits.{bit}
use Rattle.plants.specs.Records.{finished}
use Rattle.plants.proofs.plant.Plant.after_finishes.Goals as goal

pub returns : goal.returns
returns g c = c.changed.ensures (λ i. bit c.args.choice (task_count c.args.self.now.layout + i)) (finished) (λ i b lt q. search rules) (λ s t i lt q. search rules)
