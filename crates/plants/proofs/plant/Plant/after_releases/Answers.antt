-- The test and the change are those of the rule.
use Rattle.std.proofs.Common.{rules}
use Rattle.plants.specs.Bits.{bit}
use Rattle.plants.specs.Records.{released}
use Rattle.plants.proofs.plant.Plant.after_releases.Goals as goal

pub returns : goal.returns
returns g c = c.changed.ensures (λ i. bit c.args.choice i) (λ _. released) (λ i b lt q. search rules) (λ s t i lt q. search rules)
