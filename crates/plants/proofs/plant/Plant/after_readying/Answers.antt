-- The test and the change are those of the rule.
use Rattle.std.proofs.Common.{rules}
use Rattle.plants.specs.Records.{readied}
use Rattle.plants.specs.Tick.{comes_ready}
use Rattle.plants.proofs.plant.Plant.after_readying.Goals as goal

pub returns : goal.returns
returns g c = c.changed.ensures (comes_ready c.args.self.now.layout c.args.state.records) (readied) (λ i b lt q. search rules) (λ s t i lt q. search rules)
