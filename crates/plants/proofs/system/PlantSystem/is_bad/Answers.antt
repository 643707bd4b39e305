-- The reply decides whether the state is bad by the rules.
use Rattle.std.proofs.lemmas.Bool.Decides.{Decides-at}
use Rattle.plants.specs.Decided.{bad_decides}
use Rattle.plants.proofs.system.PlantSystem.is_bad.Goals as goal

pub returns : goal.returns
returns g c = record {
  reply = c.has_late.ensures;
  rules = Decides-at _ _ c.has_late.ensures (bad_decides c.args.self.now.layout c.args.state.now);
}
