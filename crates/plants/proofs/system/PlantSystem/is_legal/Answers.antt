-- A choice is legal exactly when the rules have a tick by it.
use Rattle.std.proofs.Common.{refl}
use Rattle.plants.specs.Entered.{valid_parts}
use Rattle.plants.proofs.Agreement.{by_rules}
use Rattle.plants.proofs.system.PlantSystem.is_legal.Goals as goal

pub returns : goal.returns
returns g c =
    let l = c.args.self.now.layout in
    let v = valid_parts l c.args.self.now.valid in
    record {
      reply = c.allows.ensures;
      rules = by_rules (g.P.Policy.order c.args.self.now.policy) l c.args.choice c.args.state.now v _ _ c.allows.ensures refl;
    }
