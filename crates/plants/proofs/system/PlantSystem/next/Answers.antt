-- The next state is the one to which the rules have the choice lead.
use Rattle.std.proofs.Common.{refl}
use Rattle.plants.specs.Entered.{valid_parts}
use Rattle.plants.specs.PlantLaws.{of_records}
use Rattle.plants.proofs.Agreement.{by_rules}
use Rattle.plants.proofs.system.PlantSystem.next.Goals as goal

pub returns : goal.returns
returns g c =
    let l = c.args.self.now.layout in
    let v = valid_parts l c.args.self.now.valid in
    record {
      reply = c.after_tick.ensures;
      rules = by_rules (g.P.Policy.order c.args.self.now.policy) l c.args.choice c.args.state.now v _ _ refl (of_records _ _ c.after_tick.ensures);
    }
