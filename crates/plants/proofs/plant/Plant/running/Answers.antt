-- Under the policy's law exactly one ready task runs on a resource that has a ready one.
use Rattle.std.proofs.Common.{◌≡◌, subst}
use Rattle.plants.specs.Layouts.{task_count}
use Rattle.plants.specs.Below.{first_below}
use Rattle.plants.specs.Tick.{runs_on}
use Rattle.plants.specs.Rules.{claiming_state}
use Rattle.plants.proofs.OneRuns.{names_running}
use Rattle.plants.proofs.plant.Plant.running.Goals as goal

pub returns : goal.returns
returns g c =
    let p = c.args.self.now in
    let order = g.P.Policy.order p.policy in
    names_running order (g.met.P.Policy.lawful p.policy) p.layout (claiming_state p.layout c.args.choice c.args.state.now) c.args.resource c.first_running.result
    (subst (λ rs. c.first_running.result ≡ first_below (runs_on order p.layout rs c.args.resource) (task_count p.layout)) c.claiming.ensures c.first_running.ensures)
