-- The records so far have grown.
use Rattle.plants.specs.Records.{grown_by}
use Rattle.plants.specs.Tick.{task_runs}
use Rattle.plants.specs.Each.{Upto}
use Rattle.plants.proofs.plant.Plant.after_growth.Given as goal

abbrev pub invariant-loop-i : goal.invariant-loop-i
invariant-loop-i g l =
    Upto (λ i r. grown_by (task_runs (g.P.Policy.order l.self.policy) l.self.layout l.state.records i) r) l.state.records l.i l.out.records
