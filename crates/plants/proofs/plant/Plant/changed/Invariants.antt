-- Whatever the test and the change are, the records so far are made anew by them.
use Rattle.std.proofs.Common.{ℕ, Bool, cond}
use Rattle.plants.specs.Layouts.{task_count}
use Rattle.plants.specs.Tick.{TestsBy, ChangesBy}
use Rattle.plants.specs.Each.{Upto}
use Rattle.plants.specs.declared.state.Record.{Record}
use Rattle.plants.proofs.plant.Plant.changed.Given as goal

abbrev pub invariant-loop-i : goal.invariant-loop-i
invariant-loop-i g l =
    (p : ℕ → Bool) (f : Record → Record) → TestsBy (goal.T-post g l.test) (task_count l.self.layout) p → ChangesBy (λ s i t. goal.C-post g l.change s i tt t) f
    → Upto (λ i r. cond (p i) (f r) r) l.fn.state.records l.i l.out.records
