-- The task is on a resource that was entered.
use Rattle.std.proofs.Common.{length, slice_index_or, ap, arith}
use Rattle.plants.specs.Unused.{no_task}
use Rattle.plants.specs.Entered.{valid_parts}
use Rattle.plants.specs.Ticks.{within}
use Rattle.plants.proofs.plant.Plant.goes_before.Goals as goal

pub bounds-deref-deref : goal.bounds-deref-deref
bounds-deref-deref g c =
    let l = c.args.self.now.layout in
    let entered = (within l (valid_parts l c.args.self.now.valid) c.args.i c.requires.0).resource_entered in
    omega (arith, entered, ap (λ ts. (slice_index_or ts c.args.i no_task).resource) c.deref-2.ensures.0, ap length c.deref.ensures.0)
