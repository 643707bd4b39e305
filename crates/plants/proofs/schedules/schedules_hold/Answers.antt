-- The test is computed over the whole list.
use Rattle.std.proofs.Common.{refl}
use Rattle.plants.specs.Records.{each}
use Rattle.plants.specs.Tick.{state_fits, fits_at, late_at, release_obeys, met_at, comes_ready, ahead_of, task_runs, finish_obeys}
use Rattle.plants.specs.Schedules.{all_hold}
use Rattle.plants.proofs.schedules.schedules_hold.Goals as goal

pub returns : goal.returns
unfolding each state_fits fits_at late_at release_obeys met_at comes_ready ahead_of task_runs finish_obeys all_hold
returns c = (refl, refl)
