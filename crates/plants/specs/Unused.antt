-- What stands in the unused places of a plant's lists.
use Rattle.plants.specs.declared.layout.Resource.{Resource}
use Rattle.plants.specs.declared.layout.Task.{Task}

abbrev pub no_task : Task
no_task = record {
  offset = 0;
  least = 0;
  greatest = 0;
  best = 0;
  worst = 0;
  deadline = 0;
  priority = 0;
  resource = 0;
  needs = 0;
}

abbrev pub no_resource : Resource
no_resource = record { policy = 0; preempt = 0 }
