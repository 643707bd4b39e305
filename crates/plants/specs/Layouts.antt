-- The entries of a plant.
use Rattle.std.specs.Prelude.{ℕ, Bool, not, ◌&&◌, [], ◌∷◌, ◌++◌, length, ◌==◌, nat_le, nat_lt, slice_index, slice_index_or}
use Rattle.policies.specs.Classes.{priorities}
use Rattle.plants.specs.Limits.{most_ticks, most_resources, most_tasks}
use Rattle.plants.specs.Bits.{bit}
use Rattle.plants.specs.Below.{all_below}
use Rattle.plants.specs.Unused.{no_task, no_resource}
use Rattle.plants.specs.declared.layout.Resource.{Resource}
use Rattle.plants.specs.declared.layout.Task.{Task}
use Rattle.plants.specs.declared.layout.TaskEntry.{TaskEntry}
use Rattle.plants.specs.declared.layout.Layout.{Layout}

-- no entry
abbrev pub nothing : Layout
nothing = record {
  resources = [];
  tasks = [];
}

-- how many resources and tasks were entered
abbrev pub resource_count : Layout → ℕ
resource_count l = length l.resources

abbrev pub task_count : Layout → ℕ
task_count l = length l.tasks

abbrev pub task_at : Layout → ℕ → Task
task_at l i = slice_index_or l.tasks i no_task

-- the resource that task i is on
abbrev pub resource_of : Layout → ℕ → Resource
resource_of l i = slice_index_or l.resources (task_at l i).resource no_resource

abbrev pub is_within : ℕ → ℕ → ℕ → Bool
is_within low high x = nat_le low x && nat_le x high

-- the entry needs task j, and the two have not one and the same number as least and greatest gap
abbrev pub unlike : Layout → TaskEntry → ℕ → Bool
unlike l e j =
    bit e.needs j && not (e.greatest == e.least && (task_at l j).least == e.least && (task_at l j).greatest == e.least)

-- the task that an entry stands for: its class is read from the table of priorities
abbrev pub entered : TaskEntry → Task
entered e = record {
  offset = e.offset;
  least = e.least;
  greatest = e.greatest;
  best = e.best;
  worst = e.worst;
  deadline = e.deadline;
  priority = slice_index priorities e.class;
  resource = e.resource;
  needs = e.needs;
}

abbrev pub with_task : Layout → Task → Layout
with_task l t = record {
  resources = l.resources;
  tasks = l.tasks ++ t ∷ [];
}

abbrev pub with_resource : Layout → Resource → Layout
with_resource l r = record {
  resources = l.resources ++ r ∷ [];
  tasks = l.tasks;
}

-- the fields of a task are within their ranges
abbrev pub in_ranges : Task → Bool
in_ranges t =
    is_within 0 most_ticks t.offset && is_within 1 most_ticks t.least && is_within t.least most_ticks t.greatest
    && is_within 1 most_ticks t.best && is_within t.best most_ticks t.worst && is_within 1 t.least t.deadline

-- task i is within its ranges, and on a resource that was entered
unfoldable pub valid_at : Layout → ℕ → Bool
valid_at l i = in_ranges (task_at l i) && nat_lt (task_at l i).resource (resource_count l)

-- what holds of every draft and every plant, and what the rules of the tick need: counts within the limits, and valid tasks
abbrev pub valid : Layout → Bool
valid l = nat_le (resource_count l) most_resources && nat_le (task_count l) most_tasks && all_below (valid_at l) (task_count l)
