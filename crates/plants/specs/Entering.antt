-- When an entry into a draft is accepted, in the rules' own words.
use Rattle.std.specs.Prelude.{◌≡◌, ℕ, ◌<◌, ◌≤◌, true}
use Rattle.policies.specs.Classes.{classes}
use Rattle.policies.specs.Orders.{earliest_deadline, preemptive}
use Rattle.plants.specs.Limits.{most_ticks, most_resources, most_tasks}
use Rattle.plants.specs.Bits.{bit}
use Rattle.plants.specs.Layouts.{task_at, resource_count, task_count}
use Rattle.plants.specs.declared.layout.TaskEntry.{TaskEntry}
use Rattle.plants.specs.declared.layout.Layout.{Layout}

pub record EntersResource (l : Layout) (policy preempt : ℕ) : Type 0 where
  pub room : resource_count l < most_resources
  -- the numbers of the three policies, and of the two answers whether a task may be interrupted
  pub policy_known : policy ≤ earliest_deadline
  pub preempt_known : preempt ≤ preemptive

-- the entry and task j have one number as least and greatest gap
pub record OneGap (l : Layout) (e : TaskEntry) (j : ℕ) : Type 0 where
  pub own : e.greatest ≡ e.least
  pub least : (task_at l j).least ≡ e.least
  pub greatest : (task_at l j).greatest ≡ e.least

pub record EntersTask (l : Layout) (e : TaskEntry) : Type 0 where
  pub room : task_count l < most_tasks
  pub offset : e.offset ≤ most_ticks
  pub least : (1 ≤ e.least) × (e.least ≤ most_ticks)
  pub greatest : (e.least ≤ e.greatest) × (e.greatest ≤ most_ticks)
  pub best : (1 ≤ e.best) × (e.best ≤ most_ticks)
  pub worst : (e.best ≤ e.worst) × (e.worst ≤ most_ticks)
  pub deadline : (1 ≤ e.deadline) × (e.deadline ≤ e.least)
  pub class : e.class < classes
  -- its resource is entered
  pub resource : e.resource < resource_count l
  -- every task that it needs is an earlier one, and the two have one gap
  pub needs : (j : ℕ) → bit e.needs j ≡ true → (j < task_count l) × OneGap l e j

-- an answer has number 0 exactly when what is asked for enters, and its value is then the new number
pub record EnteredExactly (Enters : Type 0) (number : ℕ) (answer : ℕ × ℕ) : Type 0 where
  pub accepted : answer.0 ≡ 0 → Enters
  pub enters : Enters → answer ≡ (0, number)
