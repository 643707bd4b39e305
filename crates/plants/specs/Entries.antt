-- What an entry into a draft comes to, and what it leaves.
use Rattle.std.specs.Prelude.{ℕ, ◌/◌, ◌^◌, cond, not, Some, None, Option, Ok, Err, ◌==◌, nat_le, nat_lt}
use Rattle.policies.specs.Classes.{classes}
use Rattle.policies.specs.Orders.{earliest_deadline, preemptive}
use Rattle.std.specs.List.{find, range_with_len}
use Rattle.systems.specs.Outcomes.{Outcome, accepts}
use Rattle.systems.specs.declared.outcome.Refusal.TheVariants.{FieldOutside, NoRoom, NotEntered, GapsUnlike}
use Rattle.plants.specs.Limits.{most_ticks, most_resources, most_tasks}
use Rattle.plants.specs.Layouts.{is_within, unlike, entered, with_task, with_resource, resource_count, task_count}
use Rattle.plants.specs.declared.layout.TaskEntry.{TaskEntry}
use Rattle.plants.specs.declared.layout.Layout.{Layout}

-- a policy number is 0 to 2, and a preempt number 0 or 1
abbrev pub resource_comes_to : Layout → ℕ → ℕ → Outcome
resource_comes_to l policy preempt =
    cond (resource_count l == most_resources) (Err NoRoom)
    (cond (nat_lt earliest_deadline policy) (Err (FieldOutside 1)) (cond (nat_lt preemptive preempt) (Err (FieldOutside 2)) (Ok (resource_count l))))

abbrev pub after_resource : Layout → ℕ → ℕ → Layout
after_resource l policy preempt =
    cond (accepts (resource_comes_to l policy preempt)) (with_resource l (record { policy = policy; preempt = preempt })) l

-- the first field that is outside its range, from the left
abbrev pub outside_field : TaskEntry → Option ℕ
outside_field e =
    cond (not (is_within 0 most_ticks e.offset)) (Some 1)
    (cond (not (is_within 1 most_ticks e.least)) (Some 2)
    (cond (not (is_within e.least most_ticks e.greatest)) (Some 3)
    (cond (not (is_within 1 most_ticks e.best)) (Some 4)
    (cond (not (is_within e.best most_ticks e.worst)) (Some 5)
    (cond (not (is_within 1 e.least e.deadline)) (Some 6)
    (cond (nat_le classes e.class) (Some 7) None))))))

-- what stands where no field is outside its range
abbrev pub if_inside : Option ℕ → Outcome → Outcome
if_inside (Some field) o = Err (FieldOutside field)
if_inside None o = o

-- what stands where no needed task has unlike gaps
abbrev pub if_alike : Option ℕ → Outcome → Outcome
if_alike (Some needed) o = Err (GapsUnlike needed)
if_alike None o = o

-- a needed task that is not entered is a bit at or above the place of the count
abbrev pub task_comes_to : Layout → TaskEntry → Outcome
task_comes_to l e =
    cond (task_count l == most_tasks) (Err NoRoom)
    (if_inside (outside_field e)
    (cond (nat_le (resource_count l) e.resource) (Err (NotEntered 8))
    (cond (nat_lt 0 (e.needs / 2 ^ task_count l)) (Err (NotEntered 9))
    (if_alike (find (unlike l e) (range_with_len 0 (task_count l))) (Ok (task_count l))))))

abbrev pub after_task : Layout → TaskEntry → Layout
after_task l e = cond (accepts (task_comes_to l e)) (with_task l (entered e)) l
