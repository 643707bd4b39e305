-- Eight worked schedules, as a list, and the one test that they all pass.
use Rattle.std.specs.Prelude.{ℕ, ◌-◌, Bool, true, false, cond, ◌&&◌, List, [], ◌∷◌, ◌++◌, length, replicate, ◌==◌}
use Rattle.std.specs.List.{range_with_len, filter, list_all}
use Rattle.policies.specs.Orders.{site}
use Rattle.systems.specs.Systems.{Meaning, led}
use Rattle.plants.specs.Limits.{most_tasks}
use Rattle.plants.specs.Layouts.{nothing, resource_count, task_count}
use Rattle.plants.specs.Entries.{after_resource, after_task}
use Rattle.plants.specs.Records.{blank}
use Rattle.plants.specs.Meanings.{plant_meaning}
use Rattle.plants.specs.declared.layout.TaskEntry.{TaskEntry}
use Rattle.plants.specs.declared.layout.Layout.{Layout}
use Rattle.plants.specs.declared.state.Record.{Record}
use Rattle.plants.specs.declared.state.PlantState.{PlantState}
use Rattle.plants.specs.declared.state.Phase.{Phase}
use Rattle.plants.specs.declared.state.Phase.TheVariants.{Done, Ready}

-- Plants and states

abbrev task : ℕ → ℕ → ℕ → ℕ → ℕ → ℕ → ℕ → ℕ → ℕ → TaskEntry
task offset least greatest best worst deadline class resource needs = record {
  offset = offset;
  least = least;
  greatest = greatest;
  best = best;
  worst = worst;
  deadline = deadline;
  class = class;
  resource = resource;
  needs = needs;
}

-- the entries of a plant: its resources' two numbers, and its tasks
pub record Plan : Type 0 where
  pub resources : List (ℕ × ℕ)
  pub tasks : List TaskEntry

abbrev with_resources : Layout → List (ℕ × ℕ) → Layout
with_resources l [] = l
with_resources l (r ∷ rs) = with_resources (after_resource l r.0 r.1) rs

abbrev with_tasks : Layout → List TaskEntry → Layout
with_tasks l [] = l
with_tasks l (t ∷ ts) = with_tasks (after_task l t) ts

-- what a draft holds after these entries
abbrev layout_of : Plan → Layout
layout_of p = with_tasks (with_resources nothing p.resources) p.tasks

-- no entry was refused
abbrev all_entered : Plan → Bool
all_entered p = resource_count (layout_of p) == length p.resources && task_count (layout_of p) == length p.tasks

-- the plant as a system, under the site's policy
abbrev system_of : Plan → Meaning PlantState
system_of p = plant_meaning site (layout_of p)

abbrev is : Phase → ℕ → ℕ → ℕ → Record
is phase since run waited = record { phase = phase; since = since; run = run; waited = waited }

abbrev state : List Record → PlantState
state rs = record { records = rs ++ replicate (most_tasks - length rs) blank }

-- What is said of a system at a state

pub data Says : Type 0 where
  -- these choices are legal, and no other
  only : List ℕ → Says
  -- these choices are legal one after the other and lead to this state, which is bad or not
  leads : List ℕ → List Record → Bool → Says
  -- after these choices, legal one after the other, the following are legal, and no other
  then_only : List ℕ → List ℕ → Says
  -- the state fits and is bad
  fits_bad : Says

abbrev same_numbers : List ℕ → List ℕ → Bool
same_numbers [] [] = true
same_numbers [] (y ∷ ys) = false
same_numbers (x ∷ xs) [] = false
same_numbers (x ∷ xs) (y ∷ ys) = x == y && same_numbers xs ys

-- the legal ones of all the choices, in rising order
abbrev legals : Meaning PlantState → PlantState → List ℕ
legals m s = filter (m.legal s) (range_with_len 0 m.count)

abbrev all_legal : Meaning PlantState → PlantState → List ℕ → Bool
all_legal m s [] = true
all_legal m s (c ∷ cs) = m.legal s c && all_legal m (m.next s c) cs

abbrev same_flag : Bool → Bool → Bool
same_flag a b = cond a b (cond b false true)

abbrev holds : Meaning PlantState → PlantState → Says → Bool
holds m s (only cs) = same_numbers (legals m s) cs
holds m s (leads cs rs b) = all_legal m s cs && m.same (led m s cs) (state rs) && same_flag (m.bad (led m s cs)) b
holds m s (then_only ds cs) = all_legal m s ds && same_numbers (legals m (led m s ds)) cs
holds m s fits_bad = m.fits s && m.bad s

pub record Schedule : Type 0 where
  pub plan : Plan
  pub from : List Record
  pub says : Says

abbrev schedule_holds : Schedule → Bool
schedule_holds e = all_entered e.plan && holds (system_of e.plan) (state e.from) e.says

unfoldable pub all_hold : List Schedule → Bool
all_hold es = list_all schedule_holds es

-- The schedules; a list of no records is the first state

abbrev on : Plan → List Record → Says → Schedule
on p rs s = record { plan = p; from = rs; says = s }

abbrev one : TaskEntry → Plan
one t = record { resources = (1, 1) ∷ []; tasks = t ∷ [] }

abbrev two : ℕ → ℕ → TaskEntry → TaskEntry → Plan
two policy preempt t u = record { resources = (policy, preempt) ∷ []; tasks = t ∷ u ∷ [] }

-- a task of one tick
abbrev plan_1 : Plan
plan_1 = one (task 0 2 2 1 1 2 0 0 0)

-- a task of two ticks
abbrev plan_2 : Plan
plan_2 = one (task 0 2 2 2 2 2 0 0 0)

-- the greatest gap is one tick above the least
abbrev plan_4 : Plan
plan_4 = one (task 0 2 3 1 1 2 0 0 0)

-- two tasks that differ only in their class, the second having the higher priority
abbrev plan_5 : ℕ → Plan
plan_5 policy = two policy 1 (task 0 4 4 1 1 4 1 0 0) (task 0 4 4 1 1 4 0 0 0)

-- a task of higher priority comes one tick after a long one
abbrev plan_7 : ℕ → Plan
plan_7 preempt = two 1 preempt (task 0 9 9 3 3 9 1 0 0) (task 1 9 9 1 1 9 0 0 0)

-- the second task needs the first, which is on another resource
abbrev plan_8 : Plan
plan_8 = record { resources = (1, 1) ∷ (1, 1) ∷ []; tasks = task 0 4 4 1 1 4 0 0 0 ∷ task 0 4 4 1 1 4 0 1 1 ∷ [] }

-- In turn:
-- 1. a task of one tick must be released and finish in the first, which leaves it done since one tick;
-- 2. a task of two ticks is released in the first and finishes in the second, on its deadline, and is not late;
-- 3. a ready task at its deadline is bad;
-- 4. between its least and its greatest gap a task may be released or not;
-- 5. by fixed priority the task of higher priority runs;
-- 6. by the other two policies the two are tied, and the lower number runs;
-- 7. a task of higher priority interrupts the one that runs where the resource is preemptive, and otherwise does not;
-- 8. a task that needs another waits for it, and runs in the tick after.
abbrev pub schedules : List Schedule
schedules =
    on plan_1 [] (only (3 ∷ []))
    ∷ on plan_1 [] (leads (3 ∷ []) (is Done 1 0 0 ∷ []) false)
    ∷ on plan_2 [] (leads (1 ∷ 2 ∷ []) (is Done 2 0 0 ∷ []) false)
    ∷ on plan_2 (is Ready 2 1 1 ∷ []) fits_bad
    ∷ on plan_4 (is Done 2 0 0 ∷ []) (only (0 ∷ 3 ∷ []))
    ∷ on (plan_5 1) [] (only (11 ∷ []))
    ∷ on (plan_5 0) [] (only (7 ∷ []))
    ∷ on (plan_5 2) [] (only (7 ∷ []))
    ∷ on (plan_7 1) [] (then_only (1 ∷ []) (10 ∷ []))
    ∷ on (plan_7 0) [] (then_only (1 ∷ []) (2 ∷ []))
    ∷ on plan_8 [] (leads (7 ∷ 8 ∷ []) (is Done 2 0 0 ∷ is Done 2 0 0 ∷ []) false)
    ∷ []
