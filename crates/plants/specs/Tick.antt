-- One tick of a plant, rule by rule.
use Rattle.std.specs.Prelude.{◌≡◌, ℕ, ◌+◌, ◌-◌, ◌^◌, ◌<◌, Bool, cond, not, ◌&&◌, ◌||◌, List, length, ◌==◌, nat_le, nat_lt, slice_set}
use Rattle.std.specs.Borrow.{MutBor}
use Rattle.policies.specs.declared.policy.Claim.{Claim}
use Rattle.plants.specs.Limits.{most_tasks}
use Rattle.plants.specs.Bits.{bit}
use Rattle.plants.specs.Below.{all_below, any_below}
use Rattle.plants.specs.Layouts.{task_at, resource_of, task_count}
use Rattle.plants.specs.Records.{is_before, is_done, is_held, is_ready, released, readied, grown_by, finished, at, each}
use Rattle.plants.specs.declared.layout.Task.{Task}
use Rattle.plants.specs.declared.layout.Layout.{Layout}
use Rattle.plants.specs.declared.state.Record.{Record}
use Rattle.plants.specs.declared.state.PlantState.{PlantState}
use Rattle.plants.specs.declared.state.Phase.{Phase}
use Rattle.plants.specs.declared.state.Phase.TheVariants.{Before, Done, Held, Ready}

-- a policy: an order of claims for each two numbers of a resource
abbrev pub Order : Type 0
Order = ℕ → ℕ → Claim → Claim → Bool

-- A pass over the tasks

-- below n the test gives p
abbrev pub TestsBy : (ℕ → Bool → Type 0) → ℕ → (ℕ → Bool) → Type 0
TestsBy gives n p = (i : ℕ) (b : Bool) → i < n → gives i b → b ≡ p i

-- a call at i makes record i anew by f, and leaves the others
abbrev pub ChangesBy : (MutBor PlantState → ℕ → MutBor PlantState → Type 0) → (Record → Record) → Type 0
ChangesBy leaves f =
    (s t : MutBor PlantState) (i : ℕ) → i < most_tasks → leaves s i t → t.now.records ≡ slice_set s.now.records i (f (at s.now.records i))

-- Which states fit, and which are bad

abbrev pub fits_in : Task → Phase → ℕ → ℕ → ℕ → Bool
fits_in t Before since run waited = nat_le since t.offset && run == 0 && waited == 0
fits_in t Done since run waited = nat_le 1 since && nat_le since t.greatest && run == 0 && waited == 0
fits_in t Held since run waited = nat_le since t.deadline && run == 0 && waited == 0
fits_in t Ready since run waited = nat_le since t.deadline && nat_lt run t.worst && nat_le waited since

abbrev pub fits_task : Task → Record → Bool
fits_task t r = fits_in t r.phase r.since r.run r.waited

abbrev pub is_blank : Record → Bool
is_blank r = is_before r.phase && r.since == 0 && r.run == 0 && r.waited == 0

unfoldable pub fits_at : Layout → List Record → ℕ → Bool
fits_at l rs i = cond (nat_lt i (task_count l)) (fits_task (task_at l i) (at rs i)) (is_blank (at rs i))

-- there are as many records as there should be, and each fits
unfoldable pub state_fits : Layout → List Record → Bool
state_fits l rs = length rs == most_tasks && all_below (fits_at l rs) most_tasks

-- a held or ready task has come to its deadline
abbrev pub is_late : Task → Record → Bool
is_late t r = (is_held r.phase || is_ready r.phase) && r.since == t.deadline

unfoldable pub late_at : Layout → List Record → ℕ → Bool
late_at l rs i = is_late (task_at l i) (at rs i)

abbrev pub state_bad : Layout → List Record → Bool
state_bad l rs = any_below (late_at l rs) (task_count l)

-- Rule 1: releases

abbrev pub release_in : Task → Phase → ℕ → Bool → Bool
release_in t Before since b = cond b (since == t.offset) (not (since == t.offset))
release_in t Done since b = cond b (nat_le t.least since) (not (since == t.greatest))
release_in t Held since b = not b
release_in t Ready since b = not b

-- the release bit of task i obeys the rule
unfoldable pub release_obeys : Layout → ℕ → List Record → ℕ → Bool
release_obeys l c rs i = release_in (task_at l i) (at rs i).phase (at rs i).since (bit c i)

abbrev pub after_releases : Layout → ℕ → List Record → List Record
after_releases l c rs = each (task_count l) (λ i r. cond (bit c i) released r) rs

-- Rule 2: after all releases, a held task whose needed tasks are all done becomes ready

unfoldable pub met_at : ℕ → List Record → ℕ → Bool
met_at needs rs j = not (bit needs j) || is_done (at rs j).phase

abbrev pub all_met : ℕ → List Record → Bool
all_met needs rs = all_below (met_at needs rs) most_tasks

unfoldable pub comes_ready : Layout → List Record → ℕ → Bool
comes_ready l rs i = is_held (at rs i).phase && all_met (task_at l i).needs rs

abbrev pub after_readying : Layout → List Record → List Record
after_readying l rs = each (task_count l) (λ i r. cond (comes_ready l rs i) (readied r) r) rs

-- Rule 3: on each resource the ready task that goes before every other ready one runs

abbrev pub claim_of : Layout → List Record → ℕ → Claim
claim_of l rs i = record {
  task = i;
  priority = (task_at l i).priority;
  waited = (at rs i).waited;
  left = (task_at l i).deadline - (at rs i).since;
  run = (at rs i).run;
}

-- task j is another than i, ready and on the same resource
abbrev pub rivals : Layout → List Record → ℕ → ℕ → Bool
rivals l rs i j = not (i == j) && is_ready (at rs j).phase && (task_at l i).resource == (task_at l j).resource

module _ (order : Order) (l : Layout) where
  -- task i goes before task j by the policy of its resource
  abbrev pub goes_before : List Record → ℕ → ℕ → Bool
  goes_before rs i j = order (resource_of l i).policy (resource_of l i).preempt (claim_of l rs i) (claim_of l rs j)

  -- task i goes before task j, or j is no rival
  unfoldable pub ahead_of : List Record → ℕ → ℕ → Bool
  ahead_of rs i j = not (rivals l rs i j) || goes_before rs i j

  unfoldable pub task_runs : List Record → ℕ → Bool
  task_runs rs i = is_ready (at rs i).phase && all_below (ahead_of rs i) (task_count l)

  -- task i is on the resource and runs
  abbrev pub runs_on : List Record → ℕ → ℕ → Bool
  runs_on rs resource i = (task_at l i).resource == resource && task_runs rs i

  -- Rule 4: growth
  abbrev pub after_growth : List Record → List Record
  after_growth rs = each (task_count l) (λ i r. grown_by (task_runs rs i) r) rs

-- Rule 5: finishes

-- the finish bit b of a task that runs or does not, with its run after growth, obeys the rule
abbrev pub finish_in : Task → Bool → ℕ → Bool → Bool
finish_in t runs run b = cond b (runs && nat_le t.best run) (not (runs && run == t.worst))

-- the finish bit of task i obeys the rule, where rs are the records after rule 2
unfoldable pub finish_obeys : Order → Layout → ℕ → List Record → ℕ → Bool
finish_obeys order l c rs i =
    finish_in (task_at l i) (task_runs order l rs i) (grown_by (task_runs order l rs i) (at rs i)).run (bit c (task_count l + i))

abbrev pub after_finishes : Layout → ℕ → List Record → List Record
after_finishes l c rs = each (task_count l) (λ i r. cond (bit c (task_count l + i)) (finished r) r) rs

-- The tick

-- the records after rule 2
abbrev pub claiming : Layout → ℕ → List Record → List Record
claiming l c rs = after_readying l (after_releases l c rs)

module _ (order : Order) (l : Layout) (c : ℕ) (rs : List Record) where
  -- at a state that fits and is not bad, a choice below the count is legal exactly when every bit obeys
  abbrev pub choice_legal : Bool
  choice_legal =
      state_fits l rs && not (state_bad l rs) && nat_lt c (4 ^ task_count l) && all_below (release_obeys l c rs) (task_count l)
      && all_below (finish_obeys order l c (claiming l c rs)) (task_count l)

  abbrev pub ticked : List Record
  ticked = after_finishes l c (after_growth order l (claiming l c rs))

  abbrev pub next_records : List Record
  next_records = cond choice_legal ticked rs
