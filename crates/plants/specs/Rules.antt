-- One tick as a relation: what becomes of each task, in the rules' own words.
use Rattle.std.specs.Prelude.{◌≡◌, ℕ, ◌+◌, ◌^◌, ◌<◌, ◌≤◌, true, false, ◌⊎◌, length, Some, None, Option, ◌≢◌}
use Rattle.plants.specs.Limits.{most_tasks}
use Rattle.plants.specs.Bits.{bit}
use Rattle.plants.specs.Layouts.{task_at, task_count}
use Rattle.plants.specs.Records.{at, blank, released, readied, finished}
use Rattle.plants.specs.Tick.{Order, goes_before, claiming}
use Rattle.plants.specs.declared.layout.Task.{Task}
use Rattle.plants.specs.declared.layout.Layout.{Layout}
use Rattle.plants.specs.declared.state.Record.{Record}
use Rattle.plants.specs.declared.state.PlantState.{PlantState}
use Rattle.plants.specs.declared.state.Phase.TheVariants.{Before, Done, Held, Ready}

abbrev pub record_at : PlantState → ℕ → Record
record_at s k = at s.records k

-- Which states fit, and which are bad

pub record FitsTask (t : Task) (r : Record) : Type 0 where
  pub before : r.phase ≡ Before → r.since ≤ t.offset
  pub done : r.phase ≡ Done → (1 ≤ r.since) × (r.since ≤ t.greatest)
  pub held : r.phase ≡ Held → r.since ≤ t.deadline
  pub ready : r.phase ≡ Ready → (r.since ≤ t.deadline) × (r.run < t.worst) × (r.waited ≤ r.since)
  -- run and waited are 0 outside the phase ready
  pub idle : (r.phase ≢ Ready) → (r.run ≡ 0) × (r.waited ≡ 0)

pub record Fits (l : Layout) (s : PlantState) : Type 0 where
  -- there are as many records as there should be
  pub long : length s.records ≡ most_tasks
  pub entered : (k : ℕ) → k < task_count l → FitsTask (task_at l k) (record_at s k)
  -- a task that is not entered has four zeros
  pub others : (k : ℕ) → k < most_tasks → task_count l ≤ k → record_at s k ≡ blank

-- a held or ready task has come to its deadline
abbrev pub Late : Task → Record → Type 0
Late t r = ((r.phase ≡ Held) ⊎ (r.phase ≡ Ready)) × (r.since ≡ t.deadline)

abbrev pub Bad : Layout → PlantState → Type 0
Bad l s = (k : ℕ) × (k < task_count l) × Late (task_at l k) (record_at s k)

-- there are as many records as there should be, and those of tasks not entered stay
pub record OthersStay (l : Layout) (s s' : PlantState) : Type 0 where
  pub long : length s'.records ≡ most_tasks
  pub stay : (k : ℕ) → k < most_tasks → task_count l ≤ k → record_at s' k ≡ record_at s k

-- Rule 1: before its first release a task is released exactly when since equals the offset; when done it may be released
-- when since is at least the least gap, and must be when since equals the greatest; otherwise it may not

abbrev pub MayRelease : Task → Record → Type 0
MayRelease t r = ((r.phase ≡ Before) × (r.since ≡ t.offset)) ⊎ ((r.phase ≡ Done) × (t.least ≤ r.since))

abbrev pub MustRelease : Task → Record → Type 0
MustRelease t r = ((r.phase ≡ Before) × (r.since ≡ t.offset)) ⊎ ((r.phase ≡ Done) × (r.since ≡ t.greatest))

pub record Releases (l : Layout) (c : ℕ) (s s' : PlantState) : Type 0 where
  pub releases : (k : ℕ) → k < task_count l → bit c k ≡ true → MayRelease (task_at l k) (record_at s k) × (record_at s' k ≡ released)
  pub leaves : (k : ℕ) → k < task_count l → bit c k ≡ false → (MustRelease (task_at l k) (record_at s k) → ⊥) × (record_at s' k ≡ record_at s k)
  pub others : OthersStay l s s'

-- Rule 2: after all releases, a held task whose needed tasks are all done becomes ready

abbrev pub ComesReady : Layout → PlantState → ℕ → Type 0
ComesReady l s k =
    ((record_at s k).phase ≡ Held) × ((j : ℕ) → j < most_tasks → bit (task_at l k).needs j ≡ true → (record_at s j).phase ≡ Done)

pub record Readies (l : Layout) (s s' : PlantState) : Type 0 where
  pub readies : (k : ℕ) → k < task_count l → ComesReady l s k → record_at s' k ≡ readied (record_at s k)
  pub leaves : (k : ℕ) → k < task_count l → (ComesReady l s k → ⊥) → record_at s' k ≡ record_at s k
  pub others : OthersStay l s s'

-- Rule 3: on each resource the ready task that goes before every other ready one on it runs

abbrev pub Runs : Order → Layout → PlantState → ℕ → Type 0
Runs order l s k =
    ((record_at s k).phase ≡ Ready)
    × ((j : ℕ) → j < task_count l → (k ≢ j) → (record_at s j).phase ≡ Ready → (task_at l k).resource ≡ (task_at l j).resource
    → goes_before order l s.records k j ≡ true)

-- Rule 4: every entered task's since, every ready task's waited and every running task's run grow by 1

pub record Grown (running : Type 0) (r r' : Record) : Type 0 where
  pub phase : r'.phase ≡ r.phase
  pub since : r'.since ≡ r.since + 1
  pub ready : r.phase ≡ Ready → r'.waited ≡ r.waited + 1
  pub not_ready : (r.phase ≢ Ready) → r'.waited ≡ r.waited
  pub runs : running → r'.run ≡ r.run + 1
  pub rests : (running → ⊥) → r'.run ≡ r.run

pub record Grows (order : Order) (l : Layout) (s s' : PlantState) : Type 0 where
  pub grows : (k : ℕ) → k < task_count l → Grown (Runs order l s k) (record_at s k) (record_at s' k)
  pub others : OthersStay l s s'

-- Rule 5: a running task must finish when run equals its worst time, and may when run is at least its best; no other may;
-- the tasks run as at s, and have grown at g

pub record Finishes (order : Order) (l : Layout) (c : ℕ) (s g s' : PlantState) : Type 0 where
  pub finishes : (k : ℕ) → k < task_count l → bit c (task_count l + k) ≡ true
      → Runs order l s k × ((task_at l k).best ≤ (record_at g k).run) × (record_at s' k ≡ finished (record_at g k))
  pub leaves : (k : ℕ) → k < task_count l → bit c (task_count l + k) ≡ false
      → (Runs order l s k → (record_at g k).run ≢ (task_at l k).worst) × (record_at s' k ≡ record_at g k)
  pub others : OthersStay l g s'

-- the choice c leads in one tick from s, which fits and is not bad, to s'
pub record Tick (order : Order) (l : Layout) (c : ℕ) (s s' : PlantState) : Type 0 where
  pub fits : Fits l s
  pub good : Bad l s → ⊥
  pub below : c < 4 ^ task_count l
  -- the states after all releases, after rule 2 and after growth
  pub held : PlantState
  pub ready : PlantState
  pub grown : PlantState
  pub rule_1 : Releases l c s held
  pub rule_2 : Readies l held ready
  pub rule_4 : Grows order l ready grown
  pub rule_5 : Finishes order l c ready grown s'

-- the state after rule 2
abbrev pub claiming_state : Layout → ℕ → PlantState → PlantState
claiming_state l c s = record { records = claiming l c s.records }

-- exactly one ready task runs on a resource that has a ready one, and r names it
pub record NamesRunning (order : Order) (l : Layout) (s : PlantState) (resource : ℕ) (r : Option ℕ) : Type 0 where
  pub some_runs : (k : ℕ) → r ≡ Some k → (k < task_count l) × ((task_at l k).resource ≡ resource) × Runs order l s k
  pub no_other : (k : ℕ) → r ≡ Some k → (j : ℕ) → j < task_count l → (task_at l j).resource ≡ resource → Runs order l s j → j ≡ k
  pub none_ready : r ≡ None → (k : ℕ) → k < task_count l → (task_at l k).resource ≡ resource → (record_at s k).phase ≢ Ready
