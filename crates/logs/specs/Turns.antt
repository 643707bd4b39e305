-- Whose turn it is, what a line is answered in its turn, and whose turn it is then.
use Rattle.std.specs.Prelude.{ℕ, cond, List, Some, None, Option, Ok}
use Rattle.systems.specs.Systems.{Meaning, BadRun, Safe}
use Rattle.systems.specs.Outcomes.{Outcome, answer_of}
use Rattle.sessions.specs.declared.cell.Cell.{Cell}
use Rattle.sessions.specs.Tables.{Listing, empty}
use Rattle.charts.specs.Entries.{begun, step_count, add_step, with_step, add_input, with_input, set_lead, with_lead}
use Rattle.charts.specs.Charts.{chart_meaning}
use Rattle.charts.specs.Numbers.{step_numbers, step_of}
use Rattle.charts.specs.declared.entries.Entries.{Entries}
use Rattle.policies.specs.Orders.{site}
use Rattle.plants.specs.Chains.{Chains, end_of}
use Rattle.plants.specs.Layouts.{nothing, task_count}
use Rattle.plants.specs.Entries.{resource_comes_to, after_resource, task_comes_to, after_task}
use Rattle.plants.specs.Meanings.{plant_meaning}
use Rattle.plants.specs.Numbers.{state_numbers, state_of}
use Rattle.plants.specs.Records.{first_state}
use Rattle.plants.specs.Rules.{Bad, Tick}
use Rattle.plants.specs.declared.layout.Layout.{Layout}
use Rattle.plants.specs.declared.layout.TaskEntry.{TaskEntry}
use Rattle.plants.specs.declared.state.PlantState.{PlantState}
use Rattle.lines.specs.declared.tag.Tag.{Tag}
use Rattle.lines.specs.declared.tag.Tag.TheVariants.{Plnt, Chrt, Inpt, Fixd, Step, Rsrc, Lead, Task}
use Rattle.logs.specs.Answers.{Said, is, nth, unheard, answered}
use Rattle.logs.specs.declared.opening.Kind.{Kind}
use Rattle.logs.specs.declared.opening.Kind.TheVariants.{Plant, Chart}
use Rattle.logs.specs.Serving.{Logged, says_in, goes_in}

-- before PLNT or CHRT; in a plant's or a chart's draft; in a session on what was fixed
pub data Turn : Type 0 where
  Opening : Turn
  PlantDraft : Layout → Turn
  ChartDraft : Entries → Turn
  OnPlant : Layout → Listing PlantState → Turn
  OnChart : Entries → Listing ℕ → Turn

-- the cells over which a session is opened
pub record Memory : Type 0 where
  pub for_plants : List (Cell PlantState)
  pub for_charts : List (Cell ℕ)

-- the plant of a layout under the site's policy, and the chart of entries, as they are logged
abbrev pub site_plant : Layout → Meaning PlantState
site_plant l = plant_meaning site l

abbrev pub logged_plant : Layout → Logged PlantState
logged_plant l = record { means = site_plant l; numbers = λ s. state_numbers (task_count l) s.records; restored = state_of (task_count l) }

abbrev pub logged_chart : Entries → Logged ℕ
logged_chart e = record { means = chart_meaning e; numbers = step_numbers; restored = step_of }

-- First PLNT or CHRT, which begins an empty draft
abbrev pub kind : Tag → Option Kind
kind t = cond (is Plnt t) (Some Plant) (cond (is Chrt t) (Some Chart) None)

abbrev pub begins : Option Kind → Turn
begins None = Opening
begins (Some Plant) = PlantDraft nothing
begins (Some Chart) = ChartDraft begun

abbrev pub opening : Option Kind → Tag → Outcome
opening None t = unheard t
opening (Some k) t = Ok 0

-- In a chart's draft: STEP, INPT, LEAD, FIXD
abbrev pub chart_reply : Entries → Tag → List ℕ → Outcome
chart_reply e t ns =
    cond (is Step t) (add_step e (nth ns 0))
    (cond (is Inpt t) (add_input e)
    (cond (is Lead t) (set_lead e (nth ns 0) (nth ns 1) (nth ns 2))
    (cond (is Fixd t) (Ok (step_count e)) (unheard t))))

abbrev pub chart_after : Entries → Tag → List ℕ → Entries
chart_after e t ns =
    cond (is Step t) (with_step e (nth ns 0))
    (cond (is Inpt t) (with_input e) (cond (is Lead t) (with_lead e (nth ns 0) (nth ns 1) (nth ns 2)) e))

-- In a plant's draft: RSRC, TASK, FIXD
abbrev pub task_of : List ℕ → TaskEntry
task_of ns = record {
  offset = nth ns 0;
  least = nth ns 1;
  greatest = nth ns 2;
  best = nth ns 3;
  worst = nth ns 4;
  deadline = nth ns 5;
  class = nth ns 6;
  resource = nth ns 7;
  needs = nth ns 8;
}

abbrev pub plant_reply : Layout → Tag → List ℕ → Outcome
plant_reply l t ns =
    cond (is Rsrc t) (resource_comes_to l (nth ns 0) (nth ns 1))
    (cond (is Task t) (task_comes_to l (task_of ns)) (cond (is Fixd t) (Ok (task_count l)) (unheard t)))

abbrev pub plant_after : Layout → Tag → List ℕ → Layout
plant_after l t ns = cond (is Rsrc t) (after_resource l (nth ns 0) (nth ns 1)) (cond (is Task t) (after_task l (task_of ns)) l)

-- the log's line for a line
abbrev pub says : Turn → Said → Said
says Opening l = answered l.0 (answer_of (opening (kind l.0) l.0))
says (PlantDraft x) l = answered l.0 (answer_of (plant_reply x l.0 l.1))
says (ChartDraft x) l = answered l.0 (answer_of (chart_reply x l.0 l.1))
says (OnPlant x t) l = says_in (logged_plant x) t l.0 l.1
says (OnChart x t) l = says_in (logged_chart x) t l.0 l.1

-- the turn after a line that does not fix a draft; no refused line moves it
abbrev pub entered : Turn → Said → Turn
entered Opening l = begins (kind l.0)
entered (PlantDraft x) l = PlantDraft (plant_after x l.0 l.1)
entered (ChartDraft x) l = ChartDraft (chart_after x l.0 l.1)
entered (OnPlant x t) l = OnPlant x (goes_in (logged_plant x) t l.0 l.1)
entered (OnChart x t) l = OnChart x (goes_in (logged_chart x) t l.0 l.1)

-- fixing a draft opens a session on it over the cells
abbrev pub fixed : Memory → Turn → Turn
fixed cells Opening = Opening
fixed cells (PlantDraft x) = OnPlant x (empty cells.for_plants)
fixed cells (ChartDraft x) = OnChart x (empty cells.for_charts)
fixed cells (OnPlant x t) = OnPlant x t
fixed cells (OnChart x t) = OnChart x t

abbrev pub goes : Memory → Turn → Said → Turn
goes cells turn l = cond (is Fixd l.0) (fixed cells turn) (entered turn l)

-- no chain of ticks from the first state, of any length, ends in a state with a late task, and every chain can go on
pub record SafeTicks (x : Layout) : Type 0 where
  pub never_late : (cs : List ℕ) (xs : List PlantState) → Chains site x first_state cs xs → Bad x (end_of first_state xs) → ⊥
  pub goes_on : (cs : List ℕ) (xs : List PlantState) → Chains site x first_state cs xs
      → (c : ℕ) × (s : PlantState) × Tick site x c (end_of first_state xs) s

-- what was fixed is safe: no run of the plant or chart, of any length, is bad, and every run can go on
abbrev pub SafeTurn : Turn → Type 0
SafeTurn Opening = ⊥
SafeTurn (PlantDraft x) = ⊥
SafeTurn (ChartDraft x) = ⊥
SafeTurn (OnPlant x t) = Safe (site_plant x)
SafeTurn (OnChart x t) = Safe (chart_meaning x)

-- of a plant that was fixed the relation of the tick says so too
abbrev pub SafeTicksTurn : Turn → Type 0
SafeTicksTurn Opening = ⊥
SafeTicksTurn (PlantDraft x) = ⊥
SafeTicksTurn (ChartDraft x) = ⊥
SafeTicksTurn (OnPlant x t) = SafeTicks x
SafeTicksTurn (OnChart x t) = Unit {0}

-- choices that are a bad run of what was fixed; before that there are none
abbrev pub BadRunTurn : Turn → List ℕ → Type 0
BadRunTurn Opening cs = ⊥
BadRunTurn (PlantDraft x) cs = ⊥
BadRunTurn (ChartDraft x) cs = ⊥
BadRunTurn (OnPlant x t) cs = BadRun (site_plant x) cs
BadRunTurn (OnChart x t) cs = BadRun (chart_meaning x) cs
