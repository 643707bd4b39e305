-- A record, and what a rule of the tick makes of it.
use Rattle.std.specs.Prelude.{ℕ, ◌+◌, ◌≤◌, Bool, true, false, cond, ◌&&◌, List, map, replicate, ◌==◌, nat_le, Result, Ok, Err, nat_lt, slice_index_or}
use Rattle.std.specs.List.{range_with_len}
use Rattle.std.specs.Cmp.Lexicographic.{pointwise}
use Rattle.plants.specs.Limits.{most_ticks, most_tasks}
use Rattle.plants.specs.declared.state.Record.{Record}
use Rattle.plants.specs.declared.state.PlantState.{PlantState}
use Rattle.plants.specs.declared.state.Phase.{Phase}
use Rattle.plants.specs.declared.state.UnknownPhase.{UnknownPhase}
use Rattle.plants.specs.declared.state.Phase.TheVariants.{Before, Done, Held, Ready}

abbrev pub phase_number : Phase → ℕ
phase_number Before = 0
phase_number Done = 1
phase_number Held = 2
phase_number Ready = 3

-- the number is that of a phase
abbrev pub is_phase : ℕ → Bool
is_phase n = nat_le n 3

-- the phase of a number that is that of a phase
abbrev pub phase_of : ℕ → Phase
phase_of n = cond (n == 0) Before (cond (n == 1) Done (cond (n == 2) Held Ready))

-- the phase of a number, or the number where it is that of no phase
abbrev pub phase_in : ℕ → Result Phase UnknownPhase
phase_in n = cond (is_phase n) (Ok (phase_of n)) (Err (record { 0 = n }))

abbrev pub is_before : Phase → Bool
is_before Before = true
is_before Done = false
is_before Held = false
is_before Ready = false

abbrev pub is_done : Phase → Bool
is_done Before = false
is_done Done = true
is_done Held = false
is_done Ready = false

abbrev pub is_held : Phase → Bool
is_held Before = false
is_held Done = false
is_held Held = true
is_held Ready = false

abbrev pub is_ready : Phase → Bool
is_ready Before = false
is_ready Done = false
is_ready Held = false
is_ready Ready = true

-- a record by its four fields
abbrev pub rec : Phase → ℕ → ℕ → ℕ → Record
rec phase since run waited = record { phase = phase; since = since; run = run; waited = waited }

-- four zeros
abbrev pub blank : Record
blank = record { phase = Before; since = 0; run = 0; waited = 0 }

abbrev pub first_state : PlantState
first_state = record { records = replicate most_tasks blank }

abbrev pub released : Record
released = record { phase = Held; since = 0; run = 0; waited = 0 }

abbrev pub readied : Record → Record
readied r = record { phase = Ready; since = r.since; run = r.run; waited = r.waited }

-- one tick passes for a task that runs or does not
abbrev pub grown_by : Bool → Record → Record
grown_by runs r = record {
  phase = r.phase;
  since = r.since + 1;
  run = cond runs (r.run + 1) r.run;
  waited = cond (is_ready r.phase) (r.waited + 1) r.waited;
}

abbrev pub finished : Record → Record
finished r = record { phase = Done; since = r.since; run = 0; waited = 0 }

abbrev pub at : List Record → ℕ → Record
at rs i = slice_index_or rs i blank

-- the records of the first n tasks each made anew by f, and the others as they were
unfoldable pub each : ℕ → (ℕ → Record → Record) → List Record → List Record
each n f rs = map (λ i. cond (nat_lt i n) (f i (at rs i)) (at rs i)) (range_with_len 0 most_tasks)

abbrev pub same_record : Record → Record → Bool
same_record x y =
    (phase_number x.phase == phase_number y.phase) && x.since == y.since && x.run == y.run && x.waited == y.waited

abbrev pub same_records : List Record → List Record → Bool
same_records = pointwise same_record

-- no number of the record is above the greatest number of ticks, so that each has room to grow
pub record Low (r : Record) : Type 0 where
  pub since : r.since ≤ most_ticks
  pub run : r.run ≤ most_ticks
  pub waited : r.waited ≤ most_ticks
