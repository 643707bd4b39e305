-- A plant's state as numbers: four for each entered task, in the order of the tasks.
use Rattle.std.specs.Prelude.{ℕ, ◌+◌, ◌*◌, Bool, cond, ◌&&◌, List, [], ◌∷◌, map, length, Some, None, Option, ◌==◌, slice_index}
use Rattle.std.specs.List.{flat_map, range_with_len}
use Rattle.plants.specs.Below.{all_below}
use Rattle.plants.specs.Records.{phase_number, phase_of, is_phase, first_state, at, each}
use Rattle.plants.specs.declared.state.Record.{Record}
use Rattle.plants.specs.declared.state.PlantState.{PlantState}

-- how many numbers a task has
abbrev pub per_task : ℕ
per_task = 4

-- the four numbers of a record
abbrev pub record_numbers : Record → List ℕ
record_numbers r = phase_number r.phase ∷ r.since ∷ r.run ∷ r.waited ∷ []

-- the first n records; a record that is not there is four zeros
abbrev pub first_records : ℕ → List Record → List Record
first_records n rs = map (at rs) (range_with_len 0 n)

-- the numbers of the first n records, where the four of each follow those of the one before
unfoldable pub state_numbers : ℕ → List Record → List ℕ
state_numbers n rs = flat_map record_numbers (first_records n rs)

-- the record that the i-th four numbers are
abbrev pub record_of : List ℕ → ℕ → Record
record_of ns i = record {
  phase = phase_of (slice_index ns (per_task * i));
  since = slice_index ns (per_task * i + 1);
  run = slice_index ns (per_task * i + 2);
  waited = slice_index ns (per_task * i + 3);
}

-- the record that four numbers are, if the first is that of a phase
abbrev pub record_in : List ℕ → Option Record
record_in ns = cond (is_phase (slice_index ns 0)) (Some (record_of ns 0)) None

-- the i-th four numbers begin with that of a phase
unfoldable pub is_phase_at : List ℕ → ℕ → Bool
is_phase_at ns i = is_phase (slice_index ns (per_task * i))

-- the state whose first n records are those of the numbers, and whose others are four zeros
unfoldable pub state_with : ℕ → List ℕ → PlantState
state_with n ns = record { records = each n (λ i r. record_of ns i) first_state.records }

-- numbers are a state of n tasks when there are four for each task, each four with a phase
abbrev pub is_state : ℕ → List ℕ → Bool
is_state n ns = length ns == per_task * n && all_below (is_phase_at ns) n

-- the state of n tasks that numbers are
abbrev pub state_of : ℕ → List ℕ → Option PlantState
state_of n ns = cond (is_state n ns) (Some (state_with n ns)) None
