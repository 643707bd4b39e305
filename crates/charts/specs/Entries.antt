-- What may be entered into a draft chart, and what the draft then holds.
use Rattle.std.specs.Prelude.{◌≡◌, ℕ, ◌+◌, ◌<◌, ◌≤◌, Bool, false, cond, [], ◌∷◌, ◌++◌, replicate, ◌==◌, nat_le, nat_lt, slice_index, slice_index_or, slice_set, Ok, Err}
use Rattle.arrayvec.specs.ArrayVec.{array_vec_len, with_item}
use Rattle.systems.specs.Outcomes.{Outcome, accepts}
use Rattle.systems.specs.declared.outcome.Refusal.TheVariants.{FieldOutside, NoRoom}
use Rattle.charts.specs.declared.entries.Step.{Step}
use Rattle.charts.specs.declared.entries.Entries.{Entries}

-- the most steps and inputs of a chart
abbrev pub most_steps : ℕ
most_steps = 64

abbrev pub most_inputs : ℕ
most_inputs = 8

-- a step that every input leads to the step n
abbrev pub leading : Bool → ℕ → Step
leading forbidden n = record { forbidden = forbidden; leads = replicate most_inputs n }

-- how many steps are entered
abbrev pub step_count : Entries → ℕ
step_count e = array_vec_len e.steps

-- past the steps
abbrev pub no_step : Step
no_step = record { forbidden = false; leads = [] }

abbrev pub step_at : Entries → ℕ → Step
step_at e s = slice_index_or e.steps.items s no_step

-- where an input leads from a step
abbrev pub lead_at : Entries → ℕ → ℕ → ℕ
lead_at e s i = slice_index (step_at e s).leads i

-- step 0, not forbidden, and input 0, which leads from it to itself
abbrev pub begun : Entries
begun = record { steps = record { items = leading false 0 ∷ [] }; inputs = 1 }

-- a step
abbrev pub add_step : Entries → ℕ → Outcome
add_step e forbidden =
    cond (nat_lt (step_count e) most_steps) (cond (nat_le forbidden 1) (Ok (step_count e)) (Err (FieldOutside 1))) (Err NoRoom)

abbrev pub with_step : Entries → ℕ → Entries
with_step e forbidden =
    cond (accepts (add_step e forbidden))
    (record { steps = record { items = e.steps.items ++ leading (forbidden == 1) (step_count e) ∷ [] }; inputs = e.inputs })
    e

-- an input
abbrev pub add_input : Entries → Outcome
add_input e = cond (nat_lt e.inputs most_inputs) (Ok e.inputs) (Err NoRoom)

abbrev pub with_input : Entries → Entries
with_input e = cond (accepts (add_input e)) (record { steps = e.steps; inputs = e.inputs + 1 }) e

-- a lead: from a step, by an input, to the next step
abbrev pub set_lead : Entries → ℕ → ℕ → ℕ → Outcome
set_lead e step input next =
    cond (nat_lt step (step_count e))
    (cond (nat_lt input e.inputs) (cond (nat_lt next (step_count e)) (Ok 0) (Err (FieldOutside 3))) (Err (FieldOutside 2)))
    (Err (FieldOutside 1))

abbrev pub relead : Step → ℕ → ℕ → Step
relead s input next = record { forbidden = s.forbidden; leads = slice_set s.leads input next }

abbrev pub with_lead : Entries → ℕ → ℕ → ℕ → Entries
with_lead e step input next =
    cond (accepts (set_lead e step input next))
    (record { steps = with_item e.steps step (relead (step_at e step) input next); inputs = e.inputs })
    e

-- every step that is entered leads to steps that are entered
abbrev pub Inside : Entries → Type 0
Inside e = (s i : ℕ) → (s < step_count e) × (i < most_inputs) → lead_at e s i < step_count e

-- by an input that is not entered every step that is entered leads to itself
abbrev pub Idle : Entries → Type 0
Idle e = (s i : ℕ) → (s < step_count e) × (e.inputs ≤ i) × (i < most_inputs) → lead_at e s i ≡ s

-- what holds of every draft and every chart: entries within the limits, leads inside, and idle inputs (few_steps is the
-- capacity, which code knows of an `ArrayVec` and lemmas over entries do not)
pub record Valid (e : Entries) : Type 0 where
  pub some_steps : 0 < step_count e
  pub few_steps : step_count e ≤ most_steps
  pub some_inputs : 0 < e.inputs
  pub few_inputs : e.inputs ≤ most_inputs
  pub inside : Inside e
  pub idle : Idle e

-- after an accepted input, every step that is entered leads by it to itself
abbrev pub Home : Entries → Entries → Type 0
Home e after = e.inputs < after.inputs → (s : ℕ) → s < step_count e → lead_at after s e.inputs ≡ s
