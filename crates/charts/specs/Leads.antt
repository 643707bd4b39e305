-- The calls made on a draft chart, and where an input leads from a step by the leads among them.
use Rattle.std.specs.Prelude.{◌≡◌, ℕ, ◌<◌, true, false, ◌⊎◌, List, [], ◌∷◌, ◌++◌, fold}
use Rattle.systems.specs.Outcomes.{accepts}
use Rattle.charts.specs.Entries.{begun, step_count, lead_at, with_step, with_input, set_lead, with_lead}
use Rattle.charts.specs.Charts.{legal, next}
use Rattle.charts.specs.declared.entries.Entries.{Entries}

-- a call of a draft with its fields, refused calls included: a step, forbidden or not; an input; a lead, with its step,
-- its input and its next step
pub data Call : Type 0 where
  AddStep : ℕ → Call
  AddInput : Call
  SetLead : ℕ → ℕ → ℕ → Call

-- the entries that a call leaves
abbrev pub after : Entries → Call → Entries
after e (AddStep forbidden) = with_step e forbidden
after e AddInput = with_input e
after e (SetLead s i n) = with_lead e s i n

-- the entries to which calls lead, made one after another
abbrev pub past : Entries → List Call → Entries
past = fold after

-- no call among those made from these entries on is an accepted lead for the step and the input
abbrev pub NoLead : Entries → List Call → ℕ → ℕ → Type 0
NoLead e [] s i = Unit {0}
NoLead e (c ∷ cs) s i = ((n : ℕ) → c ≡ SetLead s i n → accepts (set_lead e s i n) ≡ false) × NoLead (after e c) cs s i

-- the last accepted lead for the step and the input, among the calls made from these entries on, has this next step
pub record LastLead (e : Entries) (calls : List Call) (s i n : ℕ) : Type 0 where
  pub before : List Call
  pub later : List Call
  pub split : calls ≡ before ++ (SetLead s i n ∷ later)
  pub accepted : accepts (set_lead (past e before) s i n) ≡ true
  pub none_later : NoLead (after (past e before) (SetLead s i n)) later s i

-- by calls made on the empty draft the input leads from the step to n: that is where the last accepted lead for the two
-- goes, or there is none and n is the step itself
abbrev pub Goes : List Call → ℕ → ℕ → ℕ → Type 0
Goes calls s i n = LastLead begun calls s i n ⊎ (NoLead begun calls s i × (n ≡ s))

-- whatever calls led from the empty draft to the entries: by these calls an entered input leads from an entered step
-- where the step says, and a legal input to the next step that the chart replies
pub record FollowsLeads (e : Entries) : Type 0 where
  pub leads : (calls : List Call) → past begun calls ≡ e → (s i : ℕ) → s < step_count e → i < e.inputs → Goes calls s i (lead_at e s i)
  pub next_steps : (calls : List Call) → past begun calls ≡ e → (s i : ℕ) → legal e s i ≡ true → Goes calls s i (next e s i)
