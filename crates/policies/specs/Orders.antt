-- The orders of claims that the policies stand for.
use Rattle.std.specs.Prelude.{ℕ, Bool, true, false, cond, ◌==◌, nat_lt, Result, Ok, Err}
use Rattle.std.specs.Result.{result_unwrap_or}
use Rattle.policies.specs.declared.policy.Claim.{Claim}
use Rattle.policies.specs.declared.orders.Discipline.{Discipline}
use Rattle.policies.specs.declared.orders.Discipline.TheVariants.{Fifo, FixedPriority, EarliestDeadline}
use Rattle.policies.specs.declared.site.Preemption.{Preemption}
use Rattle.policies.specs.declared.site.Preemption.TheVariants.{NotPreemptive, Preemptive}
use Rattle.policies.specs.declared.site.UnknownNumber.{UnknownNumber}

-- of two task numbers with a figure each, the larger figure goes first, on a tie the lower number, and of equal numbers neither
abbrev pub ranks : ℕ → ℕ → ℕ → ℕ → Bool
ranks one other mine theirs = cond (one == other) false (cond (mine == theirs) (nat_lt one other) (nat_lt theirs mine))

-- FIFO
abbrev pub longest_waited : Claim → Claim → Bool
longest_waited a b = ranks a.task b.task a.waited b.waited

-- fixed priority
abbrev pub highest_priority : Claim → Claim → Bool
highest_priority a b = ranks a.task b.task a.priority b.priority

-- earliest deadline: here the smaller figure goes first
abbrev pub least_left : Claim → Claim → Bool
least_left a b = ranks a.task b.task b.left a.left

abbrev pub order_of : Discipline → Claim → Claim → Bool
order_of Fifo = longest_waited
order_of FixedPriority = highest_priority
order_of EarliestDeadline = least_left

-- a claim that has run goes before one that has not, and otherwise the order below decides
abbrev pub begun_first : (Claim → Claim → Bool) → Claim → Claim → Bool
begun_first below a b =
    cond (a.task == b.task) false
    (cond (nat_lt 0 a.run) (cond (nat_lt 0 b.run) (below a b) true) (cond (nat_lt 0 b.run) false (below a b)))

-- the policy numbers
abbrev pub discipline_number : Discipline → ℕ
discipline_number Fifo = 0
discipline_number FixedPriority = 1
discipline_number EarliestDeadline = 2

abbrev pub fixed_priority : ℕ
fixed_priority = discipline_number FixedPriority

abbrev pub earliest_deadline : ℕ
earliest_deadline = discipline_number EarliestDeadline

-- the discipline of a policy number, and the error with that number where no discipline has it
abbrev pub discipline_of : ℕ → Result Discipline UnknownNumber
discipline_of number =
    cond (number == discipline_number Fifo) (Ok Fifo)
    (cond (number == fixed_priority) (Ok FixedPriority) (cond (number == earliest_deadline) (Ok EarliestDeadline) (Err (record { 0 = number }))))

-- a policy number that is none of the three is read as FIFO's
abbrev pub numbered : ℕ → Claim → Claim → Bool
numbered policy = order_of (result_unwrap_or (discipline_of policy) Fifo)

-- the preempt numbers
abbrev pub preemption_number : Preemption → ℕ
preemption_number NotPreemptive = 0
preemption_number Preemptive = 1

abbrev pub preemptive : ℕ
preemptive = preemption_number Preemptive

-- the preemption of a preempt number, and the error with that number where none has it
abbrev pub preemption_of : ℕ → Result Preemption UnknownNumber
preemption_of number =
    cond (number == preemption_number NotPreemptive) (Ok NotPreemptive) (cond (number == preemptive) (Ok Preemptive) (Err (record { 0 = number })))

-- an order as it is, or with begun tasks first
abbrev pub layered : Preemption → (Claim → Claim → Bool) → Claim → Claim → Bool
layered Preemptive order = order
layered NotPreemptive order = begun_first order

-- a preempt number that is neither of the two is read as not preemptive
abbrev pub site : ℕ → ℕ → Claim → Claim → Bool
site policy preempt = layered (result_unwrap_or (preemption_of preempt) NotPreemptive) (numbered policy)
