-- The orders are lawful: by any figure, so that of each discipline, and with either preemption over any lawful order.
use Rattle.std.specs.Prelude.{ℕ, Bool}
use Rattle.std.proofs.Common.{rules, arith}
use Rattle.std.proofs.lemmas.Bool.Decides.{nat_tests}
use Rattle.policies.specs.declared.policy.Claim.{Claim}
use Rattle.policies.specs.declared.orders.Discipline.{Discipline}
use Rattle.policies.specs.declared.orders.Discipline.TheVariants.{Fifo, FixedPriority, EarliestDeadline}
use Rattle.policies.specs.declared.site.Preemption.{Preemption}
use Rattle.policies.specs.declared.site.Preemption.TheVariants.{NotPreemptive, Preemptive}
use Rattle.policies.specs.Lawful.{Lawful}
use Rattle.policies.specs.Orders.{ranks, order_of, layered}

larger_lawful : (figure : Claim → ℕ) → Lawful (λ a b. ranks a.task b.task (figure a) (figure b))
larger_lawful figure = record {
  one = λ a b d. grind (arith, nat_tests);
  transitive = λ a b c d e f p q. grind (arith, nat_tests);
  equal = λ a b e. grind (arith, nat_tests);
}

smaller_lawful : (figure : Claim → ℕ) → Lawful (λ a b. ranks a.task b.task (figure b) (figure a))
smaller_lawful figure = record {
  one = λ a b d. grind (arith, nat_tests);
  transitive = λ a b c d e f p q. grind (arith, nat_tests);
  equal = λ a b e. grind (arith, nat_tests);
}

pub order_of_lawful : (discipline : Discipline) → Lawful (order_of discipline)
order_of_lawful Fifo = larger_lawful (λ c. c.waited)
order_of_lawful FixedPriority = larger_lawful (λ c. c.priority)
order_of_lawful EarliestDeadline = smaller_lawful (λ c. c.left)

pub layered_lawful : (preemption : Preemption) (order : Claim → Claim → Bool) → Lawful order → Lawful (layered preemption order)
layered_lawful Preemptive order law = law
layered_lawful NotPreemptive order law = search rules
