-- The rule is applied to the task's own bit; what its run is after growth matters only where it runs, and a run past all
-- times is as good as any other such run.
use Rattle.std.proofs.Common.{◌≡◌, ℕ, ◌+◌, ◌<◌, ◌≤◌, Bool, true, false, min, slice_index_or, sym, refl, ap, ◌∙◌, ⊎_elim, arith}
use Rattle.std.proofs.lemmas.Bool.{ne_eqb, not_from_false, cases_lt}
use Rattle.std.proofs.lemmas.Bool.Decides.{nat_tests}
use Rattle.plants.specs.Bits.{bit}
use Rattle.plants.specs.Unused.{no_task}
use Rattle.plants.specs.Layouts.{task_at, in_ranges, task_count}
use Rattle.plants.specs.Limits.{most_ticks}
use Rattle.plants.specs.Records.{at, grown_by}
use Rattle.plants.specs.Entered.{valid_parts}
use Rattle.plants.specs.Ticks.{within}
use Rattle.plants.specs.Tick.{finish_in, finish_obeys, task_runs}
use Rattle.plants.specs.declared.layout.Task.{Task}
use Rattle.plants.specs.declared.state.Record.{Record}
use Rattle.plants.proofs.plant.Plant.finish_obeys.Goals as goal

past_all : (t : Task) (runs : Bool) (m n : ℕ) (b : Bool) → in_ranges t ≡ true → most_ticks < m → most_ticks < n → finish_in t runs m b ≡ finish_in t runs n b
past_all t true m n true v h k = grind (arith, nat_tests)
past_all t true m n false v h k = grind (arith, nat_tests)
past_all t false m n true v h k = refl
past_all t false m n false v h k = refl

only_running : (t : Task) (runs : Bool) (r : Record) (b : Bool) → finish_in t runs (r.run + 1) b ≡ finish_in t runs (grown_by runs r).run b
only_running t true r b = refl
only_running t false r true = refl
only_running t false r false = refl

cut_off : (t : Task) (runs : Bool) (r : Record) (m : ℕ) (b : Bool) → in_ranges t ≡ true → m ≡ min (r.run + 1) 4294967295 → finish_in t runs m b ≡ finish_in t runs (grown_by runs r).run b
cut_off t runs r m b v e =
    ⊎_elim
    (λ (lt : r.run < 4294967295). let same : m ≡ r.run + 1 = omega arith in ap (λ n. finish_in t runs n b) same)
    (λ (le : 4294967295 ≤ r.run). past_all t runs m (r.run + 1) b v (omega arith) (omega arith))
    (cases_lt r.run 4294967295)
    ∙ only_running t runs r b

not_worn : (t : Task) (runs : Bool) (m : ℕ) → (m ≡ t.worst → ⊥) → finish_in t runs m false ≡ true
not_worn t true m n = not_from_false _ (ne_eqb _ _ n)
not_worn t false m n = refl

pub returns-then-run-task : goal.returns-then-run-task
unfolding finish_obeys
returns-then-run-task g c =
    let l = c.args.self.now.layout in
    let i = c.args.i in
    let r = at c.args.state.now.records i in
    let runs = task_runs (g.P.Policy.order c.args.self.now.policy) l c.args.state.now.records i in
    let v = (within l (valid_parts l c.args.self.now.valid) i c.requires).ranges in
    let bit_clear = ap (λ n. bit c.args.choice (n + i)) (sym c.len.ensures.value) ∙ sym c.has_bit-finished.ensures ∙ c.if-not-finished.true in
    let worst = ap (λ ts. (slice_index_or ts i no_task).worst) c.deref.ensures.0 in
    sym (ap (finish_in (task_at l i) runs (grown_by runs r).run) bit_clear
    ∙ sym (cut_off (task_at l i) runs r c.saturating_add-run.result false v c.saturating_add-run.ensures)
    ∙ not_worn (task_at l i) runs c.saturating_add-run.result (λ e. c.if-run-task.true (e ∙ sym worst)))

pub returns : goal.returns
unfolding finish_obeys
returns g c =
    let l = c.args.self.now.layout in
    let i = c.args.i in
    let r = at c.args.state.now.records i in
    let runs = task_runs (g.P.Policy.order c.args.self.now.policy) l c.args.state.now.records i in
    let v = (within l (valid_parts l c.args.self.now.valid) i c.requires).ranges in
    let run = c.saturating_add-run.result in
    let finished = bit c.args.choice (task_count l + i) in
    c.may_finish.ensures
    ∙ ap (λ ts. finish_in (slice_index_or ts i no_task) c.runs.result run c.has_bit-finished.result) c.deref.ensures.0
    ∙ ap (λ b. finish_in (task_at l i) c.runs.result run b) (c.has_bit-finished.ensures ∙ ap (λ n. bit c.args.choice (n + i)) c.len.ensures.value)
    ∙ ap (λ b. finish_in (task_at l i) b run finished) c.runs.ensures
    ∙ cut_off (task_at l i) runs r run finished v c.saturating_add-run.ensures
