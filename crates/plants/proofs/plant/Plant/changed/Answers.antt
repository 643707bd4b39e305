-- At the end every task's record is made anew.
use Rattle.std.proofs.Common.{◌≡◌, ◌<◌, cond, slice_set, sym, ap, ◌∙◌, arith}
use Rattle.std.proofs.lemmas.List.{set-get_or}
use Rattle.plants.specs.Limits.{most_tasks}
use Rattle.plants.specs.Records.{at, blank}
use Rattle.plants.specs.Layouts.{task_count}
use Rattle.plants.specs.Each.{upto_step, upto_all}
use Rattle.plants.specs.declared.state.PlantState.{PlantState}
use Rattle.plants.proofs.plant.Plant.changed.Goals as goal
use Rattle.plants.proofs.plant.Plant.changed.Goals.{then-test, else-test}

pub loop-i-preserved : goal.loop-i-preserved
loop-i-preserved g c p f t h =
    let xs = c.loop-i.out.records in
    let i = c.loop-i.i in
    let low : i < task_count c.args.self.now.layout = omega (arith, c.loop-i-test.true, c.len-i-end.ensures.value) in
    let lt : i < most_tasks = omega (arith, c.loop-i-test.true, c.len-i-end.ensures.fits) in
    let is : c.test.result ≡ p i = t i c.test.result low c.test.ensures in
    upto_step (λ i r. cond (p i) (f r) r) c.args.state.records i xs c.if-test.out.records lt (c.loop-i.invariant p f t h)
    (elim c.if-test.branch [
      | then-test w ↦ ap (λ (s : PlantState). s.records) w.out-is ∙ h _ _ i lt w.change.ensures
          ∙ ap (λ b. slice_set xs i (cond b (f (at xs i)) (at xs i))) (sym w.if-test.true ∙ is)
      | else-test w ↦ ap (λ (s : PlantState). s.records) w.out-is ∙ sym (set-get_or xs i blank)
          ∙ ap (λ b. slice_set xs i (cond b (f (at xs i)) (at xs i))) (sym w.if-test.false ∙ is)
    ])

pub returns : goal.returns
returns g c p f t h = upto_all _ _ _ c.loop-i.i _ (omega arith) (c.loop-i.invariant p f t h)
