-- One task more leaves the draft valid.
use Rattle.std.proofs.Common.{[], ◌∷◌, ◌++◌, sym, ap, ◌∙◌, arith}
use Rattle.systems.specs.Outcomes.{accepts}
use Rattle.plants.specs.Layouts.{valid}
use Rattle.plants.specs.EnteringLemmas.{admitted}
use Rattle.plants.specs.Entered.{valid_parts, valid_with_task}
use Rattle.plants.proofs.draft.DraftPlant.enter_task.Goals as goal

pub entered-requires : goal.entered-requires
entered-requires c =
    let l = c.args.self.now.layout in
    (admitted l c.args.task.now (ap accepts (sym c.check_task.ensures ∙ c.in_ok-number.was)) (valid_parts l c.args.self.now.valid).tasks_few).class

pub push-requires : goal.push-requires
push-requires c =
    let l = c.args.self.now.layout in
    (omega arith, (admitted l c.args.task.now (ap accepts (sym c.check_task.ensures ∙ c.in_ok-number.was)) (valid_parts l c.args.self.now.valid).tasks_few).room)

pub invariant_of-self : goal.invariant_of-self
invariant_of-self c =
    let l = c.args.self.now.layout in
    let v = valid_parts l c.args.self.now.valid in
    let ok = admitted l c.args.task.now (ap accepts (sym c.check_task.ensures ∙ c.in_ok-number.was)) in
    let tasks = c.push.ensures.items ∙ ap (λ t. l.tasks ++ t ∷ []) c.entered.ensures in
    record { valid = ap (λ ts. valid (record { resources = l.resources; tasks = ts })) tasks ∙ valid_with_task l c.args.task.now v ok }
