-- One resource more leaves the draft valid.
use Rattle.std.proofs.Common.{sym, ap, ◌∙◌}
use Rattle.systems.specs.Outcomes.{accepts}
use Rattle.plants.specs.Layouts.{valid}
use Rattle.plants.specs.Entered.{valid_parts, resource_room, valid_with_resource}
use Rattle.plants.proofs.draft.DraftPlant.enter_resource.Goals as goal

pub invariant_of-self : goal.invariant_of-self
invariant_of-self c =
    let l = c.args.self.now.layout in
    let v = valid_parts l c.args.self.now.valid in
    let room = resource_room l c.args.policy c.args.preempt v (ap accepts (sym c.check_resource.ensures ∙ c.in_ok-number.was)) in
    record { valid = ap (λ rs. valid (record { resources = rs; tasks = l.tasks })) c.push.ensures.items ∙ valid_with_resource l _ v room }
