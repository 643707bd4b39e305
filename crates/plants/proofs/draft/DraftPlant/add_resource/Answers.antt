-- The resource is accepted exactly when it enters.
use Rattle.std.proofs.Common.{ap, ◌∙◌}
use Rattle.systems.specs.Outcomes.{answer_of}
use Rattle.plants.specs.EnteringLemmas.{resource_enters, enters_resource, exactly}
use Rattle.plants.proofs.draft.DraftPlant.add_resource.Goals as goal

pub returns : goal.returns
returns c =
    let l = c.args.self.now.layout in
    let e = c.enter_resource.ensures in
    let answer = c.answer.ensures.answer ∙ ap answer_of e.outcome in
    record {
      answer = answer;
      after = e.after;
      exact = exactly _ _ _ _ answer (resource_enters l c.args.policy c.args.preempt e.few) (enters_resource l c.args.policy c.args.preempt);
    }
