-- The task is accepted exactly when it enters.
use Rattle.std.proofs.Common.{ap, ◌∙◌}
use Rattle.systems.specs.Outcomes.{answer_of}
use Rattle.plants.specs.EnteringLemmas.{admitted, enters_task, exactly}
use Rattle.plants.proofs.draft.DraftPlant.add_task.Goals as goal

pub returns : goal.returns
returns c =
    let l = c.args.self.now.layout in
    let e = c.enter_task.ensures in
    let answer = c.answer.ensures.answer ∙ ap answer_of e.outcome in
    record {
      answer = answer;
      after = e.after;
      exact = exactly _ _ _ _ answer (λ h. admitted l c.args.task h e.few) (enters_task l c.args.task);
    }
