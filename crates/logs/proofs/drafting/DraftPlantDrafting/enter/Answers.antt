-- The draft's own answer to a task, whose numbers are small since a plant has few tasks.
use Rattle.std.proofs.Common.{sym, subst}
use Rattle.plants.specs.Entered.{valid_parts}
use Rattle.logs.specs.Answers.{Narrow}
use Rattle.logs.proofs.Entries.{task_small}
use Rattle.logs.proofs.drafting.DraftPlantDrafting.enter.Goals as goal

pub returns-in-Task-clause-narrow : goal.returns-in-Task-clause-narrow
returns-in-Task-clause-narrow c =
    let d = c.args.self.now in
    subst Narrow (sym c.add_task.ensures.answer) (task_small d.layout c.task_in.result (valid_parts d.layout d.valid).tasks_few)
