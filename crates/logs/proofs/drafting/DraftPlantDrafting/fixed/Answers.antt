-- The plant holds the draft's layout, so its session answers as the turn after FIXD does.
use Rattle.std.proofs.Common.{sym, ap, ◌∙◌}
use Rattle.sessions.specs.Tables.{empty}
use Rattle.logs.specs.Turns.{logged_plant}
use Rattle.logs.specs.Serving.{served}
use Rattle.logs.specs.Log.{fresh}
use Rattle.logs.proofs.Entries.{few_choices}
use Rattle.logs.proofs.TurnsTaken.{on_plant}
use Rattle.logs.proofs.drafting.DraftPlantDrafting.fixed.Goals as goal

pub returns-clause-serves : goal.returns-clause-serves
returns-clause-serves c = λ lines.
    on_plant fresh c.args.self.layout (empty fresh.for_plants) lines
    ∙ ap (λ x. served (logged_plant x) (empty fresh.for_plants) lines) (sym c.fix.ensures.layout)

pub returns-clause-few : goal.returns-clause-few
returns-clause-few c = few_choices c.fix.result.layout c.fix.result.valid
