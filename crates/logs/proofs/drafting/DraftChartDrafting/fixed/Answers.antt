-- The chart holds the draft's entries, so its session answers as the turn after FIXD does.
use Rattle.std.proofs.Common.{sym, ap, ◌∙◌}
use Rattle.sessions.specs.Tables.{empty}
use Rattle.logs.specs.Turns.{logged_chart}
use Rattle.logs.specs.Serving.{served}
use Rattle.logs.specs.Log.{fresh}
use Rattle.logs.proofs.TurnsTaken.{on_chart}
use Rattle.logs.proofs.drafting.DraftChartDrafting.fixed.Goals as goal

pub returns-clause-serves : goal.returns-clause-serves
returns-clause-serves c = λ lines.
    on_chart fresh c.args.self.entries (empty fresh.for_charts) lines
    ∙ ap (λ x. served (logged_chart x) (empty fresh.for_charts) lines) (sym c.fix.ensures.entries)
