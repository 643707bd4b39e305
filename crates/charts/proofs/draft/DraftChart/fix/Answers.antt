-- The chart follows the draft's leads, as any entries that calls made do.
use Rattle.charts.proofs.Followed.{follows_leads}
use Rattle.charts.proofs.draft.DraftChart.fix.Goals as goal

pub returns-clause-leads : goal.returns-clause-leads
returns-clause-leads c = follows_leads _
