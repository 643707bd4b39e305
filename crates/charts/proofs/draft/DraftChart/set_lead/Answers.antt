-- The entries afterwards are valid, since the entries before were.
use Rattle.std.proofs.Common.{sym, subst}
use Rattle.charts.specs.Entries.{Valid}
use Rattle.charts.proofs.Valid.{valid_lead}
use Rattle.charts.proofs.draft.DraftChart.set_lead.Goals as goal

pub invariant_of-self : goal.invariant_of-self
invariant_of-self c =
    let d = c.args.self.now in
    record { valid = subst Valid (sym c.set_lead.ensures.after) (valid_lead d.entries c.args.step c.args.input c.args.next d.valid) }
