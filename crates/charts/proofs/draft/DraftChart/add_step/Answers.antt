-- The entries afterwards are valid, since the entries before were.
use Rattle.std.proofs.Common.{sym, subst}
use Rattle.charts.specs.Entries.{Valid}
use Rattle.charts.proofs.Valid.{valid_step}
use Rattle.charts.proofs.draft.DraftChart.add_step.Goals as goal

pub invariant_of-self : goal.invariant_of-self
invariant_of-self c =
    let d = c.args.self.now in
    record { valid = subst Valid (sym c.add_step.ensures.after) (valid_step d.entries c.args.forbidden d.valid) }
