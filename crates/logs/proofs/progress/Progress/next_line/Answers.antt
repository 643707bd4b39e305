-- A reader that is not at its end passes the first of its lines; one at its end has none ahead.
use Rattle.logs.proofs.Ahead.{ahead_more, heard_few}
use Rattle.logs.proofs.progress.Progress.next_line.Goals as goal

pub returns-clause-lines : goal.returns-clause-lines
returns-clause-lines c = ahead_more c.next_line-line.ensures.hears c.at_end.ensures.1 c.if-at_end.false

pub returns-clause-few : goal.returns-clause-few
returns-clause-few c = heard_few c.next_line-line.ensures.hears
