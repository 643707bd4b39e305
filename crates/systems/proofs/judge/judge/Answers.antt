-- The answer is the outcome's, accepts exactly the bad runs, and says why it does not accept.
use Rattle.std.proofs.Common.{ap, ◌∙◌}
use Rattle.systems.specs.Outcomes.{answer_of}
use Rattle.systems.proofs.Judged.{judges, says_why}
use Rattle.systems.proofs.judge.judge.Goals as goal

pub returns : goal.returns
returns g c =
    let m = g.Y.System.meaning c.args.system.now in
    let cs = c.args.choices.now in
    let e = c.answer.ensures.answer ∙ ap answer_of c.outcome.ensures in
    record { answer = e; exact = judges m cs c.answer.result e; why = says_why m cs c.answer.result e }
