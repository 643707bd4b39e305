-- What is written so far, with the answers to the lines ahead, is the log of all of them.
use Rattle.std.proofs.Common.{◌≡◌, ◌++◌, length, vec_items}
use Rattle.sessions.specs.Views.{table_of}
use Rattle.logs.specs.Answers.{spelled}
use Rattle.logs.specs.Pieces.{lines_ahead}
use Rattle.logs.specs.Serving.{logged, served}
use Rattle.logs.proofs.serving.Serving.serve.Given as goal

abbrev pub invariant-loop-line : goal.invariant-loop-line
invariant-loop-line g l =
    let v = logged g.Y.System.meaning g.Y.Loggable.numbers g.Y.Loggable.restored l.initial.self.system.now in
    (l.self.system ≡ l.initial.self.system)
    × (vec_items l.progress.log ++ spelled (served v (table_of l.self.session) (lines_ahead l.progress.reader))
    ≡ vec_items l.initial.progress.log ++ spelled (served v (table_of l.initial.self.session) (lines_ahead l.initial.progress.reader)))

abbrev pub decreases-loop-line : goal.decreases-loop-line
decreases-loop-line g l = length (lines_ahead l.progress.reader)
