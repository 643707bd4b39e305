-- What is written so far, with the answers to the lines ahead, is the log of all of them.
use Rattle.std.proofs.Common.{◌≡◌, ◌++◌, length, vec_items}
use Rattle.logs.specs.Answers.{spelled}
use Rattle.logs.specs.Pieces.{lines_ahead}
use Rattle.logs.specs.Turns.{Memory}
use Rattle.logs.specs.Log.{answers}
use Rattle.logs.proofs.drafting.draft_lines.Given as goal

abbrev pub invariant-loop-line : goal.invariant-loop-line
invariant-loop-line g l =
    let turn = g.D.Drafting.turn in
    (cells : Memory) → vec_items l.progress.log ++ spelled (answers cells (turn l.draft) (lines_ahead l.progress.reader)) ≡ vec_items l.initial.progress.log ++ spelled (answers cells (turn l.initial.draft) (lines_ahead l.initial.progress.reader))

abbrev pub decreases-loop-line : goal.decreases-loop-line
decreases-loop-line g l = length (lines_ahead l.progress.reader)
