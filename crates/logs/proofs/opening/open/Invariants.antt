-- What is written so far, with the answers to the lines ahead, is the log of all of them.
use Rattle.std.proofs.Common.{◌≡◌, ◌++◌, length, vec_items}
use Rattle.logs.specs.Answers.{spelled}
use Rattle.logs.specs.Pieces.{lines_ahead}
use Rattle.logs.specs.Turns.{Memory, Opening}
use Rattle.logs.specs.Log.{answers}
use Rattle.logs.proofs.opening.open.Given as goal

abbrev pub invariant-loop-line : goal.invariant-loop-line
invariant-loop-line l = (cells : Memory) → vec_items l.progress.log ++ spelled (answers cells Opening (lines_ahead l.progress.reader)) ≡ vec_items l.initial.progress.log ++ spelled (answers cells Opening (lines_ahead l.initial.progress.reader))

abbrev pub decreases-loop-line : goal.decreases-loop-line
decreases-loop-line l = length (lines_ahead l.progress.reader)
