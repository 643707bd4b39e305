-- Each turn passes one line and adds its answer; a line that begins no draft leaves the turn.
use Rattle.std.proofs.Common.{◌++◌, vec_items, sym, ap, ◌∙◌}
use Rattle.systems.specs.Outcomes.{answer_of}
use Rattle.logs.specs.Answers.{answered, line_spelled, spelled}
use Rattle.logs.specs.Pieces.{lines_ahead}
use Rattle.logs.specs.Turns.{Opening}
use Rattle.logs.specs.Log.{answers, answers_left}
use Rattle.logs.proofs.TurnsTaken.{open_more, left_some, begins_none}
use Rattle.logs.proofs.opening.open.Goals as goal

pub loop-line-preserved : goal.loop-line-preserved
loop-line-preserved c = λ cells.
    let out = vec_items c.loop-line.progress.log in
    let noted = c.in_ok-note.ensures.log ∙ ap (λ v. vec_items v ++ line_spelled (answered c.tag-tag.result c.answer.result)) c.in-Some.ensures.log in
    ap (λ r. vec_items c.note.new.self.log ++ spelled (answers cells Opening (lines_ahead r))) c.in_ok-note.ensures.reader
    ∙ ap (λ t. vec_items c.note.new.self.log ++ spelled (answers cells t (lines_ahead c.next_line.new.self.reader))) (sym (begins_none c.kind_of-kind.result (sym c.if-is_some.ensures)))
    ∙ open_more cells out c.in-Some.ensures.lines c.tag-tag.ensures c.kind_of-kind.ensures (c.answer.ensures.answer ∙ ap answer_of c.outcome.ensures) noted
    ∙ c.loop-line.invariant cells

pub returns-then-is_some : goal.returns-then-is_some
returns-then-is_some c = λ cells.
    let out = vec_items c.loop-line.progress.log in
    let noted = c.in_ok-note.ensures.log ∙ ap (λ v. vec_items v ++ line_spelled (answered c.tag-tag.result c.answer.result)) c.in-Some.ensures.log in
    ap (λ r. vec_items c.note.new.self.log ++ spelled (answers_left cells c.kind_of-kind.result (lines_ahead r))) c.in_ok-note.ensures.reader
    ∙ ap (λ ls. vec_items c.note.new.self.log ++ spelled ls) (left_some cells c.kind_of-kind.result (lines_ahead c.next_line.new.self.reader) (sym c.if-is_some.ensures))
    ∙ open_more cells out c.in-Some.ensures.lines c.tag-tag.ensures c.kind_of-kind.ensures (c.answer.ensures.answer ∙ ap answer_of c.outcome.ensures) noted
    ∙ c.loop-line.invariant cells
