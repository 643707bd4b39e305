-- Each turn passes one line and adds its answer; FIXD is the last.
use Rattle.std.proofs.Common.{◌≡◌, true, false, ◌++◌, vec_items, sym, ap, ◌∙◌, rules}
use Rattle.lines.specs.declared.tag.Tag.TheVariants.{Fixd}
use Rattle.logs.specs.Answers.{is, answered, line_spelled, spelled}
use Rattle.logs.specs.Pieces.{lines_ahead}
use Rattle.logs.specs.Turns.{fixed}
use Rattle.logs.specs.Log.{answers}
use Rattle.logs.proofs.TurnsTaken.{draft_more, draft_last}
use Rattle.logs.proofs.drafting.draft_lines.Goals as goal

pub returns-then-fixes : goal.returns-then-fixes
returns-then-fixes g c = λ cells.
    let turn = g.D.Drafting.turn in
    let out = vec_items c.loop-line.progress.log in
    let fixes : is Fixd c.tag-tag.result ≡ true = sym c.fixes.ensures ∙ c.if-fixes.true in
    let noted = c.in_ok-note.ensures.log ∙ ap (λ v. vec_items v ++ line_spelled (answered c.tag-tag.result c.enter.result)) c.in-Some.ensures.log
    ∙ ap (λ t. out ++ line_spelled (answered t c.enter.result)) c.tag-tag.ensures ∙ ap (λ a. out ++ line_spelled a) c.enter.ensures.answer in
    ap (λ r. vec_items c.note.new.self.log ++ spelled (answers cells (fixed cells (turn c.enter.new.self)) (lines_ahead r))) c.in_ok-note.ensures.reader
    ∙ draft_last cells (turn c.loop-line.draft) out c.in-Some.ensures.lines noted c.enter.ensures.after (ap (is Fixd) (sym c.tag-tag.ensures) ∙ fixes)
    ∙ c.loop-line.invariant cells

pub loop-line-preserved : goal.loop-line-preserved
loop-line-preserved g c = λ cells.
    let turn = g.D.Drafting.turn in
    let out = vec_items c.loop-line.progress.log in
    let enters : is Fixd c.tag-tag.result ≡ false = sym c.fixes.ensures ∙ c.if-fixes.false in
    let noted = c.in_ok-note.ensures.log ∙ ap (λ v. vec_items v ++ line_spelled (answered c.tag-tag.result c.enter.result)) c.in-Some.ensures.log
    ∙ ap (λ t. out ++ line_spelled (answered t c.enter.result)) c.tag-tag.ensures ∙ ap (λ a. out ++ line_spelled a) c.enter.ensures.answer in
    ap (λ r. vec_items c.note.new.self.log ++ spelled (answers cells (turn c.enter.new.self) (lines_ahead r))) c.in_ok-note.ensures.reader
    ∙ draft_more cells (turn c.loop-line.draft) out c.in-Some.ensures.lines noted c.enter.ensures.after (ap (is Fixd) (sym c.tag-tag.ensures) ∙ enters)
    ∙ c.loop-line.invariant cells
