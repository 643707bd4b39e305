-- The line's answer is the definition's, its numbers fit their columns, and a state that is shown fits.
use Rattle.std.proofs.Common.{◌++◌, vec_items, sym, ap, ◌∙◌, subst, arith}
use Rattle.std.proofs.lemmas.Result.{on_ok_weaker}
use Rattle.sessions.specs.Pasts.{Reached}
use Rattle.sessions.specs.Views.{table_of}
use Rattle.logs.specs.Answers.{Narrow, answered, line_spelled}
use Rattle.logs.specs.Serving.{logged}
use Rattle.logs.proofs.Served.{reply_small, shown_fits, says_reply}
use Rattle.logs.proofs.serving.Serving.serve_line.Goals as goal

pub note_state-requires : goal.note_state-requires
note_state-requires g c =
    let s = c.args.self.now in
    let v = logged g.Y.System.meaning g.Y.Loggable.numbers g.Y.Loggable.restored s.system.now in
    let t = table_of s.session in
    let past = subst (λ m. Reached m t) s.same s.session.past in
    shown_fits v (g.met.Y.System.lawful s.system.now) t past c.args.line.now.0 c.args.line.now.1 c.in-Some.state (sym c.shown.ensures ∙ c.in-Some.is)

pub note-requires : goal.note-requires
note-requires g c =
    let s = c.args.self.now in
    let v = logged g.Y.System.meaning g.Y.Loggable.numbers g.Y.Loggable.restored s.system.now in
    subst Narrow (sym c.reply-answer.ensures.answer) (reply_small v (table_of s.session) (omega (arith, s.session.table.within)) c.requires.choices c.args.line.now.0 c.args.line.now.1 c.requires.few)

pub returns-clause-log : goal.returns-clause-log
returns-clause-log g c =
    let s = c.args.self.now in
    let v = logged g.Y.System.meaning g.Y.Loggable.numbers g.Y.Loggable.restored s.system.now in
    let line = c.args.line.now in
    let plain = says_reply v (table_of s.session) line.0 line.1 (λ x e. c.in_default.not-Some x (c.shown.ensures ∙ e)) in
    on_ok_weaker c.note.result
    (λ e. e ∙ ap (λ t. vec_items c.args.progress.now.log ++ line_spelled (answered t c.reply-answer.result)) c.tag.ensures
    ∙ ap (λ a. vec_items c.args.progress.now.log ++ line_spelled (answered line.0 a)) c.reply-answer.ensures.answer
    ∙ ap (λ a. vec_items c.args.progress.now.log ++ line_spelled a) (sym plain))
    c.note.ensures.log
