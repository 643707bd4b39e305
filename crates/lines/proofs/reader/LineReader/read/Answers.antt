-- What is accepted is the line with which the bytes ahead begin.
use Rattle.std.proofs.Common.{cond, Some, None, sym, ap, ◌∙◌, refl, rules}
use Rattle.lines.specs.Reading.{past_piece}
use Rattle.lines.proofs.Lines.{one_spelling}
use Rattle.lines.proofs.Pieces.{reads}
use Rattle.lines.proofs.reader.LineReader.read.Goals as goal

pub returns-then-accept-clause-reads : goal.returns-then-accept-clause-reads
returns-then-accept-clause-reads c =
    let a = c.accept.ensures in
    let before = c.args.self.now in
    let yes = c.if-accept.true in
    reads before _ _ _ (Some c.accept.new.line) a.input (sym (a.line ∙ ap (λ b. cond b (Some c.accept.new.line) None) yes))
    (a.place ∙ ap (λ b. cond b (past_piece before) before.place) yes) c.answer.ensures.answer refl

pub returns-then-accept-clause-one : goal.returns-then-accept-clause-one
returns-then-accept-clause-one c = one_spelling

pub returns-else-accept-clause-reads : goal.returns-else-accept-clause-reads
returns-else-accept-clause-reads c =
    let a = c.accept.ensures in
    let before = c.args.self.now in
    let no = c.if-accept.false in
    reads before _ _ _ None a.input (sym (a.line ∙ ap (λ b. cond b (Some c.accept.new.line) None) no))
    (a.place ∙ ap (λ b. cond b (past_piece before) before.place) no) c.into.ensures c.none.ensures

pub returns-else-accept-clause-one : goal.returns-else-accept-clause-one
returns-else-accept-clause-one c = one_spelling
