-- The room needed is the length of the line's spelling.
use Rattle.std.proofs.Common.{◌≡◌, cond, length, sym, ap, ◌∙◌}
use Rattle.systems.specs.Outcomes.{answer_of, accepts}
use Rattle.lines.specs.Spelling.{small, spelling}
use Rattle.lines.specs.Writing.{fitted, writing, written, over}
use Rattle.lines.proofs.Lines.{length_spelling}
use Rattle.lines.proofs.Buffers.{reads_back}
use Rattle.lines.proofs.write.write.Goals as goal

pub returns : goal.returns
returns c =
    let t = c.args.tag in
    let ns = c.args.numbers.now in
    let out = c.args.out.now in
    let o : c.write_line.result ≡ writing t ns (length out) =
    c.write_line.ensures.outcome ∙ ap (λ k. fitted (small ns) k (length out)) (sym (length_spelling t ns)) in
    let a = c.answer.ensures.answer ∙ ap answer_of o in
    let w : c.write_line.new.out ≡ written t ns out =
    c.write_line.ensures.after ∙ ap (λ p. cond (accepts p) (over (spelling t ns) out) out) o in
    record { answer = a; after = w; back = reads_back t ns out _ _ a w }
