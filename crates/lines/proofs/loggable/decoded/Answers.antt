-- A state's line is read, being one with which the bytes begin, and its numbers are restored.
use Rattle.std.proofs.Common.{◌≡◌, drop, sym, ap, ◌∙◌, subst}
use Rattle.lines.specs.Spelling.{Begins}
use Rattle.lines.specs.Reading.{ahead, input_of}
use Rattle.lines.specs.declared.tag.Tag.TheVariants.{Offr}
use Rattle.lines.proofs.loggable.decoded.Goals as goal

pub returns : goal.returns
returns g c = λ ns b.
    let r = c.new-reader.result in
    let whole : ahead r ≡ c.args.bytes.now = ap (λ k. drop k (input_of r)) c.new-reader.ensures.place ∙ c.new-reader.ensures.input in
    let read = c.read-line.ensures.reads.complete Offr ns (subst (λ bs. Begins bs Offr ns) (sym whole) b) in
    c.state_in.ensures ∙ ap (g.L.Loggable.restored c.args.system.now) read.2
