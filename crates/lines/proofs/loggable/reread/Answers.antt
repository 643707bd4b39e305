-- An accepted writing leaves the line in the buffer, which is decoded.
use Rattle.std.proofs.Common.{◌≡◌, ◌≤◌, length, ◌∙◌}
use Rattle.std.proofs.lemmas.Bool.{le-leb}
use Rattle.lines.specs.Spelling.{most}
use Rattle.lines.specs.declared.tag.Tag.TheVariants.{Offr}
use Rattle.lines.proofs.Buffers.{begins_written}
use Rattle.lines.proofs.Logs.{state_accepted}
use Rattle.lines.proofs.loggable.reread.Goals as goal

pub returns : goal.returns
returns g c =
    let w = c.write-answer.ensures in
    let law = g.met.L.Loggable.numbered c.args.system.now in
    let x = c.args.state.now in
    let ns = g.L.Loggable.numbers c.args.system.now x in
    let out = c.args.buffer.now in
    let read = λ (z : c.write-answer.result.0 ≡ 0) (few : length ns ≤ most). c.decoded.ensures ns (begins_written Offr ns out c.write-answer.new.out c.write-answer.result w.answer w.after z (le-leb (length ns) most few)) in
    record {
      answer = w.answer;
      after = w.after;
      accepted = read;
      room = state_accepted _ _ _ law x (length out) c.write-answer.result w.answer;
      same = λ f z. read z (law.few x f) ∙ law.restores x f;
    }
