-- The draft's lines and then the session's: over any cells, their answers are those over new ones.
use Rattle.std.proofs.Common.{◌≡◌, length, vec_items, sym, ap, ◌∙◌}
use Rattle.logs.specs.Pieces.{lines_ahead}
use Rattle.logs.specs.Turns.{fixed}
use Rattle.logs.specs.Serving.{logged}
use Rattle.logs.specs.Log.{places, fresh, new_cells}
use Rattle.logs.proofs.TurnsTaken.{session_done}
use Rattle.logs.proofs.log.draft_log.Goals as goal

pub returns : goal.returns
returns g c =
    let turn = g.D.Drafting.turn in
    let system = c.fixed-system.result in
    let v = logged g.D.Fixed.System.meaning g.D.Fixed.Loggable.numbers g.D.Fixed.Loggable.restored system in
    let rest = lines_ahead c.draft_lines.new.progress.reader in
    let size : length c.deref_mut.result.now ≡ places = ap length c.deref_mut.ensures.value ∙ sym c.in_ok-cells.cells.ok.0 ∙ c.in_ok-cells.ensures.len in
    session_done v (new_cells v.means) c.deref_mut.result.now (turn c.args.draft) (fixed fresh (turn c.draft_lines.new.draft)) rest (lines_ahead c.args.progress.now.reader) (vec_items c.args.progress.now.log) (vec_items c.draft_lines.new.progress.log) (vec_items c.serve_session.new.progress.log) c.in_ok-draft_lines.field-0
    c.in_ok-serve_session.ensures size (c.fixed-system.ensures.serves rest) c.if-not-branch.false (c.in_ok-draft_lines.ensures fresh)
