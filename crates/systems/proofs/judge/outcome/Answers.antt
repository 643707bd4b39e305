-- The loop follows the choices as the definition does.
use Rattle.std.proofs.Common.{◌≡◌, ◌+◌, length, drop, sym, ap, ◌∙◌, arith}
use Rattle.systems.specs.Judging.{judged_from, ended}
use Rattle.systems.proofs.Judged.{judged_stop, judged_more, judged_end}
use Rattle.systems.proofs.judge.outcome.Goals as goal

pub returns-then-not-is_legal : goal.returns-then-not-is_legal
returns-then-not-is_legal g c =
    let m = g.Y.System.meaning c.args.system.now in
    sym (c.loop-i.invariant ∙ judged_stop m c.args.choices.now c.loop-i.i c.loop-i.state c.loop-i-test.true (sym c.if-not-is_legal.ensures))

pub loop-i-preserved : goal.loop-i-preserved
loop-i-preserved g c =
    let m = g.Y.System.meaning c.args.system.now in
    let cs = c.args.choices.now in
    let i = c.loop-i.i in
    c.loop-i.invariant ∙ judged_more m cs i c.loop-i.state c.loop-i-test.true (sym c.if-not-is_legal.ensures)
    ∙ ap (λ (y : g.row.Y-State.Denot). judged_from m y (drop (i + 1) cs) (i + 1)) (sym c.next-state.ensures)

pub returns : goal.returns
returns g c =
    let m = g.Y.System.meaning c.args.system.now in
    let cs = c.args.choices.now in
    let i = c.loop-i.i in
    let e : i ≡ length cs = omega arith in
    c.ending.ensures ∙ sym (c.loop-i.invariant ∙ judged_end m cs i c.loop-i.state c.loop-i-test.false ∙ ap (ended m c.loop-i.state) e)
