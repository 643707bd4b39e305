-- The state's line is written whole, since by the law of systems that can be logged it fits its columns.
use Rattle.std.proofs.Common.{ℕ, ◌≤◌, ◌++◌, length, replicate, vec_items, sym, ap, ◌∙◌, arith}
use Rattle.std.proofs.lemmas.List.{length-replicate, length-take-le}
use Rattle.std.proofs.lemmas.Result.{on_ok_weaker}
use Rattle.lines.specs.Spelling.{longest}
use Rattle.lines.specs.declared.tag.Tag.TheVariants.{Offr}
use Rattle.logs.proofs.Noted.{noted_fits, noted_front}
use Rattle.logs.proofs.progress.Progress.note_state.Goals as goal

pub slice_bounds-buffer-end : goal.slice_bounds-buffer-end
slice_bounds-buffer-end g c =
    let law = g.met.Y.Loggable.numbered c.args.system.now in
    let x = c.args.state.now in
    omega (arith, noted_fits Offr (g.Y.Loggable.numbers c.args.system.now x) (replicate {A = ℕ} longest 0) c.write-count.new.out c.write-count.result c.write-count.ensures.answer (law.small_numbers x c.requires) (law.few x c.requires) (length-replicate {A = ℕ} longest 0))

pub slice_bounds-append-end : goal.slice_bounds-append-end
slice_bounds-append-end g c =
    let law = g.met.Y.Loggable.numbered c.args.system.now in
    let x = c.args.state.now in
    let fits : c.write-count.result.1 ≤ length c.write-count.new.out = omega (arith, noted_fits Offr (g.Y.Loggable.numbers c.args.system.now x) (replicate {A = ℕ} longest 0) c.write-count.new.out c.write-count.result c.write-count.ensures.answer (law.small_numbers x c.requires) (law.few x c.requires) (length-replicate {A = ℕ} longest 0)) in
    sym (length-take-le c.write-count.result.1 c.write-count.new.out fits)

pub returns-clause-log : goal.returns-clause-log
returns-clause-log g c =
    let law = g.met.Y.Loggable.numbered c.args.system.now in
    let x = c.args.state.now in
    let front = noted_front Offr (g.Y.Loggable.numbers c.args.system.now x) (replicate {A = ℕ} longest 0) c.write-count.new.out c.write-count.result c.write-count.ensures.answer (law.small_numbers x c.requires) (law.few x c.requires) (length-replicate {A = ℕ} longest 0) c.write-count.ensures.after in
    on_ok_weaker c.append.result (λ e. e ∙ ap (λ y. vec_items c.args.self.now.log ++ y) front) c.append.ensures.log
