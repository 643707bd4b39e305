-- The answer's line is written whole, since its numbers fit their columns.
use Rattle.std.proofs.Common.{ℕ, [], ◌∷◌, ◌++◌, replicate, vec_items, ap, ◌∙◌, lit≤}
use Rattle.std.proofs.lemmas.List.{length-replicate}
use Rattle.std.proofs.lemmas.Result.{on_ok_weaker}
use Rattle.lines.specs.Spelling.{longest}
use Rattle.logs.proofs.Noted.{small_pair, noted_front}
use Rattle.logs.proofs.progress.Progress.note.Goals as goal

pub returns-clause-log : goal.returns-clause-log
returns-clause-log c =
    let a = c.args.answer in
    let front = noted_front c.args.tag (a.0 ∷ a.1 ∷ []) (replicate {A = ℕ} longest 0) c.write-count.new.out c.write-count.result c.write-count.ensures.answer (small_pair a.0 a.1 c.requires.number c.requires.value) (lit≤ tt) (length-replicate {A = ℕ} longest 0) c.write-count.ensures.after in
    on_ok_weaker c.append.result (λ e. e ∙ ap (λ x. vec_items c.args.self.now.log ++ x) front) c.append.ensures.log
