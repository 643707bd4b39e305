-- The log of the part that is read, and what the log promises.
use Rattle.std.proofs.Common.{◌≡◌, ℕ, List, vec_items, ap, ◌∙◌}
use Rattle.std.proofs.lemmas.Result.{IfOk-weaker}
use Rattle.logs.specs.Answers.{spelled}
use Rattle.logs.specs.Pieces.{lines_in}
use Rattle.logs.specs.Turns.{Opening}
use Rattle.logs.specs.Log.{answers, fresh, log_of}
use Rattle.logs.proofs.Split.{read_in_pieces}
use Rattle.logs.proofs.RunsJudged.{judges_runs}
use Rattle.logs.proofs.Refusals.{refused_stays}
use Rattle.logs.proofs.Promised.{closed_is_safe, closed_is_never_late, complete, any_memory}
use Rattle.logs.proofs.log.log.Goals as goal

pub returns : goal.returns
returns c =
    let input = c.args.input.now in
    let read : (bs : List ℕ) → bs ≡ spelled (answers fresh Opening (lines_in c.read_part.result.now)) → bs ≡ log_of input =
    λ bs e. e ∙ ap (λ xs. spelled (answers fresh Opening (lines_in xs))) c.read_part.ensures in
    record {
      bytes = IfOk-weaker c.whole.result _ _ (λ v e. read (vec_items v) e) c.whole.ensures;
      pieces = read_in_pieces input;
      closed = closed_is_safe input;
      ticks = closed_is_never_late input;
      runs = judges_runs input;
      refused = refused_stays input;
      complete = complete input;
      memory = any_memory input;
    }
