-- The part that is read is the front of the input, up to the most bytes.
use Rattle.std.proofs.Common.{◌≡◌, ◌<◌, ◌≤◌, length, take, sym, ap, ◌∙◌, ⊎_elim, arith}
use Rattle.std.proofs.lemmas.List.{take_all}
use Rattle.std.proofs.lemmas.Bool.{cases_lt}
use Rattle.logs.specs.Log.{most_bytes}
use Rattle.logs.proofs.log.read_part.Goals as goal

pub returns : goal.returns
returns c =
    let xs = c.args.input.now in
    ⊎_elim
    (λ (more : most_bytes < length xs). let k : c.min.result ≡ most_bytes = omega arith in ap (λ n. take n xs) k)
    (λ (less : length xs ≤ most_bytes). let k : length xs ≤ c.min.result = omega arith in take_all c.min.result xs k ∙ sym (take_all most_bytes xs less))
    (cases_lt most_bytes (length xs))
