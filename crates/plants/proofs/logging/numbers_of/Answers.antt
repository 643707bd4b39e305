-- Each record's place has its four numbers.
use Rattle.std.proofs.Common.{◌≡◌, [], length, map, sym, ◌∙◌, arith, rules}
use Rattle.std.proofs.lemmas.List.{ext_get_or, get_or-map, length-map}
use Rattle.plants.specs.Limits.{most_tasks}
use Rattle.plants.specs.Records.{blank}
use Rattle.plants.specs.Numbers.{record_numbers}
use Rattle.plants.proofs.logging.numbers_of.Goals as goal

pub returns : goal.returns
returns c =
    let rs = c.args.state.now.records in
    let made = c.map.ensures.items in
    let long : length rs ≡ most_tasks = search rules in
    ext_get_or [] c.map.result (map record_numbers rs) (omega (arith, made.long, length-map rs record_numbers))
    (λ k lt. (made.at k blank [] (omega (arith, made.long))).2.met ∙ sym (get_or-map record_numbers rs k blank [] (omega (arith, made.long))))
