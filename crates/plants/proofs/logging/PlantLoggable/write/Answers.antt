-- The line of a state that fits reads back as that state, by the law.
use Rattle.std.proofs.Common.{length, ap, ◌∙◌}
use Rattle.systems.specs.Outcomes.{answer_of}
use Rattle.lines.specs.Writing.{writing, written}
use Rattle.lines.specs.declared.tag.Tag.TheVariants.{Offr}
use Rattle.lines.proofs.Logs.{state_line}
use Rattle.plants.specs.Entered.{valid_parts}
use Rattle.plants.specs.Numbers.{state_numbers}
use Rattle.plants.specs.Numbered.{plant_numbered}
use Rattle.plants.proofs.logging.PlantLoggable.write.Goals as goal

pub returns-clause-back : goal.returns-clause-back
returns-clause-back g c =
    let p = c.args.self.now in
    let rs = c.args.state.now.records in
    let law = plant_numbered (g.P.Policy.order p.policy) p.layout (valid_parts p.layout p.valid) in
    let w = c.write_records.ensures in
    state_line _ _ _ law c.args.state.now c.args.out.now _ _
    (w.answer ∙ ap (λ n. answer_of (writing Offr (state_numbers n rs) (length c.args.out.now))) c.len.ensures.value)
    (w.after ∙ ap (λ n. written Offr (state_numbers n rs) c.args.out.now) c.len.ensures.value)
