-- The letters of the tag that is found, and the rest.
use Rattle.std.proofs.Common.{sym, ◌∙◌}
use Rattle.lines.specs.Spelling.{letters, tag_length}
use Rattle.lines.proofs.Readings.{front_then, tag_found}
use Rattle.lines.proofs.form.tag_first.Goals as goal

pub returns : goal.returns
returns c =
    let t = c.in_ok-of.field-0 in
    front_then tag_length c.args.bytes.now _ _ (letters t) c.in_ok-name.ensures.cases.0 c.in_ok-name.ensures.cases.1 (tag_found _ t (sym c.of.ensures ∙ c.in_ok-of.was))
