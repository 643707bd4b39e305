-- The line at the front of the bytes ahead is the next piece, and where there is none that piece is no line.
use Rattle.std.proofs.Common.{◌≡◌, ◌-◌, List, ℕ, length, Some, sym, subst, ap, ◌∙◌, arith, rules, length-drop}
use Rattle.lines.specs.Parts.{NumbersFirst, LineFirst}
use Rattle.lines.specs.Reading.{piece, line_of}
use Rattle.lines.proofs.Pieces.{line_none, piece_first}
use Rattle.lines.proofs.Readings.{no_tag, no_numbers, both_parts}
use Rattle.lines.proofs.reader.LineReader.accept.Goals as goal

pub returns-in_default-clause-line : goal.returns-in_default-clause-line
returns-in_default-clause-line c = ap (λ bs. line_of (piece bs)) (sym c.ahead-ahead.ensures) ∙ line_none c.ahead-ahead.result.now (no_tag _ c.in_default.ensures)

pub returns-in_default-numbers_first-clause-line : goal.returns-in_default-numbers_first-clause-line
returns-in_default-numbers_first-clause-line c =
    let begun : c.new.result.0 ≡ c.in-Some.tag = ap (λ x. x.0) c.new.ensures in
    let none = subst (λ t. (ns rest : List ℕ) → NumbersFirst c.in-Some.rest.now t ns rest → ⊥) begun c.in_default-numbers_first.ensures.numbers in
    ap (λ bs. line_of (piece bs)) (sym c.ahead-ahead.ensures) ∙ line_none c.ahead-ahead.result.now (no_numbers _ _ c.in-Some.tag c.in-Some.ensures none)

pub returns-clause-line : goal.returns-clause-line
returns-clause-line c =
    let line = c.numbers_first.new.line in
    let begun : c.new.result.0 ≡ c.in-Some.tag = ap (λ x. x.0) c.new.ensures in
    let e = c.in-Some-numbers_first.ensures in
    let numbers = subst (λ t. NumbersFirst c.in-Some.rest.now t line.1 c.in-Some-numbers_first.rest.now) begun e.numbers in
    let whole : LineFirst c.ahead-ahead.result.now line.0 line.1 c.in-Some-numbers_first.rest.now = both_parts _ _ _ c.in-Some.tag line.0 line.1 c.in-Some.ensures (e.tag ∙ begun) numbers in
    ap (λ bs. line_of (piece bs)) (sym c.ahead-ahead.ensures) ∙ (piece_first c.ahead-ahead.result.now c.in-Some-numbers_first.rest.now line whole).0

pub returns-clause-place : goal.returns-clause-place
returns-clause-place c =
    let line = c.numbers_first.new.line in
    let begun : c.new.result.0 ≡ c.in-Some.tag = ap (λ x. x.0) c.new.ensures in
    let e = c.in-Some-numbers_first.ensures in
    let numbers = subst (λ t. NumbersFirst c.in-Some.rest.now t line.1 c.in-Some-numbers_first.rest.now) begun e.numbers in
    let whole : LineFirst c.ahead-ahead.result.now line.0 line.1 c.in-Some-numbers_first.rest.now = both_parts _ _ _ c.in-Some.tag line.0 line.1 c.in-Some.ensures (e.tag ∙ begun) numbers in
    let first = piece_first c.ahead-ahead.result.now c.in-Some-numbers_first.rest.now line whole in
    let got : c.drop-guard-2.new.self.0 ≡ length c.args.self.now.input.now - length c.in-Some-numbers_first.rest.now = search rules in
    let left = c.ahead-ahead.ensures in
    let within = c.args.self.now.within in
    omega (arith, got, first.1, within, ap length left, ap (λ bs. length (piece bs)) left, length-drop c.args.self.now.place c.args.self.now.input.now)
