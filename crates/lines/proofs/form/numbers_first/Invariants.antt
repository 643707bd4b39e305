-- The bytes are the columns of the numbers so far and what is left.
use Rattle.std.proofs.Common.{◌≡◌, ◌≤◌, true, ◌++◌, length}
use Rattle.lines.specs.Spelling.{columns, small, most}
use Rattle.lines.proofs.form.numbers_first.Given as goal

abbrev pub invariant-loop-rest : goal.invariant-loop-rest
invariant-loop-rest l = record {
  same_tag : l.line.0 ≡ l.initial.line.0;
  few : length l.line.1 ≤ most;
  small_numbers : small l.line.1 ≡ true;
  read : l.bytes ≡ columns l.line.1 ++ l.left;
}

abbrev pub decreases-loop-rest : goal.decreases-loop-rest
decreases-loop-rest l = length l.left
