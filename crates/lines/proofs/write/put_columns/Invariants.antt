-- The front of the buffer is the columns of the numbers so far.
use Rattle.std.proofs.Common.{◌≡◌, ◌*◌, take}
use Rattle.lines.specs.Spelling.{columns, width}
use Rattle.lines.proofs.write.put_columns.Given as goal

abbrev pub invariant-loop-index : goal.invariant-loop-index
invariant-loop-index l = take (width * l.index) l.out ≡ columns (take l.index l.numbers)
