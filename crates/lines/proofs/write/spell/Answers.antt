-- The three writes together spell the line.
use Rattle.std.proofs.Common.{arith}
use Rattle.lines.proofs.Buffers.{line_over}
use Rattle.lines.proofs.write.spell.Goals as goal

pub returns : goal.returns
returns c = rw c.copy_from_slice.ensures.after (line_over c.args.tag c.args.numbers.now c.args.out.now _ _ _ c.name.ensures c.put_columns.ensures (omega arith) (omega arith))
