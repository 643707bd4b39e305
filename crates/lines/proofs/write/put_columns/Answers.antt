-- Each turn writes one more column.
use Rattle.std.proofs.Common.{arith}
use Rattle.lines.proofs.Buffers.{column_written, columns_written}
use Rattle.lines.proofs.write.put_columns.Goals as goal

pub loop-index-preserved : goal.loop-index-preserved
loop-index-preserved c = rw (c.copy_from_slice.ensures.after, c.column.ensures) (column_written c.loop-index.out c.args.numbers.now c.loop-index.index _ (omega arith) (omega arith) c.loop-index-test.true c.loop-index.invariant)

pub returns : goal.returns
returns c = columns_written c.loop-index.out c.args.numbers.now c.loop-index.index (omega arith) (omega arith) c.loop-index.invariant
