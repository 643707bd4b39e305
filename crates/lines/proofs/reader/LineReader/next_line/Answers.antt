-- A piece is a line exactly when the bytes begin with that line.
use Rattle.lines.proofs.Pieces.{line_exact}
use Rattle.lines.proofs.reader.LineReader.next_line.Goals as goal

pub returns-then-not-accept-clause-exact : goal.returns-then-not-accept-clause-exact
returns-then-not-accept-clause-exact c = line_exact

pub returns-clause-exact : goal.returns-clause-exact
returns-clause-exact c = line_exact
