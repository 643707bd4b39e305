-- The first piece ends with the first line feed.
use Rattle.std.proofs.Common.{sym, ◌∙◌, arith}
use Rattle.lines.proofs.Pieces.{piece_to_feed, piece_whole}
use Rattle.lines.proofs.reader.calls.piece_length.Goals as goal

pub returns-in-Some : goal.returns-in-Some
returns-in-Some c =
    let p = piece_to_feed c.args.bytes.now _ (sym c.feed_at.ensures ∙ c.in-Some.is) in
    record { length = sym p.0; within = omega (arith, p.1) }

pub returns-in-None : goal.returns-in-None
returns-in-None c = record { length = sym (piece_whole c.args.bytes.now (sym c.feed_at.ensures ∙ c.in-None.is)); within = omega arith }
