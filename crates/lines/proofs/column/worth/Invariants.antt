-- The number so far is what the bytes so far are worth, which is bounded by how many they are.
use Rattle.std.proofs.Common.{◌≡◌, ◌+◌, ◌*◌, ◌^◌, ◌≤◌, take}
use Rattle.lines.specs.Reading.{worth}
use Rattle.lines.proofs.column.worth.Given as goal

abbrev pub invariant-loop-byte : goal.invariant-loop-byte
invariant-loop-byte l = (l.number ≡ worth (take l.byte-index l.column)) × (l.number + 23 ≤ 23 * 10 ^ l.byte-index)
