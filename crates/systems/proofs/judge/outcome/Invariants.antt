-- What is left to judge is what the whole list comes to.
use Rattle.std.proofs.Common.{◌≡◌, drop}
use Rattle.systems.specs.Judging.{judged, judged_from}
use Rattle.systems.proofs.judge.outcome.Given as goal

abbrev pub invariant-loop-i : goal.invariant-loop-i
invariant-loop-i g l = let m = g.Y.System.meaning l.system in judged m l.choices ≡ judged_from m l.state (drop l.i l.choices) l.i
