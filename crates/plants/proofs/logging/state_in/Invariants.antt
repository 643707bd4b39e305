-- The fours so far begin with phases, and the records so far are those of the fours.
use Rattle.std.proofs.Common.{◌≡◌, true}
use Rattle.plants.specs.Below.{all_below}
use Rattle.plants.specs.Each.{Upto}
use Rattle.plants.specs.Numbers.{record_of, is_phase_at}
use Rattle.plants.specs.Records.{first_state}
use Rattle.plants.proofs.logging.state_in.Given as goal

abbrev pub invariant-loop-i : goal.invariant-loop-i
invariant-loop-i l = record {
  phases : all_below (is_phase_at l.given) l.i ≡ true;
  records : Upto (λ i r. record_of l.given i) first_state.records l.i l.state.records;
}
