-- The numbers of a chart's states obey the law of systems that can be logged.
use Rattle.std.specs.Prelude.{◌≡◌, ℕ, ◌≤◌, List, [], ◌∷◌, Some, refl}
use Rattle.std.proofs.Common.{arith}
use Rattle.std.proofs.lemmas.Bool.Decides.{nat_tests}
use Rattle.lines.specs.Logging.{Numbered}
use Rattle.charts.specs.Entries.{most_steps, step_count}
use Rattle.charts.specs.Charts.{chart_meaning}
use Rattle.charts.specs.Numbers.{step_numbers, step_of}
use Rattle.charts.specs.declared.entries.Entries.{Entries}

only_list : (step : ℕ) (ns : List ℕ) → step_of ns ≡ Some step → ns ≡ step_numbers step
only_list step [] e = let z : ◌≡◌ {A = ℕ} 0 1 = cc in absurd (omega arith)
only_list step (n ∷ []) e = cc
only_list step (n ∷ m ∷ ns) e = let z : ◌≡◌ {A = ℕ} 0 1 = cc in absurd (omega arith)

pub chart_numbered : (e : Entries) → step_count e ≤ most_steps → Numbered (chart_meaning e) step_numbers step_of
chart_numbered e few = record {
  few = λ step f. omega arith;
  small_numbers = λ step f. grind (arith, nat_tests);
  restores = λ step f. refl;
  one_list = λ step ns f r. only_list step ns r;
}
