-- What a plant means as a system, under any policy.
use Rattle.std.specs.Prelude.{◌^◌}
use Rattle.systems.specs.Systems.{Meaning}
use Rattle.plants.specs.Layouts.{task_count}
use Rattle.plants.specs.Records.{first_state, same_records}
use Rattle.plants.specs.Tick.{Order, state_fits, state_bad, choice_legal, next_records}
use Rattle.plants.specs.declared.layout.Layout.{Layout}
use Rattle.plants.specs.declared.state.PlantState.{PlantState}

abbrev pub plant_meaning : Order → Layout → Meaning PlantState
plant_meaning order l = record {
  first = first_state;
  count = 4 ^ task_count l;
  fits = λ s. state_fits l s.records;
  bad = λ s. state_bad l s.records;
  legal = λ s c. choice_legal order l c s.records;
  next = λ s c. record { records = next_records order l c s.records };
  same = λ a b. same_records a.records b.records;
}
