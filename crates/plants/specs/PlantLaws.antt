-- A plant keeps the six laws of a system, under any policy.
use Rattle.std.specs.Prelude.{◌≡◌, ℕ, ◌<◌, ◌≤◌, true, refl}
use Rattle.std.proofs.Common.{ap, ◌∙◌, ⊎_elim, arith}
use Rattle.std.proofs.lemmas.Bool.Decides.{nat_tests}
use Rattle.std.proofs.lemmas.List.{get_or-replicate}
use Rattle.std.proofs.lemmas.Bool.{cond-true, cond-false, lt-ltb, le-ltb, ltb-true, cases_lt}
use Rattle.systems.specs.Systems.{Lawful}
use Rattle.plants.specs.Limits.{most_tasks}
use Rattle.plants.specs.Layouts.{task_at, task_count}
use Rattle.plants.specs.Records.{blank, first_state}
use Rattle.plants.specs.Tick.{Order, fits_at, fits_task, is_blank, choice_legal, ticked}
use Rattle.plants.specs.Meanings.{plant_meaning}
use Rattle.plants.specs.declared.layout.Task.{Task}
use Rattle.plants.specs.declared.layout.Layout.{Layout}
use Rattle.plants.specs.declared.state.PlantState.{PlantState}
use Rattle.plants.specs.Entered.{Valid}
use Rattle.plants.specs.Same.{same_decides}
use Rattle.plants.specs.Fitting.{fits_from}
use Rattle.plants.specs.Ticks.{legal_parts}
use Rattle.plants.specs.NextFits.{next_fits}
use Rattle.plants.specs.GoesOn.{goes_on}

blank_task : (t : Task) → fits_task t blank ≡ true
blank_task t = grind (arith, nat_tests)

blank_fits : (l : Layout) (k : ℕ) → k < most_tasks → fits_at l first_state.records k ≡ true
unfolding fits_at
blank_fits l k lt =
    let e = get_or-replicate most_tasks k blank blank lt in
    ⊎_elim
    (λ (h : k < task_count l). cond-true _ _ _ (lt-ltb k (task_count l) h) ∙ ap (fits_task (task_at l k)) e ∙ blank_task (task_at l k))
    (λ (h : task_count l ≤ k). cond-false _ _ _ (le-ltb k (task_count l) h) ∙ ap is_blank e)
    (cases_lt k (task_count l))

pub of_records : (s s' : PlantState) → s.records ≡ s'.records → s ≡ s'
of_records s s' e = ap (λ rs. record { records = rs }) e

pub plant_laws : (order : Order) (l : Layout) → Valid l → Lawful (plant_meaning order l)
plant_laws order l v = record {
  same_equal = λ x y h. of_records x y ((same_decides x.records y.records).0 h);
  equal_same = λ x. (same_decides x.records x.records).1 refl;
  first_fits = fits_from l first_state.records (record { long = refl; each_fits = blank_fits l });
  legal_below = λ x c h. ltb-true _ _ (legal_parts order l c x.records h).below;
  legal_fits = λ x c h. (legal_parts order l c x.records h).fitting;
  legal_good = λ x c h. (legal_parts order l c x.records h).good;
  next_fits = λ x c h. next_fits order l c x.records v h;
  goes_on = λ x f b. goes_on order l x.records v f b;
  stays = λ x c h. of_records _ x (cond-false (choice_legal order l c x.records) (ticked order l c x.records) x.records h);
}
