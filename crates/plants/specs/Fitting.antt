-- A state fits exactly when it has as many records as it should and each fits.
use Rattle.std.specs.Prelude.{◌≡◌, ℕ, ◌<◌, true, List, length, ◌==◌}
use Rattle.std.proofs.lemmas.Bool.{and_parts, and_from, eqb-true, eq-eqb}
use Rattle.plants.specs.Limits.{most_tasks}
use Rattle.plants.specs.Below.{all_below}
use Rattle.plants.specs.Tick.{fits_at, state_fits}
use Rattle.plants.specs.declared.layout.Layout.{Layout}
use Rattle.plants.specs.declared.state.Record.{Record}
use Rattle.plants.specs.Steps.{all_at, all_from}

pub record Fitting (l : Layout) (rs : List Record) : Type 0 where
  pub long : length rs ≡ most_tasks
  pub each_fits : (k : ℕ) → k < most_tasks → fits_at l rs k ≡ true

pub fits_parts : (l : Layout) (rs : List Record) → state_fits l rs ≡ true → Fitting l rs
unfolding state_fits
fits_parts l rs f =
    let p = and_parts (length rs == most_tasks) (all_below (fits_at l rs) most_tasks) f in
    record { long = eqb-true _ _ p.0; each_fits = all_at (fits_at l rs) most_tasks p.1 }

pub fits_from : (l : Layout) (rs : List Record) → Fitting l rs → state_fits l rs ≡ true
unfolding state_fits
fits_from l rs f = and_from _ _ (eq-eqb _ _ f.long) (all_from (fits_at l rs) most_tasks f.each_fits)
