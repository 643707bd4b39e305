-- The records after each rule of a tick, the bounds on their numbers, and a legal choice by its parts.
use Rattle.std.specs.Prelude.{◌≡◌, ℕ, ◌+◌, ◌^◌, ◌<◌, ◌≤◌, true, false, cond, not, ◌&&◌, ltb, List, nat_lt}
use Rattle.std.proofs.Common.{sym, ◌∙◌, arith}
use Rattle.std.proofs.Math.Path.{subst⁻¹}
use Rattle.std.proofs.lemmas.Bool.Decides.{nat_tests}
use Rattle.std.proofs.lemmas.Bool.{and_parts, cond-true, cond_both, lt-ltb, ltb-true, not-true}
use Rattle.plants.specs.Limits.{most_ticks}
use Rattle.plants.specs.Bits.{bit}
use Rattle.plants.specs.Below.{all_below}
use Rattle.plants.specs.Layouts.{valid_at, task_at, in_ranges, resource_count, task_count}
use Rattle.plants.specs.Records.{at, released, readied, grown_by, finished, Low}
use Rattle.plants.specs.Tick.{Order, fits_in, fits_task, fits_at, state_fits, state_bad, release_obeys, claiming, comes_ready, task_runs, after_releases, after_readying, after_growth, after_finishes, finish_obeys, choice_legal}
use Rattle.plants.specs.declared.layout.Task.{Task}
use Rattle.plants.specs.declared.layout.Layout.{Layout}
use Rattle.plants.specs.declared.state.Record.{Record}
use Rattle.plants.specs.declared.state.Phase.{Phase}
use Rattle.plants.specs.declared.state.Phase.TheVariants.{Before, Done, Held, Ready}
use Rattle.plants.specs.Each.{Made, each_made}
use Rattle.plants.specs.Entered.{Valid}
use Rattle.plants.specs.Steps.{all_at}
use Rattle.plants.specs.Fitting.{fits_parts}

pub record Within (l : Layout) (i : ℕ) : Type 0 where
  pub ranges : in_ranges (task_at l i) ≡ true
  pub resource_entered : (task_at l i).resource < resource_count l

pub within : (l : Layout) → Valid l → (i : ℕ) → i < task_count l → Within l i
unfolding valid_at
within l v i lt =
    let here = and_parts (in_ranges (task_at l i)) (nat_lt (task_at l i).resource (resource_count l)) (v.tasks i lt) in
    record {
      ranges = here.0;
      resource_entered = ltb-true _ _ here.1;
    }

-- the records of the entered tasks after each rule
module _ (l : Layout) (v : Valid l) (rs : List Record) where
  pub released_made : (c : ℕ) → Made (task_count l) (λ i r. cond (bit c i) released r) rs (after_releases l c rs)
  released_made c = each_made _ rs (task_count l) v.tasks_few

  pub readied_made : Made (task_count l) (λ i r. cond (comes_ready l rs i) (readied r) r) rs (after_readying l rs)
  readied_made = each_made _ rs (task_count l) v.tasks_few

  pub finished_made : (c : ℕ) → Made (task_count l) (λ i r. cond (bit c (task_count l + i)) (finished r) r) rs (after_finishes l c rs)
  finished_made c = each_made _ rs (task_count l) v.tasks_few

  pub grown_made : (order : Order) → Made (task_count l) (λ i r. grown_by (task_runs order l rs i) r) rs (after_growth order l rs)
  grown_made order = each_made _ rs (task_count l) v.tasks_few

pub fits_one : (l : Layout) → Valid l → (rs : List Record) → state_fits l rs ≡ true → (k : ℕ) → k < task_count l → fits_task (task_at l k) (at rs k) ≡ true
unfolding fits_at
fits_one l v rs f k lt =
    let few = v.tasks_few in
    sym (cond-true _ _ _ (lt-ltb k (task_count l) lt)) ∙ (fits_parts l rs f).each_fits k (omega arith)

-- a record that fits is low
low_in : (t : Task) (p : Phase) (since run waited : ℕ) → in_ranges t ≡ true → fits_in t p since run waited ≡ true
    → (since ≤ most_ticks) × (run ≤ most_ticks) × (waited ≤ most_ticks)
low_in t Before since run waited v h = grind (arith, nat_tests)
low_in t Done since run waited v h = grind (arith, nat_tests)
low_in t Held since run waited v h = grind (arith, nat_tests)
low_in t Ready since run waited v h = grind (arith, nat_tests)

pub low_one : (l : Layout) → Valid l → (rs : List Record) → state_fits l rs ≡ true → (k : ℕ) → k < task_count l → Low (at rs k)
low_one l v rs f k lt =
    let r = at rs k in
    let n = low_in (task_at l k) r.phase r.since r.run r.waited (within l v k lt).ranges (fits_one l v rs f k lt) in
    record { since = n.0; run = n.1; waited = n.2 }

low_released : Low released
low_released = record { since = omega arith; run = omega arith; waited = omega arith }

low_readied : (r : Record) → Low r → Low (readied r)
low_readied r p = record { since = p.since; run = p.run; waited = p.waited }

pub low_claiming : (l : Layout) → Valid l → (c : ℕ) (rs : List Record) → state_fits l rs ≡ true → (k : ℕ) → k < task_count l → Low (at (claiming l c rs) k)
low_claiming l v c rs f k lt =
    let r = at rs k in
    let ss = after_releases l c rs in
    let one : Low (at ss k) =
    subst⁻¹ Low ((released_made l v rs c).entered k lt) (cond_both (bit c k) released r Low (λ _. low_released) (λ _. low_one l v rs f k lt)) in
    subst⁻¹ Low ((readied_made l v ss).entered k lt) (cond_both (comes_ready l ss k) (readied (at ss k)) (at ss k) Low (λ _. low_readied (at ss k) one) (λ _. one))

-- what a legal choice is
pub record Legal (order : Order) (l : Layout) (c : ℕ) (rs : List Record) : Type 0 where
  pub fitting : state_fits l rs ≡ true
  pub good : state_bad l rs ≡ false
  pub below : ltb c (4 ^ task_count l) ≡ true
  pub releases : (k : ℕ) → k < task_count l → release_obeys l c rs k ≡ true
  pub finishes : (k : ℕ) → k < task_count l → finish_obeys order l c (claiming l c rs) k ≡ true

pub legal_parts : (order : Order) (l : Layout) (c : ℕ) (rs : List Record) → choice_legal order l c rs ≡ true → Legal order l c rs
legal_parts order l c rs h =
    let p = and_parts (state_fits l rs && not (state_bad l rs) && nat_lt c (4 ^ task_count l) && all_below (release_obeys l c rs) (task_count l)) (all_below (finish_obeys order l c (claiming l c rs)) (task_count l)) h in
    let q = and_parts (state_fits l rs && not (state_bad l rs) && nat_lt c (4 ^ task_count l)) (all_below (release_obeys l c rs) (task_count l)) p.0 in
    let r = and_parts (state_fits l rs && not (state_bad l rs)) (nat_lt c (4 ^ task_count l)) q.0 in
    let s = and_parts (state_fits l rs) (not (state_bad l rs)) r.0 in
    record {
      fitting = s.0;
      good = not-true _ s.1;
      below = r.1;
      releases = all_at (release_obeys l c rs) (task_count l) q.1;
      finishes = all_at (finish_obeys order l c (claiming l c rs)) (task_count l) p.1;
    }
