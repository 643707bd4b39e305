-- What an accepted entry leaves is valid.
use Rattle.std.specs.Prelude.{◌≡◌, ℕ, ◌+◌, ◌<◌, ◌≤◌, true, ◌&&◌, [], ◌∷◌, nat_le, nat_lt, refl}
use Rattle.std.proofs.Common.{◌∙◌}
use native.Mathlib.Omega.{arith}
use Rattle.std.proofs.lemmas.Bool.Decides.{nat_tests}
use Rattle.std.proofs.lemmas.List.{length-append, get_or_append_left, get_or_push}
use Rattle.std.proofs.lemmas.Bool.{and_from, and_parts, leb-true, ltb-true, le-leb, lt-ltb}
use Rattle.systems.specs.Outcomes.{accepts}
use Rattle.plants.specs.Limits.{most_resources, most_tasks}
use Rattle.plants.specs.Below.{all_below}
use Rattle.plants.specs.Unused.{no_task}
use Rattle.plants.specs.Layouts.{valid, valid_at, task_at, in_ranges, with_task, entered, with_resource, resource_count, task_count}
use Rattle.plants.specs.Entries.{resource_comes_to}
use Rattle.plants.specs.Entering.{EntersTask}
use Rattle.plants.specs.declared.layout.TaskEntry.{TaskEntry}
use Rattle.plants.specs.declared.layout.Resource.{Resource}
use Rattle.plants.specs.declared.layout.Layout.{Layout}
use Rattle.plants.specs.Steps.{all_at, all_from, all_more}
pub use Rattle.plants.specs.EnteringLemmas.{admitted}
use Rattle.plants.specs.EnteringLemmas.{resource_enters}

-- the counts of a valid layout, and its tasks
pub record Valid (l : Layout) : Type 0 where
  pub resources_few : resource_count l ≤ most_resources
  pub tasks_few : task_count l ≤ most_tasks
  pub tasks : (i : ℕ) → i < task_count l → valid_at l i ≡ true

pub valid_parts : (l : Layout) → valid l ≡ true → Valid l
valid_parts l v =
    let p = and_parts (nat_le (resource_count l) most_resources && nat_le (task_count l) most_tasks) (all_below (valid_at l) (task_count l)) v in
    let q = and_parts (nat_le (resource_count l) most_resources) (nat_le (task_count l) most_tasks) p.0 in
    record { resources_few = leb-true _ _ q.0; tasks_few = leb-true _ _ q.1; tasks = all_at (valid_at l) (task_count l) p.1 }

valid_from : (l : Layout) → Valid l → valid l ≡ true
valid_from l v =
    and_from _ _ (and_from _ _ (le-leb _ _ v.resources_few) (le-leb _ _ v.tasks_few)) (all_from (valid_at l) (task_count l) v.tasks)

module _ (l : Layout) (e : TaskEntry) (v : Valid l) (enters : task_count l ≤ most_tasks → EntersTask l e) where
  ok : EntersTask l e
  ok = enters v.tasks_few

  in_range : in_ranges (entered e) ≡ true
  in_range = let h = ok in grind (arith, nat_tests)

  valid_new : valid_at (with_task l (entered e)) (task_count l) ≡ true
  unfolding valid_at
  valid_new = rw (get_or_push l.tasks (entered e) no_task (task_count l) refl) (and_from _ _ in_range (lt-ltb _ _ ok.resource))

  valid_old : (k : ℕ) → k < task_count l → valid_at (with_task l (entered e)) k ≡ valid_at l k
  unfolding valid_at
  valid_old k lt = rw (get_or_append_left l.tasks (entered e ∷ []) no_task k lt)

  pub valid_with_task : valid (with_task l (entered e)) ≡ true
  valid_with_task =
      let l' = with_task l (entered e) in
      let one_more = length-append l.tasks (entered e ∷ []) in
      let old = all_from (valid_at l') (task_count l) (λ k lt. valid_old k lt ∙ v.tasks k lt) in
      valid_from l' (record {
        resources_few = v.resources_few;
        tasks_few = omega (arith, one_more, ok.room);
        tasks = λ k lt. all_at (valid_at l') (task_count l + 1) (all_more (valid_at l') (task_count l) old valid_new) k (omega (arith, one_more));
      })

pub resource_room : (l : Layout) (policy preempt : ℕ) → Valid l → accepts (resource_comes_to l policy preempt) ≡ true → resource_count l < most_resources
resource_room l policy preempt v h = (resource_enters l policy preempt v.resources_few h).room

-- one resource more leaves each task valid
wider_at : (l : Layout) (r : Resource) (k : ℕ) → valid_at l k ≡ true → valid_at (with_resource l r) k ≡ true
unfolding valid_at
wider_at l r k h =
    let p = and_parts (in_ranges (task_at l k)) (nat_lt (task_at l k).resource (resource_count l)) h in
    and_from _ _ p.0 (lt-ltb _ _ (omega (arith, length-append l.resources (r ∷ []), ltb-true _ _ p.1)))

pub valid_with_resource : (l : Layout) (r : Resource) → Valid l → resource_count l < most_resources → valid (with_resource l r) ≡ true
valid_with_resource l r v lt =
    valid_from (with_resource l r) (record {
      resources_few = omega (arith, length-append l.resources (r ∷ []));
      tasks_few = v.tasks_few;
      tasks = λ k kl. wider_at l r k (v.tasks k kl);
    })
