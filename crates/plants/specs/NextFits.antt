-- The next state by a legal choice fits.
use Rattle.std.specs.Prelude.{◌≡◌, ℕ, ◌+◌, ◌<◌, ◌≤◌, Bool, true, false, cond, ◌&&◌, List, ◌==◌, nat_le, nat_lt, refl}
use Rattle.std.proofs.Math.Path.{ap, sym}
use Rattle.std.proofs.Common.{◌∙◌, arith}
use Rattle.std.proofs.Math.Logic.{⊎_elim}
use Rattle.std.proofs.lemmas.Bool.Decides.{nat_tests}
use Rattle.std.proofs.lemmas.Bool.{and_parts, cond-true, cond-false, lt-ltb, le-ltb, cases_lt, both_ways, false≢true}
use Rattle.systems.proofs.Lowest.{refuted}
use Rattle.plants.specs.Limits.{most_tasks}
use Rattle.plants.specs.Bits.{bit}
use Rattle.plants.specs.Below.{any_below}
use Rattle.plants.specs.Layouts.{task_at, in_ranges, task_count}
use Rattle.plants.specs.Records.{rec, at, is_held, is_ready, released, readied, grown_by, finished}
use Rattle.plants.specs.Tick.{Order, fits_in, fits_task, fits_at, is_blank, is_late, state_fits, late_at, release_in, release_obeys, finish_in, finish_obeys, claiming, comes_ready, after_releases, after_growth, task_runs, ticked, choice_legal, next_records}
use Rattle.plants.specs.declared.layout.Task.{Task}
use Rattle.plants.specs.declared.layout.Layout.{Layout}
use Rattle.plants.specs.declared.state.Record.{Record}
use Rattle.plants.specs.declared.state.Phase.{Phase}
use Rattle.plants.specs.declared.state.Phase.TheVariants.{Before, Done, Held, Ready}
use Rattle.plants.specs.Entered.{Valid}
use Rattle.plants.specs.Steps.{any_stops}
use Rattle.plants.specs.Fitting.{fits_parts, fits_from}
use Rattle.plants.specs.Ticks.{Legal, legal_parts, within, fits_one, released_made, readied_made, grown_made, finished_made}

-- a record that fits and that one tick leaves fitting
abbrev room_in : Task → Phase → ℕ → ℕ → ℕ → Bool
room_in t Before since run waited = nat_lt since t.offset && run == 0 && waited == 0
room_in t Done since run waited = nat_le 1 since && nat_lt since t.greatest && run == 0 && waited == 0
room_in t Held since run waited = nat_lt since t.deadline && run == 0 && waited == 0
room_in t Ready since run waited = nat_lt since t.deadline && nat_lt run t.worst && nat_le waited since

abbrev room : Task → Record → Bool
room t r = room_in t r.phase r.since r.run r.waited

-- Rule 1: a released task has room, and so has one that need not be released

released_room : (t : Task) → in_ranges t ≡ true → room t released ≡ true
released_room t v = grind (arith, nat_tests)

left : (t : Task) (p : Phase) (since run waited : ℕ) → in_ranges t ≡ true → fits_in t p since run waited ≡ true → is_late t (rec p since run waited) ≡ false
    → release_in t p since false ≡ true → room_in t p since run waited ≡ true
left t Before since run waited v f d o = grind (arith, nat_tests)
left t Done since run waited v f d o = grind (arith, nat_tests)
left t Held since run waited v f d o = grind (arith, nat_tests)
left t Ready since run waited v f d o = grind (arith, nat_tests)

after_release : (t : Task) (r : Record) (b : Bool) → in_ranges t ≡ true → fits_task t r ≡ true → is_late t r ≡ false → release_in t r.phase r.since b ≡ true
    → room t (cond b released r) ≡ true
after_release t r true v f d o = released_room t v
after_release t r false v f d o = left t r.phase r.since r.run r.waited v f d o

-- Rule 2: a held task that becomes ready keeps its room

readied_held : (t : Task) (since run waited : ℕ) → in_ranges t ≡ true → room_in t Held since run waited ≡ true → room_in t Ready since run waited ≡ true
readied_held t since run waited v f = grind (arith, nat_tests)

after_ready : (t : Task) (p : Phase) (since run waited : ℕ) (b : Bool) → in_ranges t ≡ true → room_in t p since run waited ≡ true → (b ≡ true → is_held p ≡ true)
    → room t (cond b (readied (rec p since run waited)) (rec p since run waited)) ≡ true
after_ready t p since run waited false v f h = f
after_ready t Before since run waited true v f h = absurd (false≢true (h refl))
after_ready t Done since run waited true v f h = absurd (false≢true (h refl))
after_ready t Held since run waited true v f h = readied_held t since run waited v f
after_ready t Ready since run waited true v f h = absurd (false≢true (h refl))

-- Rules 4 and 5: a record with room fits when it has grown, and when it has finished

finished_fits : (t : Task) (since run waited : ℕ) (g : Bool) → in_ranges t ≡ true → room_in t Ready since run waited ≡ true
    → fits_task t (finished (grown_by g (rec Ready since run waited))) ≡ true
finished_fits t since run waited g v f = grind (arith, nat_tests)

resting : (t : Task) (p : Phase) (since run waited : ℕ) → in_ranges t ≡ true → room_in t p since run waited ≡ true
    → fits_task t (grown_by false (rec p since run waited)) ≡ true
resting t Before since run waited v f = grind (arith, nat_tests)
resting t Done since run waited v f = grind (arith, nat_tests)
resting t Held since run waited v f = grind (arith, nat_tests)
resting t Ready since run waited v f = grind (arith, nat_tests)

running_fits : (t : Task) (since run waited : ℕ) → in_ranges t ≡ true → room_in t Ready since run waited ≡ true → finish_in t true (run + 1) false ≡ true
    → fits_task t (grown_by true (rec Ready since run waited)) ≡ true
running_fits t since run waited v f o = grind (arith, nat_tests)

-- a task that runs is ready, so the other phases do not arise where g is true
grown_fits : (t : Task) (p : Phase) (since run waited : ℕ) (g b : Bool) → in_ranges t ≡ true → room_in t p since run waited ≡ true → (g ≡ true → is_ready p ≡ true)
    → finish_in t g (cond g (run + 1) run) b ≡ true
    → fits_task t (cond b (finished (grown_by g (rec p since run waited))) (grown_by g (rec p since run waited))) ≡ true
grown_fits t p since run waited false false v f h o = resting t p since run waited v f
grown_fits t p since run waited false true v f h o = absurd (false≢true o)
grown_fits t Before since run waited true b v f h o = absurd (false≢true (h refl))
grown_fits t Done since run waited true b v f h o = absurd (false≢true (h refl))
grown_fits t Held since run waited true b v f h o = absurd (false≢true (h refl))
grown_fits t Ready since run waited true true v f h o = finished_fits t since run waited true v f
grown_fits t Ready since run waited true false v f h o = running_fits t since run waited v f o

module _ (order : Order) (l : Layout) (c : ℕ) (rs : List Record) (v : Valid l) (ok : Legal order l c rs) where
  -- the records after rule 2
  abbrev claims : List Record
  claims = claiming l c rs

  not_late : (k : ℕ) → k < task_count l → is_late (task_at l k) (at rs k) ≡ false
  unfolding late_at
  not_late k lt =
      refuted (late_at l rs k) (λ e. both_ways (any_below (late_at l rs) (task_count l)) ok.good (any_stops (late_at l rs) (task_count l) k lt e))

  room_1 : (k : ℕ) → k < task_count l → room (task_at l k) (at (after_releases l c rs) k) ≡ true
  unfolding release_obeys
  room_1 k lt =
      ap (room (task_at l k)) ((released_made l v rs c).entered k lt)
      ∙ after_release (task_at l k) (at rs k) (bit c k) (within l v k lt).ranges (fits_one l v rs ok.fitting k lt) (not_late k lt) (ok.releases k lt)

  was_held : (ss : List Record) (k : ℕ) → comes_ready l ss k ≡ true → is_held (at ss k).phase ≡ true
  unfolding comes_ready
  was_held ss k h = (and_parts (is_held (at ss k).phase) _ h).0

  room_2 : (k : ℕ) → k < task_count l → room (task_at l k) (at claims k) ≡ true
  room_2 k lt =
      let ss = after_releases l c rs in
      let r = at ss k in
      ap (room (task_at l k)) ((readied_made l v ss).entered k lt)
      ∙ after_ready (task_at l k) r.phase r.since r.run r.waited (comes_ready l ss k) (within l v k lt).ranges (room_1 k lt) (was_held ss k)

  was_ready : (ss : List Record) (k : ℕ) → task_runs order l ss k ≡ true → is_ready (at ss k).phase ≡ true
  unfolding task_runs
  was_ready ss k h = (and_parts (is_ready (at ss k).phase) _ h).0

  ticked_at : (k : ℕ) → k < task_count l
      → at (ticked order l c rs) k ≡ cond (bit c (task_count l + k)) (finished (grown_by (task_runs order l claims k) (at claims k))) (grown_by (task_runs order l claims k) (at claims k))
  ticked_at k lt =
      (finished_made l v (after_growth order l claims) c).entered k lt
      ∙ ap (λ r. cond (bit c (task_count l + k)) (finished r) r) ((grown_made l v claims order).entered k lt)

  entered_fits : (k : ℕ) → k < task_count l → fits_task (task_at l k) (at (ticked order l c rs) k) ≡ true
  unfolding finish_obeys
  entered_fits k lt =
      let r = at claims k in
      ap (fits_task (task_at l k)) (ticked_at k lt)
      ∙ grown_fits (task_at l k) r.phase r.since r.run r.waited (task_runs order l claims k) (bit c (task_count l + k)) (within l v k lt).ranges (room_2 k lt) (was_ready claims k) (ok.finishes k lt)

  past : (k : ℕ) → k < most_tasks → task_count l ≤ k → at (ticked order l c rs) k ≡ at rs k
  past k lt le =
      (finished_made l v (after_growth order l claims) c).others k lt le ∙ (grown_made l v claims order).others k lt le
      ∙ (readied_made l v (after_releases l c rs)).others k lt le ∙ (released_made l v rs c).others k lt le

  blank_past : (k : ℕ) → k < most_tasks → task_count l ≤ k → is_blank (at rs k) ≡ true
  unfolding fits_at
  blank_past k lt le = sym (cond-false _ _ _ (le-ltb k (task_count l) le)) ∙ (fits_parts l rs ok.fitting).each_fits k lt

  fits_each : (k : ℕ) → k < most_tasks → fits_at l (ticked order l c rs) k ≡ true
  unfolding fits_at
  fits_each k lt =
      ⊎_elim
      (λ (h : k < task_count l). cond-true _ _ _ (lt-ltb k (task_count l) h) ∙ entered_fits k h)
      (λ (h : task_count l ≤ k). cond-false _ _ _ (le-ltb k (task_count l) h) ∙ ap is_blank (past k lt h) ∙ blank_past k lt h)
      (cases_lt k (task_count l))

  ticked_fits : state_fits l (ticked order l c rs) ≡ true
  ticked_fits =
      fits_from l (ticked order l c rs) (record {
        long = (finished_made l v (after_growth order l claims) c).long;
        each_fits = fits_each;
      })

pub next_fits : (order : Order) (l : Layout) (c : ℕ) (rs : List Record) → Valid l → choice_legal order l c rs ≡ true → state_fits l (next_records order l c rs) ≡ true
next_fits order l c rs v h =
    ap (state_fits l) (cond-true (choice_legal order l c rs) (ticked order l c rs) rs h) ∙ ticked_fits order l c rs v (legal_parts order l c rs h)
