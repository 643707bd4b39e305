-- A state that fits and is not bad has a legal choice: what must be released and finished is, and nothing else.
use Rattle.std.specs.Prelude.{◌≡◌, ℕ, ◌+◌, ◌-◌, ◌^◌, ◌<◌, Bool, true, false, cond, not, ◌&&◌, List, ◌==◌, nat_lt, refl}
use Rattle.std.proofs.Math.Path.{ap, subst}
use Rattle.std.proofs.Common.{sym, ◌∙◌}
use native.Mathlib.Omega.{arith}
use Rattle.std.proofs.lemmas.Bool.Decides.{nat_tests}
use Rattle.std.proofs.lemmas.Bool.{and_from, cond-true, cond-false, lt-ltb, le-ltb, not_from_false}
use Rattle.plants.specs.Bits.{bit, bits_below}
use Rattle.plants.specs.Layouts.{task_at, in_ranges, task_count}
use Rattle.plants.specs.Records.{at, released, grown_by}
use Rattle.plants.specs.Tick.{Order, release_in, release_obeys, finish_in, finish_obeys, state_fits, state_bad, choice_legal, task_runs, claiming, after_releases, after_readying}
use Rattle.plants.specs.declared.layout.Task.{Task}
use Rattle.plants.specs.declared.layout.Layout.{Layout}
use Rattle.plants.specs.declared.state.Record.{Record}
use Rattle.plants.specs.declared.state.Phase.{Phase}
use Rattle.plants.specs.declared.state.Phase.TheVariants.{Before, Done, Held, Ready}
use Rattle.plants.specs.Each.{made_each}
use Rattle.plants.specs.Entered.{Valid}
use Rattle.plants.specs.Steps.{all_from}
use Rattle.plants.specs.Ticks.{within, released_made}
use Rattle.plants.specs.Choice.{bits_are, bits_low, four_pow}

-- a task that must be released
abbrev due : Task → Phase → ℕ → Bool
due t Before since = since == t.offset
due t Done since = since == t.greatest
due t Held since = false
due t Ready since = false

due_before : (b : Bool) → cond b b (not b) ≡ true
due_before true = refl
due_before false = refl

due_done : (t : Task) (since : ℕ) → in_ranges t ≡ true → release_in t Done since (due t Done since) ≡ true
due_done t since v = grind (arith, nat_tests)

due_obeys : (t : Task) (p : Phase) (since : ℕ) → in_ranges t ≡ true → release_in t p since (due t p since) ≡ true
due_obeys t Before since v = due_before (since == t.offset)
due_obeys t Done since v = due_done t since v
due_obeys t Held since v = refl
due_obeys t Ready since v = refl

-- a task that has run for its worst time obeys by finishing, and any other by not
worn_obeys : (t : Task) (running : Bool) (run : ℕ) → in_ranges t ≡ true → finish_in t running run (running && run == t.worst) ≡ true
worn_obeys t true run v = grind (arith, nat_tests)
worn_obeys t false run v = refl

module _ (order : Order) (l : Layout) (rs : List Record) (v : Valid l) where
  releases : ℕ → Bool
  releases i = due (task_at l i) (at rs i).phase (at rs i).since

  -- the records after rule 2, by the releases that are due
  claims : List Record
  claims = claiming l (bits_below releases (task_count l)) rs

  finishes : ℕ → Bool
  finishes i = task_runs order l claims i && (grown_by (task_runs order l claims i) (at claims i)).run == (task_at l i).worst

  bits : ℕ → Bool
  bits i = cond (nat_lt i (task_count l)) (releases i) (finishes (i - task_count l))

  choice : ℕ
  choice = bits_below bits (task_count l + task_count l)

  release_bit : (i : ℕ) → i < task_count l → bit choice i ≡ releases i
  unfolding choice bits
  release_bit i lt = bits_are bits (task_count l + task_count l) i (omega arith) ∙ cond-true _ _ _ (lt-ltb i (task_count l) lt)

  finish_bit : (i : ℕ) → i < task_count l → bit choice (task_count l + i) ≡ finishes i
  unfolding choice bits
  finish_bit i lt =
      let back : (task_count l + i) - task_count l ≡ i = omega arith in
      bits_are bits (task_count l + task_count l) (task_count l + i) (omega arith) ∙ cond-false _ _ _ (le-ltb (task_count l + i) (task_count l) (omega arith)) ∙ ap finishes back

  -- the finish bits do not change which tasks are released
  same_releases : after_releases l choice rs ≡ after_releases l (bits_below releases (task_count l)) rs
  same_releases =
      let m = released_made l v rs choice in
      made_each (λ i r. cond (bit (bits_below releases (task_count l)) i) released r) rs (task_count l) (after_releases l choice rs) (record {
        long = m.long;
        entered = λ k lt. m.entered k lt ∙ ap (λ b. cond b released (at rs k)) (release_bit k lt ∙ sym (bits_are releases (task_count l) k lt));
        others = m.others;
      })

  same_claims : claiming l choice rs ≡ claims
  unfolding claims
  same_claims = ap (after_readying l) same_releases

  release_one : (i : ℕ) → i < task_count l → release_obeys l choice rs i ≡ true
  unfolding release_obeys releases
  release_one i lt =
      ap (release_in (task_at l i) (at rs i).phase (at rs i).since) (release_bit i lt)
      ∙ due_obeys (task_at l i) (at rs i).phase (at rs i).since (within l v i lt).ranges

  finish_one : (i : ℕ) → i < task_count l → finish_obeys order l choice claims i ≡ true
  unfolding finish_obeys finishes
  finish_one i lt =
      let runs = task_runs order l claims i in
      let run = (grown_by runs (at claims i)).run in
      ap (finish_in (task_at l i) runs run) (finish_bit i lt) ∙ worn_obeys (task_at l i) runs run (within l v i lt).ranges

  in_range : choice < 4 ^ task_count l
  unfolding choice
  in_range = subst (λ k. bits_below bits (task_count l + task_count l) < k) (four_pow (task_count l)) (bits_low bits (task_count l + task_count l))

  choice_is_legal : state_fits l rs ≡ true → state_bad l rs ≡ false → choice_legal order l choice rs ≡ true
  choice_is_legal f b =
      and_from _ _
      (and_from _ _ (and_from _ _ (and_from _ _ f (not_from_false _ b)) (lt-ltb _ _ in_range)) (all_from (release_obeys l choice rs) (task_count l) release_one))
      (all_from (finish_obeys order l choice (claiming l choice rs)) (task_count l)
      (λ i lt. ap (λ (ss : List Record). finish_obeys order l choice ss i) same_claims ∙ finish_one i lt))

pub goes_on : (order : Order) (l : Layout) (rs : List Record) → Valid l → state_fits l rs ≡ true → state_bad l rs ≡ false
    → (c : ℕ) × (choice_legal order l c rs ≡ true)
goes_on order l rs v f b = (choice order l rs v, choice_is_legal order l rs v f b)
