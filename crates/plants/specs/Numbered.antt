-- The numbers of a plant's states obey the law of systems that can be logged.
use Rattle.std.specs.Prelude.{◌≡◌, ℕ, zero, suc, ◌+◌, ◌*◌, ◌/◌, ◌%◌, ◌<◌, ◌≤◌, true, List, [], ◌∷◌, length, take, Some, ◌==◌, nat_le, slice_index, refl}
use Rattle.std.proofs.Math.Path.{ap, sym}
use Rattle.std.proofs.Common.{◌∙◌, subst}
use native.Mathlib.Omega.{arith}
use native.Mathlib.Numerals.{unary_clauses}
use Rattle.std.specs.List.{flat_map}
use Rattle.std.proofs.lemmas.List.FromFn.{get_or-map-range_with_len, length-map-range_with_len}
use Rattle.std.proofs.lemmas.List.{ext_get_or, get_or-replicate, length-take-le}
use Rattle.std.proofs.lemmas.List.Concat.{get_or-flat_map}
use Rattle.std.proofs.lemmas.Option.{cond_some}
use Rattle.std.proofs.lemmas.Bool.{and_parts, and_from, cond-true, eq-eqb, eqb-true, le-leb, leb-true}
use Rattle.lines.specs.Spelling.{largest, small}
use Rattle.lines.specs.Logging.{Numbered}
use Rattle.plants.specs.Layouts.{task_count}
use Rattle.plants.specs.Limits.{most_ticks, most_tasks}
use Rattle.plants.specs.Below.{all_below}
use Rattle.plants.specs.Records.{phase_number, phase_of, is_phase, blank, first_state, at, each, Low}
use Rattle.plants.specs.Tick.{Order, state_fits}
use Rattle.plants.specs.Rules.{Fits}
use Rattle.plants.specs.Meanings.{plant_meaning}
use Rattle.plants.specs.Numbers.{per_task, record_numbers, first_records, state_numbers, record_of, is_phase_at, is_state, state_with, state_of}
use Rattle.plants.specs.declared.layout.Layout.{Layout}
use Rattle.plants.specs.declared.state.Phase.{Phase}
use Rattle.plants.specs.declared.state.Phase.TheVariants.{Before, Done, Held, Ready}
use Rattle.plants.specs.declared.state.Record.{Record}
use Rattle.plants.specs.declared.state.PlantState.{PlantState}
use Rattle.plants.specs.Decided.{fits_decides}
use Rattle.plants.specs.Each.{made_each, each_made}
use Rattle.plants.specs.Entered.{Valid}
use Rattle.plants.specs.Same.{phase_back, record_same}
use Rattle.plants.specs.Steps.{all_at, all_from}
use Rattle.plants.specs.Ticks.{low_one}

-- Phases and their numbers

phase_low : (p : Phase) → phase_number p ≤ 3
phase_low Before = omega arith
phase_low Done = omega arith
phase_low Held = omega arith
phase_low Ready = omega arith

number_back : (n : ℕ) → is_phase n ≡ true → phase_number (phase_of n) ≡ n
number_back zero h = refl
number_back (suc zero) h = refl
number_back (suc (suc zero)) h = refl
number_back (suc (suc (suc zero))) h = refl
number_back (suc (suc (suc (suc n)))) h = absurd (omega (arith, leb-true _ _ h))

-- The numbers of records are small

small_numbers : (rs : List Record) → ((k : ℕ) → k < length rs → Low (at rs k)) → small (flat_map record_numbers rs) ≡ true
small_numbers [] h = refl
small_numbers (r ∷ rs) h =
    let low : Low r = h 0 (omega arith) in
    let b : (n : ℕ) → n ≤ most_ticks → nat_le n largest ≡ true = λ n le. le-leb n largest (omega arith) in
    and_from _ _ (b (phase_number r.phase) (omega (arith, phase_low r.phase)))
    (and_from _ _ (b r.since low.since)
    (and_from _ _ (b r.run low.run) (and_from _ _ (b r.waited low.waited) (small_numbers rs (λ k lt. simp unary_clauses at (h (k + 1) (omega arith)))))))

-- From records to numbers and back

length_fours : (rs : List Record) → length (flat_map record_numbers rs) ≡ per_task * length rs
length_fours [] = refl
length_fours (r ∷ rs) = omega (arith, length_fours rs)

module _ (rs : List Record) (n : ℕ) where
  length_first : length (first_records n rs) ≡ n
  length_first = length-map-range_with_len (at rs) 0 n

  length_numbers : length (state_numbers n rs) ≡ per_task * n
  unfolding state_numbers
  length_numbers = omega (arith, length_fours (first_records n rs), length_first)

  -- number j of record i stands at place 4 * i + j
  number_there : (i j k : ℕ) → i < n → j < per_task → k ≡ per_task * i + j → slice_index (state_numbers n rs) k ≡ slice_index (record_numbers (at rs i)) j
  unfolding state_numbers
  number_there i j k h b e =
      let xs = first_records n rs in
      let front : length (flat_map record_numbers (take i xs)) ≡ per_task * i =
      omega (arith, length_fours (take i xs), length-take-le i xs (omega (arith, length_first))) in
      let place : k ≡ length (flat_map record_numbers (take i xs)) + j = omega arith in
      ap (λ q. slice_index (flat_map record_numbers xs) q) place
      ∙ get_or-flat_map record_numbers xs i j blank 0 (omega (arith, length_first)) b
      ∙ ap (λ r. slice_index (record_numbers r) j) (get_or-map-range_with_len (at rs) 0 n i i blank h (omega arith))

  record_back : (i : ℕ) → i < n → record_of (state_numbers n rs) i ≡ at rs i
  record_back i h =
      let ns = state_numbers n rs in
      let r = at rs i in
      let at0 = number_there i 0 (per_task * i) h (omega arith) (omega arith) in
      let at1 = number_there i 1 (per_task * i + 1) h (omega arith) (omega arith) in
      let at2 = number_there i 2 (per_task * i + 2) h (omega arith) (omega arith) in
      let at3 = number_there i 3 (per_task * i + 3) h (omega arith) (omega arith) in
      record_same (phase_of (slice_index ns (per_task * i))) r.phase (slice_index ns (per_task * i + 1)) r.since (slice_index ns (per_task * i + 2)) r.run (slice_index ns (per_task * i + 3)) r.waited
      (ap phase_of at0 ∙ phase_back r.phase) at1 at2 at3

  phase_there : (i : ℕ) → i < n → is_phase_at (state_numbers n rs) i ≡ true
  unfolding is_phase_at
  phase_there i h = ap is_phase (number_there i 0 (per_task * i) h (omega arith) (omega arith)) ∙ le-leb _ _ (phase_low (at rs i).phase)

-- From numbers to records and back

record_number : (ns : List ℕ) (i j k : ℕ) → k ≡ per_task * i + j → j < per_task → is_phase (slice_index ns (per_task * i)) ≡ true
    → slice_index ns k ≡ slice_index (record_numbers (record_of ns i)) j
record_number ns i zero k e b p =
    let same : k ≡ per_task * i = omega arith in ap (λ q. slice_index ns q) same ∙ sym (number_back (slice_index ns (per_task * i)) p)
record_number ns i (suc zero) k e b p = ap (λ q. slice_index ns q) e
record_number ns i (suc (suc zero)) k e b p = ap (λ q. slice_index ns q) e
record_number ns i (suc (suc (suc zero))) k e b p = ap (λ q. slice_index ns q) e
record_number ns i (suc (suc (suc (suc j)))) k e b p = absurd (omega arith)

-- numbers that are a state of n tasks, by the parts of the test
record Proper (n : ℕ) (ns : List ℕ) : Type 0 where
  pub long : length ns ≡ per_task * n
  pub phases : (i : ℕ) → i < n → is_phase_at ns i ≡ true

-- exactly such numbers are restored
restored_proper : (n : ℕ) (ns : List ℕ) → Proper n ns → state_of n ns ≡ Some (state_with n ns)
restored_proper n ns p = cond-true _ _ _ (and_from _ _ (eq-eqb _ _ p.long) (all_from (is_phase_at ns) n p.phases))

proper_restored : (n : ℕ) (ns : List ℕ) (x : PlantState) → state_of n ns ≡ Some x → Proper n ns × (state_with n ns ≡ x)
proper_restored n ns x e =
    let restored = cond_some (is_state n ns) (state_with n ns) x e in
    let p = and_parts (length ns == per_task * n) (all_below (is_phase_at ns) n) restored.0 in
    (record { long = eqb-true _ _ p.0; phases = all_at (is_phase_at ns) n p.1 }, restored.1)

numbers_back : (n : ℕ) (ns : List ℕ) → n ≤ most_tasks → Proper n ns → ns ≡ state_numbers n (state_with n ns).records
unfolding state_with is_phase_at
numbers_back n ns few p =
    let rs = (state_with n ns).records in
    let made = each_made (λ i r. record_of ns i) first_state.records n few in
    ext_get_or 0 ns (state_numbers n rs) (p.long ∙ sym (length_numbers rs n))
    (λ k lt.
    let low : k / per_task < n = omega (arith, p.long) in
    let split : k ≡ per_task * (k / per_task) + k % per_task = omega arith in
    record_number ns (k / per_task) (k % per_task) k split (omega arith) (p.phases (k / per_task) low)
    ∙ ap (λ (r : Record). slice_index (record_numbers r) (k % per_task)) (sym (made.entered (k / per_task) low))
    ∙ sym (number_there rs n (k / per_task) (k % per_task) k low (omega arith) split))

-- The law at a state that fits

module _ (l : Layout) (v : Valid l) (s : PlantState) (f : state_fits l s.records ≡ true) where
  fitting : Fits l s
  fitting = (fits_decides l s v.tasks_few).0 f

  few_numbers : length (state_numbers (task_count l) s.records) ≤ per_task * most_tasks
  few_numbers = omega (arith, length_numbers s.records (task_count l), v.tasks_few)

  numbers_small : small (state_numbers (task_count l) s.records) ≡ true
  unfolding state_numbers
  numbers_small =
      small_numbers (first_records (task_count l) s.records)
      (λ k lt.
      let below : k < task_count l = omega (arith, length_first s.records (task_count l)) in
      subst Low (sym (get_or-map-range_with_len (at s.records) 0 (task_count l) k k blank below (omega arith))) (low_one l v s.records f k below))

  restores : state_of (task_count l) (state_numbers (task_count l) s.records) ≡ Some s
  unfolding state_with
  restores =
      let n = task_count l in
      let ns = state_numbers n s.records in
      let same : s.records ≡ each n (λ i r. record_of ns i) first_state.records =
      made_each (λ i r. record_of ns i) first_state.records n s.records (record {
        long = fitting.long;
        entered = λ k lt. sym (record_back s.records n k lt);
        others = λ k lt le. fitting.others k lt le ∙ sym (get_or-replicate most_tasks k blank blank lt);
      }) in
      restored_proper n ns (record { long = length_numbers s.records n; phases = phase_there s.records n })
      ∙ ap (λ (rs : List Record). Some (record { records = rs })) (sym same)

pub plant_numbered : (order : Order) (l : Layout) → Valid l
    → Numbered (plant_meaning order l) (λ s. state_numbers (task_count l) s.records) (state_of (task_count l))
plant_numbered order l v = record {
  few = few_numbers l v;
  small_numbers = numbers_small l v;
  restores = restores l v;
  one_list = λ x ns f e.
      let p = proper_restored (task_count l) ns x e in
      numbers_back (task_count l) ns v.tasks_few p.0 ∙ ap (λ (s : PlantState). state_numbers (task_count l) s.records) p.1;
}
