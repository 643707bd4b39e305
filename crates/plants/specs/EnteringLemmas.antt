-- An entry passes the tests, one after the other, exactly when it enters.
use Rattle.std.specs.Prelude.{◌≡◌, ℕ, zero, suc, ◌+◌, ◌-◌, ◌/◌, ◌%◌, ◌^◌, ◌<◌, ◌≤◌, Bool, true, false, cond, not, Some, None, Option, Ok, Err, ◌==◌, nat_eq, nat_le, nat_lt, refl}
use Rattle.std.proofs.Common.{ap, sym, subst, ◌∙◌, ⊎_elim, arith}
use Rattle.std.proofs.Math.Nat.{two-pow-succ}
use Rattle.std.proofs.lemmas.Nat.{leading_top, pow_pos, shr-shr, shr_le, le-div, div_below}
use Rattle.std.proofs.lemmas.Bool.{and_from, and_parts, both_ways, not_from_true, eqb-false, eq-eqb, ne_eqb, leb-false, ltb-false, lt-leb, le-leb, le-ltb, cases_lt, cond-false}
use Rattle.std.proofs.lemmas.Bool.Decides.{nat_tests}
use Rattle.policies.specs.Classes.{classes}
use Rattle.policies.specs.Orders.{earliest_deadline, preemptive}
use Rattle.std.specs.List.{find, range_with_len}
use Rattle.systems.specs.Outcomes.{Outcome, answer_of, accepts}
use Rattle.systems.specs.declared.outcome.Refusal.TheVariants.{FieldOutside, NoRoom, NotEntered, GapsUnlike}
use Rattle.systems.proofs.Lowest.{refuted}
use Rattle.plants.specs.Limits.{most_ticks, most_resources, most_tasks}
use Rattle.plants.specs.Bits.{bit}
use Rattle.plants.specs.Layouts.{is_within, unlike, resource_count, task_count}
use Rattle.plants.specs.Entries.{resource_comes_to, task_comes_to, outside_field, if_inside, if_alike}
use Rattle.plants.specs.Entering.{EntersResource, OneGap, EntersTask, EnteredExactly}
use Rattle.plants.specs.declared.layout.TaskEntry.{TaskEntry}
use Rattle.plants.specs.declared.layout.Layout.{Layout}

-- what is accepted has passed each test in turn
passed : (b : Bool) (x y : Outcome) → accepts x ≡ false → accepts (cond b x y) ≡ true → (b ≡ false) × (accepts y ≡ true)
passed true x y n h = absurd (both_ways (accepts x) n h)
passed false x y n h = (refl, h)

inside : (o : Option ℕ) (rest : Outcome) → accepts (if_inside o rest) ≡ true → (o ≡ None) × (accepts rest ≡ true)
inside None rest h = (refl, h)
inside (Some field) rest h = absurd (both_ways (accepts (Err (FieldOutside field))) refl h)

not_outside : (o : Option ℕ) (rest : Outcome) → o ≡ None → if_inside o rest ≡ rest
not_outside o rest e = ap (λ q. if_inside q rest) e

none : (b : Bool) (field : ℕ) (o : Option ℕ) → cond b (Some field) o ≡ None → (b ≡ false) × (o ≡ None)
none true field o h = let z : ◌≡◌ {A = ℕ} 0 1 = cc in absurd (omega arith)
none false field o h = (refl, h)

no_unlike : (o : Option ℕ) (number : ℕ) → accepts (if_alike o (Ok number)) ≡ true → o ≡ None
no_unlike None number h = refl
no_unlike (Some needed) number h = absurd (both_ways (accepts (Err (GapsUnlike needed))) refl h)

-- a search that finds none, and one that can find none
module _ (p : ℕ → Bool) where
  none_found : (n a : ℕ) → find p (range_with_len a n) ≡ None → (k : ℕ) → a ≤ k → k < a + n → p k ≡ false
  none_found zero a h k le lt = absurd (omega arith)
  none_found (suc n) a h k le lt =
      let r = none (p a) a _ h in
      ⊎_elim
      (λ (past : a < k). none_found n (a + 1) r.1 k (omega arith) (omega arith))
      (λ (ge : k ≤ a). let same : a ≡ k = omega arith in subst (λ j. p j ≡ false) same r.0)
      (cases_lt a k)

  found_none : (n a : ℕ) → ((k : ℕ) → p k ≡ false) → find p (range_with_len a n) ≡ None
  found_none zero a f = refl
  found_none (suc n) a f = cond-false (p a) _ _ (f a) ∙ found_none n (a + 1) f

-- an answer whose outcome is accepted exactly when what is asked for enters
pub exactly : (Enters : Type 0) (number : ℕ) (o : Outcome) (answer : ℕ × ℕ) → answer ≡ answer_of o → (accepts o ≡ true → Enters) → (Enters → o ≡ Ok number) → EnteredExactly Enters number answer
exactly Enters number o answer e f g = record {
  accepted = λ z. f (eq-eqb _ _ (sym (ap (λ (q : ℕ × ℕ). q.0) e) ∙ z));
  enters = λ h. e ∙ ap answer_of (g h);
}

-- A resource

module _ (l : Layout) (policy preempt : ℕ) where
  pub resource_enters : resource_count l ≤ most_resources → accepts (resource_comes_to l policy preempt) ≡ true → EntersResource l policy preempt
  resource_enters few h =
      let room = passed (resource_count l == most_resources) (Err NoRoom) _ refl h in
      let known = passed (nat_lt earliest_deadline policy) (Err (FieldOutside 1)) _ refl room.1 in
      let flag = passed (nat_lt preemptive preempt) (Err (FieldOutside 2)) _ refl known.1 in
      record { room = omega (arith, eqb-false _ _ room.0); policy_known = ltb-false _ _ known.0; preempt_known = ltb-false _ _ flag.0 }

  pub enters_resource : EntersResource l policy preempt → resource_comes_to l policy preempt ≡ Ok (resource_count l)
  enters_resource h =
      cond-false _ _ _ (ne_eqb _ _ (λ (e : resource_count l ≡ most_resources). omega arith)) ∙ cond-false _ _ _ (le-ltb _ _ h.policy_known) ∙ cond-false _ _ _ (le-ltb _ _ h.preempt_known)

-- The tasks that an entry needs

below_pow : (n : ℕ) → n < 2 ^ n
below_pow zero = omega arith
below_pow (suc n) = omega (arith, two-pow-succ n, below_pow n)

-- the highest bit of a number that is not 0
some_bit : (n : ℕ) → 0 < n → (j : ℕ) × (bit n j ≡ true)
some_bit n h =
    let top = leading_top n n h (below_pow n) in
    let j = top.0 in
    let low = le-div 1 n (2 ^ j) (pow_pos j) (omega arith) in
    let high = div_below n (2 ^ j) 2 (pow_pos j) (omega (arith, two-pow-succ j)) in
    let one : n / 2 ^ j ≡ 1 = omega arith in
    (j, ap (λ k. nat_eq (k % 2) 1) one)

-- nothing is left above a place exactly when every bit is below it
bits_below : (n c : ℕ) → n / 2 ^ c ≤ 0 → (j : ℕ) → bit n j ≡ true → j < c
bits_below n c z j b = ⊎_elim
    (λ (lt : j < c). lt)
    (λ (le : c ≤ j).
    let split : c + (j - c) ≡ j = omega arith in
    let left : n / 2 ^ j ≡ 0 = omega (arith, ap (λ k. n / 2 ^ k) split, shr-shr n c (j - c), shr_le (n / 2 ^ c) (j - c)) in
    absurd (both_ways (bit n j) (ap (λ k. nat_eq (k % 2) 1) left) b))
    (cases_lt j c)

none_above : (n c : ℕ) → ((j : ℕ) → bit n j ≡ true → j < c) → n / 2 ^ c ≤ 0
none_above n c f = ⊎_elim
    (λ (lt : 0 < n / 2 ^ c).
    let b = some_bit (n / 2 ^ c) lt in
    let high : c + b.0 < c = f (c + b.0) (ap (λ k. nat_eq (k % 2) 1) (sym (shr-shr n c b.0)) ∙ b.1) in
    absurd (omega arith))
    (λ (le : n / 2 ^ c ≤ 0). le)
    (cases_lt 0 (n / 2 ^ c))

module _ (l : Layout) (e : TaskEntry) (j : ℕ) where
  like_gap : unlike l e j ≡ false → bit e.needs j ≡ true → OneGap l e j
  like_gap f b = record { own = grind (arith, nat_tests); least = grind (arith, nat_tests); greatest = grind (arith, nat_tests) }

  gap_like : (bit e.needs j ≡ true → OneGap l e j) → unlike l e j ≡ false
  gap_like f = refuted (unlike l e j) (λ u. let g = f (and_parts (bit e.needs j) _ u).0 in grind (arith, nat_tests))

-- A task

module _ (l : Layout) (e : TaskEntry) where
  pub admitted : accepts (task_comes_to l e) ≡ true → task_count l ≤ most_tasks → EntersTask l e
  admitted h few =
      let room = passed (task_count l == most_tasks) (Err NoRoom) _ refl h in
      let fields = inside (outside_field e) _ room.1 in
      let f1 = none (not (is_within 0 most_ticks e.offset)) 1 _ fields.0 in
      let f2 = none (not (is_within 1 most_ticks e.least)) 2 _ f1.1 in
      let f3 = none (not (is_within e.least most_ticks e.greatest)) 3 _ f2.1 in
      let f4 = none (not (is_within 1 most_ticks e.best)) 4 _ f3.1 in
      let f5 = none (not (is_within e.best most_ticks e.worst)) 5 _ f4.1 in
      let f6 = none (not (is_within 1 e.least e.deadline)) 6 _ f5.1 in
      let f7 = none (nat_le classes e.class) 7 _ f6.1 in
      let on = passed (nat_le (resource_count l) e.resource) (Err (NotEntered 8)) _ refl fields.1 in
      let earlier = passed (nat_lt 0 (e.needs / 2 ^ task_count l)) (Err (NotEntered 9)) _ refl on.1 in
      let alike = no_unlike (find (unlike l e) (range_with_len 0 (task_count l))) (task_count l) earlier.1 in
      record {
        room = omega (arith, eqb-false _ _ room.0);
        offset = (within f1.0).1;
        least = within f2.0;
        greatest = within f3.0;
        best = within f4.0;
        worst = within f5.0;
        deadline = within f6.0;
        class = leb-false _ _ f7.0;
        resource = leb-false _ _ on.0;
        needs = λ j b.
            let lt = bits_below e.needs (task_count l) (ltb-false _ _ earlier.0) j b in
            (lt, like_gap l e j (none_found (unlike l e) (task_count l) 0 alike j (omega arith) (omega arith)) b);
      }
    where
      within : {low high x : ℕ} → not (is_within low high x) ≡ false → (low ≤ x) × (x ≤ high)
      within {low} {high} {x} f = grind (arith, nat_tests)

  pub enters_task : EntersTask l e → task_comes_to l e ≡ Ok (task_count l)
  enters_task h =
      let in_range : (low high x : ℕ) → low ≤ x → x ≤ high → not (is_within low high x) ≡ false = λ low high x a b. not_from_true _ (and_from _ _ (le-leb _ _ a) (le-leb _ _ b)) in
      let fields : outside_field e ≡ None =
      cond-false _ _ _ (in_range 0 most_ticks e.offset (omega arith) h.offset) ∙ cond-false _ _ _ (in_range 1 most_ticks e.least h.least.0 h.least.1)
      ∙ cond-false _ _ _ (in_range e.least most_ticks e.greatest h.greatest.0 h.greatest.1)
      ∙ cond-false _ _ _ (in_range 1 most_ticks e.best h.best.0 h.best.1)
      ∙ cond-false _ _ _ (in_range e.best most_ticks e.worst h.worst.0 h.worst.1)
      ∙ cond-false _ _ _ (in_range 1 e.least e.deadline h.deadline.0 h.deadline.1) ∙ cond-false _ _ _ (lt-leb _ _ h.class) in
      let alike = found_none (unlike l e) (task_count l) 0 (λ j. gap_like l e j (λ b. (h.needs j b).1)) in
      cond-false _ _ _ (ne_eqb _ _ (λ (q : task_count l ≡ most_tasks). omega arith)) ∙ not_outside (outside_field e) _ fields
      ∙ cond-false _ _ _ (lt-leb _ _ h.resource) ∙ cond-false _ _ _ (le-ltb _ _ (none_above e.needs (task_count l) (λ j b. (h.needs j b).0)))
      ∙ ap (λ o. if_alike o (Ok (task_count l))) alike
