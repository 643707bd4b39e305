-- A loop that makes each task's record anew ends at `each`, and records so made are those of `each`.
use Rattle.std.specs.Prelude.{◌≡◌, ℕ, ◌+◌, ◌<◌, ◌≤◌, cond, ◌≢◌, List, length, nat_lt, slice_set}
use Rattle.std.proofs.Common.{ap, subst, ◌∙◌, arith, length-set, get_or-set_same, get_or-set_other}
use Rattle.std.proofs.Math.Path.{sym}
use Rattle.std.proofs.Math.Logic.{⊎_elim}
use Rattle.std.proofs.lemmas.Bool.{cases_lt, cases_eq, cond-true, cond-false, lt-ltb, le-ltb}
use Rattle.std.proofs.lemmas.List.FromFn.{fill_by_all, get_or-map-range_with_len, length-map-range_with_len}
use Rattle.plants.specs.Limits.{most_tasks}
use Rattle.plants.specs.Records.{at, each, blank}
use Rattle.plants.specs.declared.state.Record.{Record}

-- the records below i are made anew, and the others are as they were
pub record Upto (f : ℕ → Record → Record) (rs : List Record) (i : ℕ) (xs : List Record) : Type 0 where
  pub long : length xs ≡ most_tasks
  pub below : (k : ℕ) → k < i → at xs k ≡ f k (at rs k)
  pub rest : (k : ℕ) → i ≤ k → at xs k ≡ at rs k

-- the records of the first n tasks are made anew, and there are as many as before
pub record Made (n : ℕ) (f : ℕ → Record → Record) (rs xs : List Record) : Type 0 where
  pub long : length xs ≡ most_tasks
  pub entered : (k : ℕ) → k < n → at xs k ≡ f k (at rs k)
  pub others : (k : ℕ) → k < most_tasks → n ≤ k → at xs k ≡ at rs k

module _ (f : ℕ → Record → Record) (rs : List Record) where
  -- records that are made so are those of `each`
  pub made_each : (n : ℕ) (xs : List Record) → Made n f rs xs → xs ≡ each n f rs
  unfolding each
  made_each n xs m =
      fill_by_all (λ i. cond (nat_lt i n) (f i (at rs i)) (at rs i)) xs most_tasks blank m.long
      (λ k h.
      ⊎_elim
      (λ (lt : k < n). m.entered k lt ∙ sym (cond-true _ _ _ (lt-ltb k n lt)))
      (λ (le : n ≤ k). m.others k h le ∙ sym (cond-false _ _ _ (le-ltb k n le)))
      (cases_lt k n))

  pub each_made : (n : ℕ) → n ≤ most_tasks → Made n f rs (each n f rs)
  unfolding each
  each_made n le = record {
    long = length-map-range_with_len (λ i. cond (nat_lt i n) (f i (at rs i)) (at rs i)) 0 most_tasks;
    entered = λ k lt.
        get_or-map-range_with_len (λ i. cond (nat_lt i n) (f i (at rs i)) (at rs i)) 0 most_tasks k k blank (omega arith) (omega arith)
        ∙ cond-true _ _ _ (lt-ltb k n lt);
    others = λ k lt past.
        get_or-map-range_with_len (λ i. cond (nat_lt i n) (f i (at rs i)) (at rs i)) 0 most_tasks k k blank lt (omega arith)
        ∙ cond-false _ _ _ (le-ltb k n past);
  }

  -- one record more
  pub upto_more : (i : ℕ) (xs : List Record) (r : Record) → i < most_tasks → Upto f rs i xs → r ≡ f i (at rs i) → Upto f rs (i + 1) (slice_set xs i r)
  upto_more i xs r lt u e = record {
    long = length-set xs i r ∙ u.long;
    below = λ k h.
        ⊎_elim
        (λ (same : k ≡ i). ap (at (slice_set xs i r)) same ∙ get_or-set_same xs i r blank (omega (arith, u.long)) ∙ e ∙ ap (λ j. f j (at rs j)) (sym same))
        (λ (ne : k ≡ i → ⊥). get_or-set_other xs i k r blank ne ∙ u.below k (omega arith))
        (cases_eq k i);
    rest = λ k h. let ne : k ≢ i = omega arith in get_or-set_other xs i k r blank ne ∙ u.rest k (omega arith);
  }

  pub upto_step : (i : ℕ) (xs ys : List Record) → i < most_tasks → Upto f rs i xs → ys ≡ slice_set xs i (f i (at xs i)) → Upto f rs (i + 1) ys
  upto_step i xs ys lt u e = subst (Upto f rs (i + 1)) (sym e) (upto_more i xs (f i (at xs i)) lt u (ap (f i) (u.rest i (omega arith))))

  pub upto_all : (n i : ℕ) (xs : List Record) → i ≡ n → Upto f rs i xs → xs ≡ each n f rs
  upto_all n i xs e u =
      made_each n xs (record {
        long = u.long;
        entered = λ k lt. u.below k (omega arith);
        others = λ k lt le. u.rest k (omega arith);
      })
