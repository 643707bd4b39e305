-- What a test at the numbers below another tells, and the steps of a loop that tests them in turn.
use Rattle.std.specs.Prelude.{◌≡◌, ℕ, suc, ◌+◌, ◌<◌, ◌≤◌, Bool, true, false, ◌&&◌, Decides, length, Some, None}
use Rattle.std.proofs.Common.{ap, sym, ◌∙◌, ⊎_elim, add-one, arith, get_or}
use Rattle.std.specs.List.{range_with_len, position_or_len, slice_get}
use Rattle.std.proofs.lemmas.Bool.{and_parts, and_from, cases_eq, cases_lt}
use Rattle.std.proofs.lemmas.Bool.Decides.{same_from_decides}
use Rattle.std.proofs.lemmas.List.FromFn.{length-range_with_len, get_or-range_with_len}
use Rattle.std.proofs.lemmas.List.Sums.{AllPass-from_list_all, list_all-from_AllPass, passes_at_first, fails_before_first}
use Rattle.std.proofs.lemmas.List.Folds.{Any-from_list_any, list_any-from_Any, list_all_at, find_at}
use Rattle.std.proofs.lemmas.Option.{slice_get_within, slice_get-get_or, get_or_from_slice_get}
use Rattle.plants.specs.Below.{all_below, any_below, first_below}

-- the numbers below n by their places
number : (n k d : ℕ) → k < n → get_or (range_with_len 0 n) k d ≡ k
number n k d lt = omega (arith, get_or-range_with_len 0 n k d lt)

module _ (p : ℕ → Bool) where
  pub all_at : (n : ℕ) → all_below p n ≡ true → (k : ℕ) → k < n → p k ≡ true
  all_at n h k lt = ap p (sym (number n k 0 lt)) ∙ AllPass-from_list_all p (range_with_len 0 n) h k 0 (omega (arith, length-range_with_len 0 n))

  pub all_from : (n : ℕ) → ((k : ℕ) → k < n → p k ≡ true) → all_below p n ≡ true
  all_from n h =
      list_all-from_AllPass p (range_with_len 0 n)
      (λ k d l. let lt : k < n = omega (arith, length-range_with_len 0 n) in ap p (number n k d lt) ∙ h k lt)

  pub any_stops : (n i : ℕ) → i < n → p i ≡ true → any_below p n ≡ true
  any_stops n i lt t = list_any-from_Any p (range_with_len 0 n) (i, i, omega (arith, length-range_with_len 0 n), number n i i lt, t)

  -- a test at every number below n, and at some, as a statement
  pub all_decides : (P : ℕ → Type 0) → ((k : ℕ) → Decides (p k) (P k)) → (n : ℕ) → Decides (all_below p n) ((k : ℕ) → k < n → P k)
  all_decides P d n = ((λ h k lt. (d k).0 (all_at n h k lt)), λ f. all_from n (λ k lt. (d k).1 (f k lt)))

  pub any_decides : (P : ℕ → Type 0) → ((k : ℕ) → Decides (p k) (P k)) → (n : ℕ) → Decides (any_below p n) ((k : ℕ) × (k < n) × P k)
  any_decides P d n = (
    (λ h.
        let a = Any-from_list_any p (range_with_len 0 n) h in
        let lt : a.0 < n = omega (arith, length-range_with_len 0 n, a.2) in
        (a.0, lt, (d a.0).0 (ap p (sym (number n a.0 a.1 lt) ∙ a.3) ∙ a.4))),
    λ a. any_stops n a.0 a.1 ((d a.0).1 a.2),
  )

  -- a number that is found passes, and where none is found none does
  pub found_below : (n k : ℕ) → first_below p n ≡ Some k → (k < n) × (p k ≡ true)
  found_below n k e =
      let xs = range_with_len 0 n in
      let i = position_or_len p xs in
      let at : slice_get xs i ≡ Some k = sym (find_at p xs) ∙ e in
      let low : i < length xs = slice_get_within xs i k at in
      let lt : i < n = omega (arith, length-range_with_len 0 n) in
      let is : get_or xs i 0 ≡ k = get_or_from_slice_get xs i k 0 at in
      (omega (arith, number n i 0 lt), ap p (sym is) ∙ passes_at_first p xs 0 low)

  pub none_below : (n : ℕ) → first_below p n ≡ None → (k : ℕ) → k < n → p k ≡ false
  none_below n e k lt =
      let xs = range_with_len 0 n in
      let i = position_or_len p xs in
      let past : n ≤ i = ⊎_elim
      (λ (low : i < n).
      let at : None ≡ Some (get_or xs i 0) = sym e ∙ find_at p xs ∙ slice_get-get_or xs i 0 (omega (arith, length-range_with_len 0 n)) in
      let z : ◌≡◌ {A = ℕ} 0 1 = cc in absurd (omega arith))
      (λ (le : n ≤ i). le)
      (cases_lt i n) in
      ap p (sym (number n k 0 lt)) ∙ fails_before_first p xs k 0 (omega arith)

  -- one number more
  pub all_suc : (n : ℕ) → all_below p (suc n) ≡ (p n && all_below p n)
  all_suc n =
      same_from_decides {P = (k : ℕ) → k < suc n → p k ≡ true} (all_below p (suc n)) (p n && all_below p n)
      (all_at (suc n), all_from (suc n)) (
        (λ h k lt.
            let a = and_parts (p n) (all_below p n) h in
            ⊎_elim (λ (e : k ≡ n). ap p e ∙ a.0) (λ (ne : k ≡ n → ⊥). all_at n a.1 k (omega arith)) (cases_eq k n)),
        λ f. and_from _ _ (f n (omega arith)) (all_from n (λ k lt. f k (omega arith))),
      )

  pub all_more : (i : ℕ) → all_below p i ≡ true → p i ≡ true → all_below p (i + 1) ≡ true
  all_more i h t = rw add-one (all_suc i ∙ and_from _ _ t h)

  -- a number that decides
  pub all_stops : (n i : ℕ) → i < n → p i ≡ false → all_below p n ≡ false
  all_stops n i lt f =
      list_all_at p (range_with_len 0 n) i 0 (omega (arith, length-range_with_len 0 n)) (ap p (number n i 0 lt) ∙ f)

  -- the loop has come to the end
  pub all_ended : (n i : ℕ) → i ≡ n → all_below p i ≡ true → all_below p n ≡ true
  all_ended n i e h = ap (all_below p) (sym e) ∙ h

-- tests that agree at every number below n
pub all_same : (p q : ℕ → Bool) (n : ℕ) → ((k : ℕ) → k < n → p k ≡ q k) → all_below p n ≡ all_below q n
all_same p q n e =
    same_from_decides {P = (k : ℕ) → k < n → q k ≡ true} (all_below p n) (all_below q n)
    ((λ h k lt. sym (e k lt) ∙ all_at p n h k lt), λ f. all_from p n (λ k lt. e k lt ∙ f k lt))
    (all_at q n, all_from q n)
