-- Of some numbers below another, one goes before all the rest by an order that is total and transitive.
use Rattle.std.proofs.Common.{◌≡◌, ℕ, zero, suc, ◌<◌, Bool, true, false, not, ◌⊎◌, sym, ap, ◌∙◌, inl, inr, ⊎_elim, arith}
use Rattle.std.proofs.lemmas.Bool.{cases_Bool, cases_eq, both_ways}

-- the order lt, on the numbers that on marks
module _ (lt : ℕ → ℕ → Bool) (on : ℕ → Bool)
    (one : (i j : ℕ) → (i ≡ j → ⊥) → lt j i ≡ not (lt i j))
    (chain : (i j k : ℕ) → (i ≡ j → ⊥) → (j ≡ k → ⊥) → (i ≡ k → ⊥) → lt i j ≡ true → lt j k ≡ true → lt i k ≡ true) where
  pub record First (n k : ℕ) : Type 0 where
    pub low : k < n
    pub is_on : on k ≡ true
    pub ahead : (j : ℕ) → j < n → on j ≡ true → (k ≡ j → ⊥) → lt k j ≡ true

  abbrev NoneOn : ℕ → Type 0
  NoneOn n = (j : ℕ) → j < n → on j ≡ true → ⊥

  kept : (n k : ℕ) → First n k → (on n ≡ true → lt k n ≡ true) → First (suc n) k
  kept n k f h = record {
    low = let l = f.low in omega arith;
    is_on = f.is_on;
    ahead = λ j jl jo ne. ⊎_elim (λ (e : j ≡ n). rw e (h (rw e at jo))) (λ (d : j ≡ n → ⊥). f.ahead j (omega arith) jo ne) (cases_eq j n);
  }

  newer : (n k : ℕ) → First n k → on n ≡ true → lt k n ≡ false → First (suc n) n
  newer n k f o b =
      let kl = f.low in
      let ne : k ≡ n → ⊥ = λ e. omega arith in
      let nk : lt n k ≡ true = one k n ne ∙ ap not b in
      record {
        low = omega arith;
        is_on = o;
        ahead = λ j jl jo d.
            ⊎_elim (λ (e : j ≡ k). rw e nk)
            (λ (e : j ≡ k → ⊥). chain n k j (λ q. omega arith) (λ q. e (sym q)) d nk (f.ahead j (omega arith) jo (λ q. e (sym q))))
            (cases_eq j k);
      }

  only : (n : ℕ) → NoneOn n → on n ≡ true → First (suc n) n
  only n h o = record { low = omega arith; is_on = o; ahead = λ j jl jo d. absurd (h j (omega arith) jo) }

  none : (n : ℕ) → NoneOn n → on n ≡ false → NoneOn (suc n)
  none n h o j jl jo = ⊎_elim (λ (e : j ≡ n). both_ways (on n) o (rw e at jo)) (λ (d : j ≡ n → ⊥). h j (omega arith) jo) (cases_eq j n)

  find : (n : ℕ) → NoneOn n ⊎ ((k : ℕ) × First n k)
  find zero = inl (λ j jl jo. omega arith)
  find (suc n) =
      ⊎_elim
      (λ (h : NoneOn n). ⊎_elim (λ (o : on n ≡ true). inr (n, only n h o)) (λ (o : on n ≡ false). inl (none n h o)) (cases_Bool (on n)))
      (λ (f : (k : ℕ) × First n k).
      ⊎_elim
      (λ (o : on n ≡ true).
      ⊎_elim (λ (b : lt f.0 n ≡ true). inr (f.0, kept n f.0 f.1 (λ _. b))) (λ (b : lt f.0 n ≡ false). inr (n, newer n f.0 f.1 o b))
      (cases_Bool (lt f.0 n)))
      (λ (o : on n ≡ false). inr (f.0, kept n f.0 f.1 (λ t. absurd (both_ways (on n) o t))))
      (cases_Bool (on n)))
      (find n)

  pub first_of : (n i : ℕ) → i < n → on i ≡ true → (k : ℕ) × First n k
  first_of n i l o = ⊎_elim (λ (h : NoneOn n). absurd (h i l o)) (λ (f : (k : ℕ) × First n k). f) (find n)
