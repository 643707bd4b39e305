-- A step or a lead that is entered keeps what every draft keeps: its limits, leads inside, idle inputs.
use Rattle.std.proofs.Common.{◌≡◌, ℕ, ◌+◌, ◌<◌, ◌≤◌, eqb, ◌≢◌, List, [], ◌∷◌, ◌++◌, length, get_or, set, sym, ap, ◌∙◌, subst, ⊎_elim, arith, length-set}
use lib.ListN.{get_or-replicate, get_or-append}
use Rattle.std.proofs.lemmas.List.{get_or-set_same, get_or-set_other, set_past, get_or_push, length_push}
use Rattle.std.proofs.lemmas.Bool.{cond_both, cases_eq, cases_lt}
use Rattle.std.proofs.lemmas.Bool.Decides.{nat_tests}
use Rattle.systems.specs.Outcomes.{accepts}
use Rattle.charts.specs.declared.entries.Step.{Step}
use Rattle.charts.specs.declared.entries.Entries.{Entries}
use Rattle.charts.specs.Entries.{most_steps, most_inputs, leading, step_count, no_step, step_at, lead_at, relead, add_step, with_step, set_lead, with_lead, Valid}

pub valid_step : (e : Entries) (forbidden : ℕ) → Valid e → Valid (with_step e forbidden)
valid_step e forbidden v =
    cond_both (accepts (add_step e forbidden)) _ e Valid
    (λ a.
    let room : step_count e < most_steps = grind (arith, nat_tests) in
    let d = leading (eqb forbidden 1) (step_count e) in
    let steps : List Step = e.steps.items ++ d ∷ [] in
    let count : length steps ≡ step_count e + 1 = length_push e.steps.items d in
    let new : (s i : ℕ) → step_count e ≡ s → i < most_inputs → get_or (get_or steps s no_step).leads i 0 ≡ step_count e =
    λ s i same h. ap (λ (x : Step). get_or x.leads i 0) (get_or_push e.steps.items d no_step s same) ∙ get_or-replicate most_inputs i (step_count e) 0 h in
    let old : (s i : ℕ) → s < step_count e → get_or (get_or steps s no_step).leads i 0 ≡ lead_at e s i =
    λ s i h. ap (λ (x : Step). get_or x.leads i 0) (get_or-append e.steps.items (d ∷ []) no_step s h) in
    record {
      some_steps = omega (arith, count);
      few_steps = omega (arith, count);
      some_inputs = v.some_inputs;
      few_inputs = v.few_inputs;
      inside = λ s i h. ⊎_elim
          (λ (lt : s < step_count e). omega (arith, count, old s i lt, v.inside s i (lt, h.1)))
          (λ (le : step_count e ≤ s). omega (arith, count, new s i (omega (arith, count, h.0)) h.1))
          (cases_lt s (step_count e));
      idle = λ s i h. ⊎_elim
          (λ (lt : s < step_count e). old s i lt ∙ v.idle s i (lt, h.1, h.2))
          (λ (le : step_count e ≤ s). let same : step_count e ≡ s = omega (arith, count, h.0) in new s i same h.2 ∙ same)
          (cases_lt s (step_count e));
    })
    (λ _. v)

-- a number written into a row stays below a bound that it and the row obey
below_set : (xs : List ℕ) (i v k b : ℕ) → get_or xs k 0 < b → v < b → get_or (set xs i v) k 0 < b
below_set xs i v k b h l = ⊎_elim
    (λ (e : k ≡ i). ⊎_elim
    (λ (lt : i < length xs). subst (λ j. get_or (set xs i v) j 0 < b) (sym e) (omega (arith, get_or-set_same xs i v 0 lt)))
    (λ (le : length xs ≤ i). omega (arith, ap (λ (ys : List ℕ). get_or ys k 0) (set_past xs i v le)))
    (cases_lt i (length xs)))
    (λ (n : k ≢ i). omega (arith, get_or-set_other xs i k v 0 n))
    (cases_eq k i)

pub valid_lead : (e : Entries) (step input next : ℕ) → Valid e → Valid (with_lead e step input next)
valid_lead e step input next v =
    cond_both (accepts (set_lead e step input next)) _ e Valid
    (λ a.
    let hs : step < step_count e = grind (arith, nat_tests) in
    let hi : input < e.inputs = grind (arith, nat_tests) in
    let hn : next < step_count e = grind (arith, nat_tests) in
    let d = relead (step_at e step) input next in
    let steps : List Step = set e.steps.items step d in
    let count : length steps ≡ step_count e = length-set e.steps.items step d in
    let row : ℕ → List ℕ = λ s. (get_or steps s no_step).leads in
    let new : row step ≡ set (step_at e step).leads input next = ap (λ (x : Step). x.leads) (get_or-set_same e.steps.items step d no_step hs) in
    let old : (s : ℕ) → s ≢ step → row s ≡ (step_at e s).leads = λ s ne. ap (λ (x : Step). x.leads) (get_or-set_other e.steps.items step s d no_step ne) in
    let inside : (s i : ℕ) → s < step_count e → i < most_inputs → get_or (row s) i 0 < step_count e = λ s i hs' h. ⊎_elim
    (λ (same : s ≡ step). subst (λ j. get_or (row j) i 0 < step_count e) (sym same) (subst (λ (xs : List ℕ). get_or xs i 0 < step_count e) (sym new) (below_set (step_at e step).leads input next i (step_count e) (v.inside step i (hs, h)) hn)))
    (λ (ne : s ≢ step). subst (λ (xs : List ℕ). get_or xs i 0 < step_count e) (sym (old s ne)) (v.inside s i (hs', h)))
    (cases_eq s step) in
    record {
      some_steps = omega (arith, count, v.some_steps);
      few_steps = omega (arith, count, v.few_steps);
      some_inputs = v.some_inputs;
      few_inputs = v.few_inputs;
      inside = λ s i h. omega (arith, count, inside s i (omega (arith, count, h.0)) h.1);
      idle = λ s i h. ⊎_elim
          (λ (same : s ≡ step).
          let ne : i ≢ input = omega (arith, h.1) in
          subst (λ j. get_or (row j) i 0 ≡ j) (sym same) (ap (λ (xs : List ℕ). get_or xs i 0) new ∙ get_or-set_other (step_at e step).leads input i next 0 ne ∙ v.idle step i (hs, h.1, h.2)))
          (λ (ne : s ≢ step). ap (λ (xs : List ℕ). get_or xs i 0) (old s ne) ∙ v.idle s i (omega (arith, count, h.0), h.1, h.2))
          (cases_eq s step);
    })
    (λ _. v)
