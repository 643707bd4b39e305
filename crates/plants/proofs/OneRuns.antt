-- By a lawful policy, of the ready tasks on one resource exactly one runs.
use Rattle.std.proofs.Common.{◌≡◌, ℕ, ◌<◌, Bool, true, not, ◌&&◌, eqb, get_or, Option, sym, ap, ◌∙◌, ⊎_elim}
use Rattle.std.proofs.lemmas.Bool.{and_parts, and_from, eqb-true, eq-eqb, cases_eq, both_ways}
use Rattle.policies.specs.Lawful.{Lawful}
use Rattle.plants.specs.Below.{first_below}
use Rattle.plants.specs.Unused.{no_resource}
use Rattle.plants.specs.Layouts.{task_at, task_count}
use Rattle.plants.specs.Records.{is_ready}
use Rattle.plants.specs.Tick.{Order, goes_before, claim_of, task_runs, runs_on}
use Rattle.plants.specs.Rules.{record_at, Runs, NamesRunning}
use Rattle.plants.specs.declared.layout.Layout.{Layout}
use Rattle.plants.specs.declared.layout.Resource.{Resource}
use Rattle.plants.specs.declared.state.PlantState.{PlantState}
use Rattle.plants.specs.declared.state.Phase.TheVariants.{Ready}
use Rattle.plants.specs.Decided.{decides_ready, runs_decides}
use Rattle.plants.specs.Steps.{found_below, none_below}
use Rattle.plants.proofs.Firsts.{First, first_of}

module _ (order : Order) (law : (policy preempt : ℕ) → Lawful (order policy preempt)) (l : Layout) (s : PlantState) (ρ : ℕ) where
  numbers : Resource
  numbers = get_or l.resources ρ no_resource

  -- the order of the tasks' claims on the resource ρ
  lt : ℕ → ℕ → Bool
  lt i j = order numbers.policy numbers.preempt (claim_of l s.records i) (claim_of l s.records j)

  -- the ready tasks on ρ
  on : ℕ → Bool
  on i = is_ready (record_at s i).phase && eqb (task_at l i).resource ρ

  one : (i j : ℕ) → (i ≡ j → ⊥) → lt j i ≡ not (lt i j)
  unfolding lt
  one i j d = (law numbers.policy numbers.preempt).one (claim_of l s.records i) (claim_of l s.records j) d

  chain : (i j k : ℕ) → (i ≡ j → ⊥) → (j ≡ k → ⊥) → (i ≡ k → ⊥) → lt i j ≡ true → lt j k ≡ true → lt i k ≡ true
  unfolding lt
  chain i j k d e f =
      (law numbers.policy numbers.preempt).transitive (claim_of l s.records i) (claim_of l s.records j) (claim_of l s.records k) d e f

  lt_is : (i j : ℕ) → (task_at l i).resource ≡ ρ → goes_before order l s.records i j ≡ lt i j
  unfolding lt numbers
  lt_is i j e =
      ap (λ q. order (get_or l.resources q no_resource).policy (get_or l.resources q no_resource).preempt (claim_of l s.records i) (claim_of l s.records j)) e

  on_parts : (i : ℕ) → on i ≡ true → ((record_at s i).phase ≡ Ready) × ((task_at l i).resource ≡ ρ)
  unfolding on
  on_parts i o =
      let p = and_parts (is_ready (record_at s i).phase) (eqb (task_at l i).resource ρ) o in
      ((decides_ready (record_at s i).phase).0 p.0, eqb-true _ _ p.1)

  on_from : (i : ℕ) → (record_at s i).phase ≡ Ready → (task_at l i).resource ≡ ρ → on i ≡ true
  unfolding on
  on_from i r e = and_from _ _ ((decides_ready (record_at s i).phase).1 r) (eq-eqb _ _ e)

  first_runs : (k : ℕ) → First lt on one chain (task_count l) k → Runs order l s k
  first_runs k f =
      let p = on_parts k f.is_on in
      (p.0, λ j jl ne r e. lt_is k j p.1 ∙ f.ahead j jl (on_from j r (sym e ∙ p.1)) ne)

  -- two tasks that run on the resource would each go before the other
  not_two : (i j : ℕ) → i < task_count l → j < task_count l → (task_at l i).resource ≡ ρ → (task_at l j).resource ≡ ρ → Runs order l s i → Runs order l s j → i ≡ j
  not_two i j il jl ei ej ri rj =
      ⊎_elim (λ (e : i ≡ j). e)
      (λ (ne : i ≡ j → ⊥).
      let a = sym (lt_is i j ei) ∙ ri.1 j jl ne rj.0 (ei ∙ sym ej) in
      let b = sym (lt_is j i ej) ∙ rj.1 i il (λ z. ne (sym z)) ri.0 (ej ∙ sym ei) in
      absurd (both_ways (lt j i) (one i j ne ∙ ap not a) b))
      (cases_eq i j)

  some_runs : (i : ℕ) → i < task_count l → (task_at l i).resource ≡ ρ → (record_at s i).phase ≡ Ready
      → (k : ℕ) × (k < task_count l) × ((task_at l k).resource ≡ ρ) × Runs order l s k
  some_runs i il e r =
      let f = first_of lt on one chain (task_count l) i il (on_from i r e) in
      (f.0, f.1.low, (on_parts f.0 f.1.is_on).1, first_runs f.0 f.1)

  runs_on_parts : (k : ℕ) → runs_on order l s.records ρ k ≡ true → ((task_at l k).resource ≡ ρ) × Runs order l s k
  runs_on_parts k h =
      let p = and_parts (eqb (task_at l k).resource ρ) (task_runs order l s.records k) h in
      (eqb-true _ _ p.0, (runs_decides order l s k).0 p.1)

  runs_on_from : (k : ℕ) → (task_at l k).resource ≡ ρ → Runs order l s k → runs_on order l s.records ρ k ≡ true
  runs_on_from k e r = and_from _ _ (eq-eqb _ _ e) ((runs_decides order l s k).1 r)

  pub names_running : (r : Option ℕ) → r ≡ first_below (runs_on order l s.records ρ) (task_count l) → NamesRunning order l s ρ r
  names_running r f = record {
    some_runs = λ k e. let h = found_below _ (task_count l) k (sym f ∙ e) in let p = runs_on_parts k h.1 in (h.0, p.0, p.1);
    no_other = λ k e j jl ej rj.
        let h = found_below _ (task_count l) k (sym f ∙ e) in
        let p = runs_on_parts k h.1 in
        not_two j k jl h.0 ej p.0 rj p.1;
    none_ready = λ e k kl ek rk.
        let o = some_runs k kl ek rk in
        both_ways (runs_on order l s.records ρ o.0) (none_below _ (task_count l) (sym f ∙ e) o.0 o.1) (runs_on_from o.0 o.2 o.3);
  }
