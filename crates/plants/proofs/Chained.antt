-- A list of choices is a run exactly when its states chain by ticks from the first.
use Rattle.std.proofs.Common.{◌≡◌, ℕ, List, [], ◌∷◌, refl, ap, ◌∙◌, subst}
use Rattle.systems.specs.Systems.{Legal, led}
use Rattle.plants.specs.Records.{first_state}
use Rattle.plants.specs.Tick.{Order}
use Rattle.plants.specs.Meanings.{plant_meaning}
use Rattle.plants.specs.Chains.{Chains, end_of, RunsChain}
use Rattle.plants.specs.declared.layout.Layout.{Layout}
use Rattle.plants.specs.declared.state.PlantState.{PlantState}
use Rattle.plants.specs.Entered.{Valid}
use Rattle.plants.proofs.Agreement.{ticks, tick_legal, tick_next}

module _ (order : Order) (l : Layout) (v : Valid l) where
  legal_chains : (cs : List ℕ) (s : PlantState) → Legal (plant_meaning order l) s cs → (xs : List PlantState) × Chains order l s cs xs
  legal_chains [] s h = ([], tt)
  legal_chains (c ∷ cs) s h =
      let x = (plant_meaning order l).next s c in
      let rest = legal_chains cs x h.1 in
      (x ∷ rest.0, (ticks order l c s v h.0, rest.1))

  chains_legal : (cs : List ℕ) (s : PlantState) (xs : List PlantState) → Chains order l s cs xs
      → Legal (plant_meaning order l) s cs × (end_of s xs ≡ led (plant_meaning order l) s cs)
  chains_legal [] s [] h = (tt, refl)
  chains_legal [] s (x ∷ xs) h = absurd h
  chains_legal (c ∷ cs) s [] h = absurd h
  chains_legal (c ∷ cs) s (x ∷ xs) h =
      let m = plant_meaning order l in
      let e = tick_next order l c s x v h.0 in
      let rest = chains_legal cs x xs h.1 in
      ((tick_legal order l c s x v h.0, subst (λ y. Legal m y cs) e rest.0), rest.1 ∙ ap (λ y. led m y cs) e)

  pub runs_chain : (cs : List ℕ) → RunsChain order l cs
  runs_chain cs = record {
    run_chains = legal_chains cs first_state;
    chain_runs = chains_legal cs first_state;
  }
