-- Runs of a plant as chains of states.
use Rattle.std.specs.Prelude.{◌≡◌, ℕ, List, [], ◌∷◌}
use Rattle.systems.specs.Systems.{Run, last}
use Rattle.plants.specs.Records.{first_state}
use Rattle.plants.specs.Tick.{Order}
use Rattle.plants.specs.Rules.{Tick}
use Rattle.plants.specs.Meanings.{plant_meaning}
use Rattle.plants.specs.declared.layout.Layout.{Layout}
use Rattle.plants.specs.declared.state.PlantState.{PlantState}

-- each choice leads in one tick from the state before it to the state after it
abbrev pub Chains : Order → Layout → PlantState → List ℕ → List PlantState → Type 0
Chains order l s [] [] = Unit {0}
Chains order l s [] (x ∷ xs) = ⊥
Chains order l s (c ∷ cs) [] = ⊥
Chains order l s (c ∷ cs) (x ∷ xs) = Tick order l c s x × Chains order l x cs xs

-- the last state of a chain that begins at s
abbrev pub end_of : PlantState → List PlantState → PlantState
end_of s [] = s
end_of s (x ∷ xs) = end_of x xs

-- a list of choices is a run exactly when there are states that it chains from the first, and they end where the run does
pub record RunsChain (order : Order) (l : Layout) (cs : List ℕ) : Type 0 where
  pub run_chains : Run (plant_meaning order l) cs → (xs : List PlantState) × Chains order l first_state cs xs
  pub chain_runs : (xs : List PlantState) → Chains order l first_state cs xs
      → Run (plant_meaning order l) cs × (end_of first_state xs ≡ last (plant_meaning order l) cs)
