-- What a plant's replies say in the rules' own words.
use Rattle.std.specs.Prelude.{◌≡◌, ℕ, Bool, true}
use Rattle.plants.specs.Tick.{Order}
use Rattle.plants.specs.Rules.{Tick}
use Rattle.plants.specs.Meanings.{plant_meaning}
use Rattle.plants.specs.declared.layout.Layout.{Layout}
use Rattle.plants.specs.declared.state.PlantState.{PlantState}

-- a choice is legal, and leads to a state, exactly when the rules have it lead there in one tick
pub record ByRules (order : Order) (l : Layout) (c : ℕ) (s : PlantState) (legal : Bool) (next : PlantState) : Type 0 where
  pub legal_ticks : legal ≡ true → Tick order l c s next
  pub tick_legal : (s' : PlantState) → Tick order l c s s' → (legal ≡ true) × (s' ≡ next)

-- what the reply whether the choice is legal says, and what the next state is
abbrev pub LegalByRules : Order → Layout → ℕ → PlantState → Bool → Type 0
LegalByRules order l c s legal = ByRules order l c s legal ((plant_meaning order l).next s c)

abbrev pub NextByRules : Order → Layout → ℕ → PlantState → PlantState → Type 0
NextByRules order l c s next = ByRules order l c s ((plant_meaning order l).legal s c) next
