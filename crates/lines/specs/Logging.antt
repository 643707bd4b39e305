-- States as numbers of an OFFR line.
use Rattle.std.specs.Prelude.{◌≡◌, ℕ, ◌≤◌, true, List, length, Some, Option}
use Rattle.systems.specs.Systems.{Meaning}
use Rattle.lines.specs.Spelling.{small, most, Begins}
use Rattle.lines.specs.declared.tag.Tag.{Tag}
use Rattle.lines.specs.declared.tag.Tag.TheVariants.{Offr}

-- the numbers of a state that fits make a line, which is restored to the state; no other numbers are
pub record Numbered {S : Type 0} (m : Meaning S) (numbers : S → List ℕ) (restored : List ℕ → Option S) : Type 0 where
  pub few : (x : S) → m.fits x ≡ true → length (numbers x) ≤ most
  pub small_numbers : (x : S) → m.fits x ≡ true → small (numbers x) ≡ true
  pub restores : (x : S) → m.fits x ≡ true → restored (numbers x) ≡ Some x
  pub one_list : (x : S) (ns : List ℕ) → m.fits x ≡ true → restored ns ≡ Some x → ns ≡ numbers x

-- the bytes begin with a line that is restored to the state, with no other line, and with the spelling of every line that is restored to it
pub record StateLine {S : Type 0} (restored : List ℕ → Option S) (x : S) (bs : List ℕ) : Type 0 where
  pub begins : (ns : List ℕ) × Begins bs Offr ns × (restored ns ≡ Some x)
  pub only : (t : Tag) (ns : List ℕ) → Begins bs t ns → (t ≡ Offr) × (restored ns ≡ Some x)
  pub one_spelling : (ns : List ℕ) → restored ns ≡ Some x → Begins bs Offr ns
