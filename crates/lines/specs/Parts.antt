-- The parts of a line, each with what follows it.
use Rattle.std.specs.Prelude.{◌≡◌, ℕ, ◌≤◌, List, ◌∷◌, ◌++◌}
use Rattle.lines.specs.Spelling.{letters, column, columns, largest, feed, spelling, Allowed}
use Rattle.lines.specs.declared.tag.Tag.{Tag}

abbrev pub TagFirst : List ℕ → Tag → List ℕ → Type 0
TagFirst bs t rest = bs ≡ letters t ++ rest

abbrev pub ColumnFirst : List ℕ → ℕ → List ℕ → Type 0
ColumnFirst bs n rest = (n ≤ largest) × (bs ≡ column n ++ rest)

-- all numbers of a line, and its line feed
abbrev pub NumbersFirst : List ℕ → Tag → List ℕ → List ℕ → Type 0
NumbersFirst bs t ns rest = Allowed t ns × (bs ≡ columns ns ++ (feed ∷ rest))

-- a line of numbers that its tag allows
abbrev pub LineFirst : List ℕ → Tag → List ℕ → List ℕ → Type 0
LineFirst bs t ns rest = Allowed t ns × (bs ≡ spelling t ns ++ rest)
