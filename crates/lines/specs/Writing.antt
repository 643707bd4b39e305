-- What writing answers, and what it leaves in the buffer.
use Rattle.std.specs.Prelude.{◌≡◌, ℕ, Bool, cond, List, ◌++◌, length, drop, nat_le, Ok, Err}
use Rattle.systems.specs.Outcomes.{Outcome, accepts}
use Rattle.systems.specs.declared.outcome.Refusal.TheVariants.{NumberTooLarge, BufferShort}
use Rattle.lines.specs.Spelling.{spelling, small, Begins}
use Rattle.lines.specs.declared.tag.Tag.{Tag}

-- whether the numbers are small is tested first, then whether the buffer has the room needed
abbrev pub fitted : Bool → ℕ → ℕ → Outcome
fitted small-enough needed room = cond small-enough (cond (nat_le needed room) (Ok needed) (Err (BufferShort needed))) (Err NumberTooLarge)

-- the outcome of writing a line into a buffer with so much room
abbrev pub writing : Tag → List ℕ → ℕ → Outcome
writing t ns room = fitted (small ns) (length (spelling t ns)) room

-- a buffer after bytes were written at its front
abbrev pub over : List ℕ → List ℕ → List ℕ
over bs out = bs ++ drop (length bs) out

-- a buffer after writing: the line and then the bytes that stood there, or untouched
abbrev pub written : Tag → List ℕ → List ℕ → List ℕ
written t ns out = cond (accepts (writing t ns (length out))) (over (spelling t ns) out) out

-- the bytes begin with this line and with no other
pub record ReadsBack (t : Tag) (ns bs : List ℕ) : Type 0 where
  pub begins : Begins bs t ns
  pub only : (u : Tag) (ms : List ℕ) → Begins bs u ms → (u ≡ t) × (ms ≡ ns)
