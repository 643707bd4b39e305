-- Lines as they are said, and the lines of the log that answer them.
use Rattle.std.specs.Prelude.{ℕ, ◌≤◌, Bool, cond, List, [], ◌∷◌, ◌++◌, ◌==◌, slice_index, Err}
use Rattle.systems.specs.Outcomes.{Outcome}
use Rattle.systems.specs.declared.outcome.Refusal.TheVariants.{NotALine, OutOfTurn}
use Rattle.lines.specs.Spelling.{spelling, largest}
use Rattle.lines.specs.declared.tag.Tag.{Tag}
use Rattle.lines.specs.declared.tag.Tag.TheVariants.{Plnt, Chrt, Inpt, Fixd, Verd, Step, Setl, Show, Rsrc, Lead, Task, Offr, Runs, Line}

-- a tag and its numbers
abbrev pub Said : Type 0
Said = Tag × List ℕ

-- a number for each tag, by which they are told apart
abbrev pub index : Tag → ℕ
index Plnt = 0
index Chrt = 1
index Inpt = 2
index Fixd = 3
index Verd = 4
index Step = 5
index Setl = 6
index Show = 7
index Rsrc = 8
index Lead = 9
index Task = 10
index Offr = 11
index Runs = 12
index Line = 13

abbrev pub is : Tag → Tag → Bool
is t u = index t == index u

-- the number at a column, from 0
abbrev pub nth : List ℕ → ℕ → ℕ
nth ns k = slice_index ns k

-- a line that no call answers here: bytes that are not a line, or a line out of turn
abbrev pub unheard : Tag → Outcome
unheard t = cond (is Line t) (Err NotALine) (Err OutOfTurn)

-- the log's line for an answer: the tag, the number and the value
abbrev pub answered : Tag → ℕ × ℕ → Said
answered t a = (t, a.0 ∷ a.1 ∷ [])

-- both numbers of an answer fit their columns
pub record Narrow (a : ℕ × ℕ) : Type 0 where
  pub number : a.0 ≤ largest
  pub value : a.1 ≤ largest

-- the bytes of a line, and of lines one after another
abbrev pub line_spelled : Said → List ℕ
line_spelled a = spelling a.0 a.1

abbrev pub spelled : List Said → List ℕ
spelled [] = []
spelled (a ∷ more) = line_spelled a ++ spelled more
