-- The log of an input.
use Rattle.std.specs.Prelude.{◌≡◌, ℕ, ◌+◌, true, false, List, [], ◌∷◌, length, take, replicate, Some, None, fold, Option, ◌≢◌, slice_index_or}
use Rattle.systems.specs.Systems.{Meaning}
use Rattle.sessions.specs.declared.cell.Cell.{Cell}
use Rattle.sessions.specs.Tables.{cell}
use Rattle.plants.specs.Records.{first_state}
use Rattle.lines.specs.Spelling.{small}
use Rattle.lines.specs.Reading.{no_line}
use Rattle.lines.specs.declared.tag.Tag.{Tag}
use Rattle.lines.specs.declared.tag.Tag.TheVariants.{Verd, Runs}
use Rattle.logs.specs.declared.opening.Kind.{Kind}
use Rattle.logs.specs.Answers.{Said, spelled}
use Rattle.logs.specs.Pieces.{Splits, said_by, lines_in}
use Rattle.logs.specs.Turns.{Turn, Opening, Memory, begins, says, goes, SafeTurn, SafeTicksTurn, BadRunTurn}

-- the most bytes of an input that are read, and the places of a session
abbrev pub most_bytes : ℕ
most_bytes = 60000

abbrev pub places : ℕ
places = 256

-- the answers to lines, one after another
abbrev pub answers : Memory → Turn → List Said → List Said
answers cells turn [] = []
answers cells turn (l ∷ ls) = says turn l ∷ answers cells (goes cells turn l) ls

-- the answers to what is left once a draft has begun, or none where none has
abbrev pub answers_left : Memory → Option Kind → List Said → List Said
answers_left cells None ls = []
answers_left cells (Some k) ls = answers cells (begins (Some k)) ls

-- whose turn it is after lines
abbrev pub turn_after : Memory → Turn → List Said → Turn
turn_after cells = fold (goes cells)

-- cells as a new session on a system has them
abbrev pub new_cells : {S : Type 0} → Meaning S → List (Cell S)
new_cells m = replicate places (cell m.first false)

abbrev pub fresh : Memory
fresh = record { for_plants = replicate places (cell first_state false); for_charts = replicate places (cell 0 false) }

-- the bytes that are read of an input
abbrev pub bytes_read : List ℕ → List ℕ
bytes_read input = take most_bytes input

-- the lines that are read of an input, and their answers
abbrev pub lines_read : List ℕ → List Said
lines_read input = lines_in (take most_bytes input)

abbrev pub answers_to : List ℕ → List Said
answers_to input = answers fresh Opening (lines_read input)

-- the log is the spelling of the answers
abbrev pub log_of : List ℕ → List ℕ
log_of input = spelled (answers_to input)

-- line feeds split the bytes into pieces in one way, and the lines are what these say
pub record ReadInPieces (input : List ℕ) : Type 0 where
  pub split : List (List ℕ)
  pub splits : Splits (bytes_read input) split
  pub only : (ps : List (List ℕ)) → Splits (bytes_read input) ps → ps ≡ split
  pub lines : lines_read input ≡ said_by split

-- the line at a place, from 0, the turn that it comes in, and its answer
abbrev pub line_at : List ℕ → ℕ → Said
line_at input k = slice_index_or (lines_read input) k no_line

abbrev pub turn_at : List ℕ → ℕ → Turn
turn_at input k = turn_after fresh Opening (take k (lines_read input))

abbrev pub answer_at : List ℕ → ℕ → Said
answer_at input k = slice_index_or (answers_to input) k no_line

-- where an answer accepts a verdict, the plant or chart that the lines before it entered is safe
abbrev pub ClosedIsSafe : List ℕ → Type 0
ClosedIsSafe input = (k n : ℕ) → slice_index_or (answers_to input) k no_line ≡ (Verd, 0 ∷ n ∷ []) → SafeTurn (turn_after fresh Opening (take k (lines_read input)))

-- there no chain of ticks of the plant, if the lines entered one, ends in a state with a late task
abbrev pub ClosedIsNeverLate : List ℕ → Type 0
ClosedIsNeverLate input = (k n : ℕ) → answer_at input k ≡ (Verd, 0 ∷ n ∷ []) → SafeTicksTurn (turn_at input k)

-- a line asks with RUNS about n choices, and they are a bad run of what the lines before it entered
pub record BadRunLine (turn : Turn) (line : Said) (n : ℕ) : Type 0 where
  pub choices : List ℕ
  pub asked : line ≡ (Runs, choices)
  pub count : length choices ≡ n
  pub bad_run : BadRunTurn turn choices

-- exactly such a line is accepted as a bad run, with how many choices it has
pub record JudgesRuns (input : List ℕ) : Type 0 where
  pub accepted_bad : (k n : ℕ) → answer_at input k ≡ (Runs, 0 ∷ n ∷ []) → BadRunLine (turn_at input k) (line_at input k) n
  pub bad_accepted : (k n : ℕ) → BadRunLine (turn_at input k) (line_at input k) n → answer_at input k ≡ (Runs, 0 ∷ n ∷ [])

-- where the number of an answer is not 0, the line changes nothing: the turn, with its draft or table, stays
abbrev pub RefusedStays : List ℕ → Type 0
RefusedStays input = (k n v : ℕ) (t : Tag) → answer_at input k ≡ (t, n ∷ v ∷ []) → (n ≢ 0) → turn_at input (k + 1) ≡ turn_at input k

-- every line has an answer, and every number of the log fits its column
abbrev pub AllSmall : List Said → Type 0
AllSmall [] = Unit {0}
AllSmall (a ∷ more) = (small a.1 ≡ true) × AllSmall more

pub record Complete (input : List ℕ) : Type 0 where
  pub every_line : length (answers_to input) ≡ length (lines_read input)
  pub every_column : AllSmall (answers_to input)

-- the answers are the same whatever the cells of the session held before
abbrev pub AnyMemory : List ℕ → Type 0
AnyMemory input = (cells : Memory) → length cells.for_plants ≡ places → length cells.for_charts ≡ places → answers cells Opening (lines_read input) ≡ answers_to input
