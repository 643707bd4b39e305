-- What reading answers, and where it leaves the place.
use Rattle.std.specs.Prelude.{◌≡◌, ℕ, zero, suc, ◌+◌, ◌-◌, ◌*◌, ◌/◌, cond, ◌&&◌, List, [], ◌∷◌, length, take, drop, Some, None, Option, find, fold, ◌==◌, ◌≢◌, Ok, Err}
use Rattle.std.specs.Str.{bytes_eq}
use Rattle.systems.specs.Outcomes.{Outcome, answer_of}
use Rattle.systems.specs.declared.outcome.Refusal.TheVariants.{NotALine}
use Rattle.lines.specs.Spelling.{letters, spelling, counts, small, tag_length, width, feed, zero_digit, Begins}
use Rattle.lines.specs.declared.reader.LineReader.{LineReader}
use Rattle.lines.specs.declared.tag.Tag.{Tag}
use Rattle.lines.specs.declared.tag.Tag.TheVariants.{Plnt, Chrt, Inpt, Fixd, Verd, Step, Setl, Show, Rsrc, Lead, Task, Offr, Runs, Line}

-- what stands for bytes that are not a line
abbrev pub no_line : Tag × List ℕ
no_line = (Line, [])

-- all bytes of a reader, and those from its place on
abbrev pub input_of : LineReader → List ℕ
input_of r = r.input.now

abbrev pub ahead : LineReader → List ℕ
ahead r = drop r.place (input_of r)

-- a line is accepted exactly when the bytes ahead begin with its spelling, and only then does the place move, past that line
pub record Reads (before after : LineReader) (answer : ℕ × ℕ) (t : Tag) (ns : List ℕ) : Type 0 where
  pub same_input : input_of after ≡ input_of before
  pub accepted : answer.0 ≡ 0 → Begins (ahead before) t ns
  pub complete : (u : Tag) (ms : List ℕ) → Begins (ahead before) u ms → (answer.0 ≡ 0) × (t ≡ u) × (ns ≡ ms)
  pub passed : answer.0 ≡ 0 → (answer ≡ answer_of (Ok after.place)) × (after.place ≡ before.place + length (spelling t ns))
  pub refused : (answer.0 ≢ 0) → (answer ≡ answer_of (Err NotALine)) × ((t, ns) ≡ no_line) × (after.place ≡ before.place)

-- the bytes up to the next line feed and with it, or all where there is none
abbrev pub piece : List ℕ → List ℕ
piece [] = []
piece (b ∷ bs) = cond (b == feed) (b ∷ []) (b ∷ piece bs)

-- the place after the next line feed, or the end
abbrev pub past_piece : LineReader → ℕ
past_piece r = r.place + length (piece (ahead r))

-- all tags
abbrev pub tags : List Tag
tags = Plnt ∷ Chrt ∷ Inpt ∷ Fixd ∷ Verd ∷ Step ∷ Setl ∷ Show ∷ Rsrc ∷ Lead ∷ Task ∷ Offr ∷ Runs ∷ Line ∷ []

-- the tag among these that has the letters
abbrev pub tag_of : List ℕ → List Tag → Option Tag
tag_of bs ts = find (λ t. bytes_eq bs (letters t)) ts

-- what bytes are worth as digits; a space is worth nothing
abbrev pub worth : List ℕ → ℕ
worth bs = fold (λ n b. n * 10 + (b - zero_digit)) 0 bs

-- what each of so many columns is worth
abbrev pub worths : ℕ → List ℕ → List ℕ
worths zero bs = []
worths (suc k) bs = worth (take width bs) ∷ worths k (drop width bs)

abbrev pub if_spelled : List ℕ → Tag → List ℕ → Option (Tag × List ℕ)
if_spelled p t ns = cond (counts t (length ns) && (small ns && bytes_eq p (spelling t ns))) (Some (t, ns)) None

abbrev pub line_tagged : List ℕ → Option Tag → Option (Tag × List ℕ)
line_tagged p None = None
line_tagged p (Some t) = if_spelled p t (worths ((length p - tag_length) / width) (drop tag_length p))

-- the line that a piece is, if it is one: what its bytes are worth, provided that they are its spelling
unfoldable pub line_of : List ℕ → Option (Tag × List ℕ)
line_of p = line_tagged p (tag_of (take tag_length p) tags)

-- what is heard of a piece, and the outcome where the piece ends at a place
abbrev pub heard : Option (Tag × List ℕ) → Tag × List ℕ
heard None = no_line
heard (Some x) = x

abbrev pub hearing : Option (Tag × List ℕ) → ℕ → Outcome
hearing None end = Err NotALine
hearing (Some x) end = Ok end

-- the line of the first piece is the line with which the bytes begin, if they begin with one
abbrev pub LineExact : Type 0
LineExact = (bs : List ℕ) (t : Tag) (ns : List ℕ) → (line_of (piece bs) ≡ Some (t, ns) → Begins bs t ns) × (Begins bs t ns → line_of (piece bs) ≡ Some (t, ns))

-- the next piece is passed, and the answer says whether it is a line and which
pub record Hears (before after : LineReader) (answer : ℕ × ℕ) (line : Tag × List ℕ) : Type 0 where
  pub same_input : input_of after ≡ input_of before
  pub passed : after.place ≡ past_piece before
  pub answered : answer ≡ answer_of (hearing (line_of (piece (ahead before))) (past_piece before))
  pub said_so : line ≡ heard (line_of (piece (ahead before)))
