-- The number and the value of every outcome.
use Rattle.std.specs.Prelude.{ℕ, Bool, ◌==◌, Result, Ok, Err}
use Rattle.systems.specs.declared.outcome.Refusal.{Refusal}
use Rattle.systems.specs.declared.outcome.Refusal.TheVariants.{NotALine, OutOfTurn, FieldOutside, NoRoom, NotEntered, GapsUnlike, Unfit, Bad, Listed, Full, NoSuchPlace, LeadsToBad, LeadsOutside, FirstNotListed, Unsettled, NotLegal, EndsNotBad, NumberTooLarge, BufferShort}

-- what a call comes to: the value that it promises, or why it refuses
abbrev pub Outcome : Type 0
Outcome = Result ℕ Refusal

-- the number of a refusal, and its value or 0
abbrev pub refused : Refusal → ℕ × ℕ
refused NotALine = (1, 0)
refused OutOfTurn = (2, 0)
refused (FieldOutside field) = (3, field)
refused NoRoom = (4, 0)
refused (NotEntered field) = (5, field)
refused (GapsUnlike task) = (6, task)
refused Unfit = (8, 0)
refused Bad = (9, 0)
refused (Listed place) = (10, place)
refused Full = (11, 0)
refused NoSuchPlace = (12, 0)
refused (LeadsToBad choice) = (13, choice)
refused (LeadsOutside choice) = (14, choice)
refused FirstNotListed = (15, 0)
refused (Unsettled place) = (16, place)
refused (NotLegal position) = (17, position)
refused (EndsNotBad length) = (18, length)
refused NumberTooLarge = (19, 0)
refused (BufferShort length) = (19, length)

-- the number and the value of an outcome
abbrev pub answer_of : Outcome → ℕ × ℕ
answer_of (Ok value) = (0, value)
answer_of (Err refusal) = refused refusal

-- number 0, and no other, is the number of an accepted call
abbrev pub accepts : Outcome → Bool
accepts o = (answer_of o).0 == 0
