-- How a line is spelled: the letters of a tag, its numbers in columns, and a line feed.
use Rattle.std.specs.Prelude.{◌≡◌, ℕ, zero, suc, ◌+◌, ◌-◌, ◌*◌, ◌/◌, ◌%◌, Bool, true, false, cond, List, [], ◌∷◌, ◌++◌, length, codes, ◌==◌, nat_le}
use Rattle.std.specs.List.{flat_map, list_all}
use Rattle.lines.specs.declared.tag.Tag.{Tag}
use Rattle.lines.specs.declared.tag.Tag.TheVariants.{Plnt, Chrt, Inpt, Fixd, Verd, Step, Setl, Show, Rsrc, Lead, Task, Offr, Runs, Line}

-- the letters of a tag, the places of a column, the largest number that they hold, and the most numbers of a line
abbrev pub tag_length : ℕ
tag_length = 4

abbrev pub width : ℕ
width = 6

abbrev pub largest : ℕ
largest = 999999

abbrev pub most : ℕ
most = 32

-- the bytes of the longest line: a tag, the most columns, and a line feed
abbrev pub longest : ℕ
longest = tag_length + width * most + 1

-- bytes: line feed, space, and the digit zero
abbrev pub feed : ℕ
feed = 10

abbrev pub space : ℕ
space = 32

abbrev pub zero_digit : ℕ
zero_digit = 48

abbrev pub letters : Tag → List ℕ
letters Plnt = codes "PLNT"
letters Chrt = codes "CHRT"
letters Inpt = codes "INPT"
letters Fixd = codes "FIXD"
letters Verd = codes "VERD"
letters Step = codes "STEP"
letters Setl = codes "SETL"
letters Show = codes "SHOW"
letters Rsrc = codes "RSRC"
letters Lead = codes "LEAD"
letters Task = codes "TASK"
letters Offr = codes "OFFR"
letters Runs = codes "RUNS"
letters Line = codes "LINE"

-- how many numbers a tag allows; no line that is read has the tag LINE
abbrev pub counts : Tag → ℕ → Bool
counts Plnt n = n == 0
counts Chrt n = n == 0
counts Inpt n = n == 0
counts Fixd n = n == 0
counts Verd n = n == 0
counts Step n = n == 1
counts Setl n = n == 1
counts Show n = n == 1
counts Rsrc n = n == 2
counts Lead n = n == 3
counts Task n = n == 9
counts Offr n = nat_le n most
counts Runs n = nat_le n most
counts Line n = false

-- the last digit of a number
abbrev pub digit : ℕ → ℕ
digit n = zero_digit + n % 10

-- the same, but a space where nothing is left of the number
abbrev pub digit_or_space : ℕ → ℕ
digit_or_space n = cond (n == 0) space (digit n)

-- what is left of a number, right-justified in so many places
abbrev pub justified : ℕ → ℕ → List ℕ
justified zero n = []
justified (suc places) n = justified places (n / 10) ++ digit_or_space n ∷ []

-- a number in a column, right-justified: spaces before, no leading zero, and at least one digit
abbrev pub column : ℕ → List ℕ
column n = justified (width - 1) (n / 10) ++ digit n ∷ []

abbrev pub columns : List ℕ → List ℕ
columns ns = flat_map column ns

abbrev pub spelling : Tag → List ℕ → List ℕ
spelling t ns = letters t ++ (columns ns ++ feed ∷ [])

-- no number is above the largest
abbrev pub small : List ℕ → Bool
small ns = list_all (λ n. nat_le n largest) ns

-- numbers that a tag allows
abbrev pub Allowed : Tag → List ℕ → Type 0
Allowed t ns = (counts t (length ns) ≡ true) × (small ns ≡ true)

-- the bytes begin with the line of a tag and of numbers that it allows
abbrev pub Begins : List ℕ → Tag → List ℕ → Type 0
Begins bs t ns = Allowed t ns × ((rest : List ℕ) × (bs ≡ spelling t ns ++ rest))

-- bytes begin with the spelling of one line at most
abbrev pub OneSpelling : Type 0
OneSpelling = (bs : List ℕ) (t u : Tag) (ns ms : List ℕ) → Begins bs t ns → Begins bs u ms → (t ≡ u) × (ns ≡ ms)
