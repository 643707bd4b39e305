-- An input as lines: its pieces, each up to its line feed, and what each says.
use Rattle.std.specs.Prelude.{◌≡◌, ℕ, ◌+◌, ◌<◌, cond, List, [], ◌∷◌, ◌++◌, map, length, ◌==◌, ◌≢◌, slice_index, slice_index_or}
use Rattle.lines.specs.Spelling.{feed}
use Rattle.lines.specs.Reading.{line_of, heard, ahead}
use Rattle.lines.specs.declared.reader.LineReader.{LineReader}
use Rattle.logs.specs.Answers.{Said}

-- the bytes as pieces, each up to its line feed and with it; the last may have none
abbrev pub onto : ℕ → List (List ℕ) → List (List ℕ)
onto b [] = (b ∷ []) ∷ []
onto b (p ∷ ps) = (b ∷ p) ∷ ps

abbrev pub pieces : List ℕ → List (List ℕ)
pieces [] = []
pieces (b ∷ bs) = cond (b == feed) ((b ∷ []) ∷ pieces bs) (onto b (pieces bs))

-- the law of that cut, in which no byte is lost

abbrev pub joined : List (List ℕ) → List ℕ
joined [] = []
joined (p ∷ ps) = p ++ joined ps

abbrev pub piece_at : List (List ℕ) → ℕ → List ℕ
piece_at ps k = slice_index_or ps k []

-- a piece is not empty, and a line feed stands in it only as its last byte
pub record Piece (p : List ℕ) : Type 0 where
  pub some_byte : 0 < length p
  pub feed_last : (i : ℕ) → i + 1 < length p → slice_index p i ≢ feed

abbrev pub EndsInFeed : List ℕ → Type 0
EndsInFeed p = (i : ℕ) → i + 1 ≡ length p → slice_index p i ≡ feed

-- one after another the pieces are the bytes, and every piece but the last ends with a line feed
pub record Splits (bs : List ℕ) (ps : List (List ℕ)) : Type 0 where
  pub whole : joined ps ≡ bs
  pub each : (k : ℕ) → k < length ps → Piece (piece_at ps k)
  pub ends : (k : ℕ) → k + 1 < length ps → EndsInFeed (piece_at ps k)

-- what each piece says: its line, or LINE where it is none
abbrev pub said_by : List (List ℕ) → List Said
said_by ps = map (λ p. heard (line_of p)) ps

abbrev pub lines_in : List ℕ → List Said
lines_in bs = map (λ p. heard (line_of p)) (pieces bs)

-- the lines that a reader has ahead
abbrev pub lines_ahead : LineReader → List Said
lines_ahead r = lines_in (ahead r)
