-- Pieces up to a line feed, and the lines that they are.
use Rattle.std.proofs.Common.{◌≡◌, ℕ, ◌+◌, ◌-◌, ◌/◌, ◌<◌, Bool, true, false, cond, ◌&&◌, eqb, leb, List, [], ◌∷◌, ◌++◌, length, take, drop, Some, None, Option, sym, refl, ap, ◌∙◌, subst, arith, min, not, ltb, is_some, length-append}
use Rattle.std.proofs.lemmas.List.{take_at, drop_at}
use Rattle.std.proofs.lemmas.Option.{cond_some, none-some}
use Rattle.std.specs.List.{position, position_or_len}
use Rattle.std.specs.Bool.{◌==◌}
use Rattle.std.proofs.lemmas.Bool.{and_parts, and_from, leb-true, cond-true, cond-false, cond_both, ltb-true, ltb-false, ne_eqb}
use Rattle.std.proofs.lemmas.Bool.Decides.{nat_tests}
use Rattle.std.proofs.lemmas.Slice.Eq.{bytes_eq-Decides}
use Rattle.std.specs.Str.{bytes_eq}
use Rattle.lines.specs.Spelling.{letters, digit_or_space, column, columns, small, counts, spelling, tag_length, width, largest, feed, Allowed, Begins}
use Rattle.systems.specs.Outcomes.{answer_of}
use Rattle.lines.specs.Parts.{LineFirst}
use Rattle.lines.specs.Reading.{input_of, ahead, Reads, piece, past_piece, tags, tag_of, worth, worths, if_spelled, line_tagged, line_of, heard, hearing, LineExact}
use Rattle.lines.specs.declared.reader.LineReader.{LineReader}
use Rattle.lines.specs.declared.tag.Tag.{Tag}
use Rattle.lines.proofs.Columns.{worth_column}
use Rattle.lines.proofs.Lines.{length_letters, length_spelling, spelling_then, tag_again, one_spelling}

-- the first piece ends with the first line feed, or with the bytes
piece_more : (found : Bool) (b : ℕ) (bs rest : List ℕ) (at : ℕ) → length rest ≡ min (at + 1) (length bs) → length (cond found (b ∷ []) (b ∷ rest)) ≡ min (cond (not found) (1 + at) 0 + 1) (length (b ∷ bs))
piece_more found b bs rest at h = grind (arith, h)

length_piece : (bs : List ℕ) → length (piece bs) ≡ min (position_or_len (λ b. b == feed) bs + 1) (length bs)
length_piece [] = refl
length_piece (b ∷ bs) = piece_more (eqb b feed) b bs (piece bs) (position_or_len (λ x. x == feed) bs) (length_piece bs)

pub piece_to_feed : (bs : List ℕ) (at : ℕ) → position (λ b. b == feed) bs ≡ Some at → (length (piece bs) ≡ at + 1) × (at < length bs)
piece_to_feed bs at e =
    let q = cond_some (ltb (position_or_len (λ b. b == feed) bs) (length bs)) (position_or_len (λ b. b == feed) bs) at e in
    let lt = ltb-true _ _ q.0 in
    (omega (arith, lt, q.1, length_piece bs), omega (arith, lt, q.1))

pub piece_whole : (bs : List ℕ) → position (λ b. b == feed) bs ≡ None → length (piece bs) ≡ length bs
piece_whole bs e =
    let at = position_or_len (λ b. b == feed) bs in
    cond_both (ltb at (length bs)) (Some at) None (λ o. o ≡ None → length (piece bs) ≡ length bs)
    (λ _ n. absurd (none-some at (sym n)))
    (λ ge _. omega (arith, ltb-false at (length bs) ge, length_piece bs)) e

-- bytes are their first piece and the rest
piece_rest : (bs : List ℕ) → bs ≡ piece bs ++ drop (length (piece bs)) bs
piece_rest [] = refl
piece_rest (b ∷ bs) = cond_both (eqb b feed) (b ∷ []) (b ∷ piece bs) (λ p. b ∷ bs ≡ p ++ drop (length p) (b ∷ bs)) (λ _. refl) (λ _. ap (λ x. b ∷ x) (piece_rest bs))

-- bytes with no line feed among them
abbrev Quiet : List ℕ → Type 0
Quiet [] = Unit {0}
Quiet (b ∷ bs) = (eqb b feed ≡ false) × Quiet bs

past_quiet : (ps xs : List ℕ) → Quiet ps → piece (ps ++ xs) ≡ ps ++ piece xs
past_quiet [] xs h = refl
past_quiet (b ∷ ps) xs h = cond-false (eqb b feed) (b ∷ []) (b ∷ piece (ps ++ xs)) h.0 ∙ ap (λ y. b ∷ y) (past_quiet ps xs h.1)

quiet_place : (n : ℕ) → eqb (digit_or_space n) feed ≡ false
quiet_place n = ne_eqb (digit_or_space n) feed (λ e. grind (arith, nat_tests))

quiet_digit : (n : ℕ) → eqb (48 + n) feed ≡ false
quiet_digit n = ne_eqb (48 + n) feed (λ e. omega arith)

past_columns : (ns xs : List ℕ) → piece (columns ns ++ xs) ≡ columns ns ++ piece xs
past_columns [] xs = refl
past_columns (n ∷ ns) xs =
    past_quiet (column n) (columns ns ++ xs) (quiet_place _, (quiet_place _, (quiet_place _, (quiet_place _, (quiet_place _, (quiet_digit _, tt))))))
    ∙ ap (λ y. column n ++ y) (past_columns ns xs)

past_letters : (t : Tag) (xs : List ℕ) → piece (letters t ++ xs) ≡ letters t ++ piece xs
past_letters t xs = grind arith

-- a line is the first piece of the bytes that begin with it
piece_line : (bs : List ℕ) (t : Tag) (ns : List ℕ) → Begins bs t ns → piece bs ≡ spelling t ns
piece_line bs t ns b =
    ap piece (b.1.1 ∙ spelling_then t ns b.1.0) ∙ past_letters t (columns ns ++ (feed ∷ b.1.0))
    ∙ ap (λ y. letters t ++ y) (past_columns ns (feed ∷ b.1.0))

worths_columns : (ns xs : List ℕ) → small ns ≡ true → worths (length ns) (columns ns ++ xs) ≡ ns
worths_columns [] xs h = refl
worths_columns (n ∷ ns) xs h =
    let p = and_parts (leb n largest) (small ns) h in
    let a : worth (column n) ≡ n = worth_column n (leb-true n largest p.0) in
    let b = worths_columns ns xs p.1 in
    cc

-- the spelling of a line is that line
spelling_line : (t : Tag) (ns : List ℕ) → Allowed t ns → line_of (spelling t ns) ≡ Some (t, ns)
unfolding line_of
spelling_line t ns f =
    let a : tag_of (take tag_length (spelling t ns)) tags ≡ Some t = ap (λ x. tag_of x tags) (take_at (letters t) (columns ns ++ feed ∷ []) tag_length (length_letters t)) ∙ tag_again t in
    let k : (length (spelling t ns) - tag_length) / width ≡ length ns = omega (arith, length_spelling t ns) in
    let w : worths ((length (spelling t ns) - tag_length) / width) (drop tag_length (spelling t ns)) ≡ ns =
    ap (λ j. worths j (drop tag_length (spelling t ns))) k ∙ ap (worths (length ns)) (drop_at (letters t) (columns ns ++ feed ∷ []) tag_length (length_letters t)) ∙ worths_columns ns (feed ∷ []) f.1 in
    ap (line_tagged (spelling t ns)) a ∙ ap (if_spelled (spelling t ns) t) w
    ∙ cond-true (counts t (length ns) && (small ns && bytes_eq (spelling t ns) (spelling t ns))) (Some (t, ns)) None (and_from _ _ f.0 (and_from _ _ f.1 ((bytes_eq-Decides (spelling t ns) (spelling t ns)).1 refl)))

-- a piece that is a line is its spelling
abbrev Spelled : List ℕ → Option (Tag × List ℕ) → Type 0
Spelled p None = Unit {0}
Spelled p (Some x) = Allowed x.0 x.1 × (p ≡ spelling x.0 x.1)

spelled_tagged : (p : List ℕ) (o : Option Tag) → Spelled p (line_tagged p o)
spelled_tagged p None = tt
spelled_tagged p (Some t) =
    let ns = worths ((length p - tag_length) / width) (drop tag_length p) in
    cond_both (counts t (length ns) && (small ns && bytes_eq p (spelling t ns))) (Some (t, ns)) None (Spelled p)
    (λ e. let a = and_parts (counts t (length ns)) (small ns && bytes_eq p (spelling t ns)) e in
    let b = and_parts (small ns) (bytes_eq p (spelling t ns)) a.1 in
    ((a.0, b.0), (bytes_eq-Decides p (spelling t ns)).0 b.1))
    (λ _. tt)

line_spelled : (p : List ℕ) → Spelled p (line_of p)
unfolding line_of
line_spelled p = spelled_tagged p (tag_of (take tag_length p) tags)

line_begins : (bs : List ℕ) (t : Tag) (ns : List ℕ) → line_of (piece bs) ≡ Some (t, ns) → Begins bs t ns
line_begins bs t ns e =
    let s = subst (Spelled (piece bs)) e (line_spelled (piece bs)) in
    let rest = drop (length (piece bs)) bs in
    (s.0, (rest, piece_rest bs ∙ ap (λ x. x ++ rest) s.1))

-- the first piece is the line with which the bytes begin, or none
line_some : (bs : List ℕ) (t : Tag) (ns : List ℕ) → Begins bs t ns → line_of (piece bs) ≡ Some (t, ns)
line_some bs t ns b = ap line_of (piece_line bs t ns b) ∙ spelling_line t ns b.0

none_but : (o : Option (Tag × List ℕ)) → ((t : Tag) (ns : List ℕ) → o ≡ Some (t, ns) → ⊥) → o ≡ None
none_but None h = refl
none_but (Some x) h = absurd (h x.0 x.1 refl)

pub line_none : (bs : List ℕ) → ((t : Tag) (ns : List ℕ) → Begins bs t ns → ⊥) → line_of (piece bs) ≡ None
line_none bs h = none_but (line_of (piece bs)) (λ t ns e. h t ns (line_begins bs t ns e))

pub line_exact : LineExact
line_exact bs t ns = (line_begins bs t ns, line_some bs t ns)

-- what is read at the front of the bytes ahead, and where it ends
pub piece_first : (bs rest : List ℕ) (line : Tag × List ℕ) → LineFirst bs line.0 line.1 rest → (line_of (piece bs) ≡ Some line) × (length (piece bs) + length rest ≡ length bs)
piece_first bs rest line f =
    let b : Begins bs line.0 line.1 = (f.0, (rest, f.1)) in
    (line_some bs line.0 line.1 b, omega (arith, ap length (piece_line bs line.0 line.1 b), ap length f.1, length-append (spelling line.0 line.1) rest))

-- a reader that accepts the line of the next piece, or none
pub reads : (before after : LineReader) (answer : ℕ × ℕ) (line : Tag × List ℕ) (o : Option (Tag × List ℕ)) → input_of after ≡ input_of before → o ≡ line_of (piece (ahead before)) → after.place ≡ cond (is_some o) (past_piece before) before.place → answer ≡ answer_of (hearing o after.place) → line ≡ heard o → Reads before after answer line.0 line.1
reads before after answer line None i e p a h = record {
  same_input = i;
  accepted = λ z. absurd (omega (arith, ap (λ (r : ℕ × ℕ). r.0) a));
  complete = λ u ms b. absurd (none-some (u, ms) (e ∙ line_some (ahead before) u ms b));
  passed = λ z. absurd (omega (arith, ap (λ (r : ℕ × ℕ). r.0) a));
  refused = λ _. (a, h, p);
}
reads before after answer line (Some x) i e p a h =
    let b : Begins (ahead before) line.0 line.1 = line_begins (ahead before) line.0 line.1 (sym e ∙ ap Some (sym h)) in
    record {
      same_input = i;
      accepted = λ _. b;
      complete = λ u ms c. let o = one_spelling (ahead before) line.0 u line.1 ms b c in (ap (λ (r : ℕ × ℕ). r.0) a, o.0, o.1);
      passed = λ _. (a, p ∙ ap (λ q. before.place + length q) (piece_line (ahead before) line.0 line.1 b));
      refused = λ z. absurd (z (ap (λ (r : ℕ × ℕ). r.0) a));
    }
