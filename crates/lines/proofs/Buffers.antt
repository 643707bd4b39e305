-- Bytes written one after another from the front of a buffer, until they spell a line.
use Rattle.std.proofs.Common.{◌≡◌, ℕ, ◌+◌, ◌*◌, ◌<◌, ◌≤◌, true, cond, leb, List, [], ◌∷◌, ◌++◌, length, get_or, take, drop, sym, refl, ap, ◌∙◌, append_assoc, arith, length-append, Ok, Err, set, suc, length-drop}
use Rattle.std.proofs.lemmas.List.{take_at, take_all, drop_at, drop-drop, length-take-le, set_split}
use borrow.Rule.Slice.PartMut.{put_mid}
use Rattle.std.proofs.lemmas.Bool.{cond-true, cond_both, eq-eqb, le-leb}
use Rattle.systems.specs.Outcomes.{Outcome, answer_of, accepts}
use Rattle.systems.specs.declared.outcome.Refusal.TheVariants.{NumberTooLarge, BufferShort}
use Rattle.lines.specs.Spelling.{column, columns, small, spelling, letters, counts, tag_length, width, feed, Allowed, Begins}
use Rattle.lines.specs.Writing.{over, writing, written, ReadsBack}
use Rattle.lines.specs.declared.tag.Tag.{Tag}
use Rattle.lines.proofs.Columns.{columns_more, length_columns}
use Rattle.lines.proofs.Lines.{length_letters, same_line}

-- one more column is written behind those of the numbers before
pub column_written : (out ns : List ℕ) (i k : ℕ) → k ≡ width → width * i + width ≤ length out → i < length ns → take (width * i) out ≡ columns (take i ns) → take (width * (i + 1)) (put_mid (width * i) k out (column (get_or ns i 0))) ≡ columns (take (i + 1) ns)
column_written out ns i k h l lt e =
    let before = take (width * i) out in
    let col = column (get_or ns i 0) in
    let after = drop k (drop (width * i) out) in
    let n : length (before ++ col) ≡ width * (i + 1) = omega (arith, length-append before col, length-take-le (width * i) out (omega arith)) in
    ap (take (width * (i + 1))) (sym (append_assoc before col after)) ∙ take_at (before ++ col) after (width * (i + 1)) n
    ∙ ap (λ x. x ++ col) e ∙ sym (columns_more ns i lt)

pub columns_written : (out ns : List ℕ) (i : ℕ) → length out ≡ width * length ns → length ns ≤ i → take (width * i) out ≡ columns (take i ns) → out ≡ columns ns
columns_written out ns i h l e = sym (take_all (width * i) out (omega (arith, h))) ∙ e ∙ ap columns (take_all i ns l)

-- bytes written where those before them end
over_part : (p e now bs : List ℕ) (at k : ℕ) → at ≡ length p → k ≡ length bs → now ≡ over p e → put_mid at k now bs ≡ over (p ++ bs) e
over_part p e now bs at k l h w =
    let rest = drop (length p) e in
    let front : take at now ≡ p = ap (take at) w ∙ take_at p rest at (sym l) in
    let behind : drop at now ≡ rest = ap (drop at) w ∙ drop_at p rest at (sym l) in
    let n : length p + k ≡ length (p ++ bs) = omega (arith, h, length-append p bs) in
    let left : drop k (drop at now) ≡ drop (length (p ++ bs)) e = ap (drop k) behind ∙ drop-drop k (length p) e ∙ ap (λ j. drop j e) n in
    ap (λ x. x ++ (bs ++ drop k (drop at now))) front ∙ ap (λ x. p ++ (bs ++ x)) left ∙ sym (append_assoc p bs (drop (length (p ++ bs)) e))

over_byte : (p e now : List ℕ) (b at : ℕ) → at ≡ length p → at < length now → now ≡ over p e → set now at b ≡ over (p ++ b ∷ []) e
over_byte p e now b at l lt w =
    let next : suc at ≡ at + 1 = omega arith in
    set_split now at b lt ∙ ap (λ j. take at now ++ b ∷ drop j now) next ∙ ap (λ x. take at now ++ b ∷ x) (sym (drop-drop 1 at now))
    ∙ over_part p e now (b ∷ []) at 1 l refl w

-- letters, columns and line feed, one after another
pub line_over : (t : Tag) (ns e name cols : List ℕ) (k : ℕ) → name ≡ letters t → cols ≡ columns ns → k ≡ width * length ns → tag_length + width * length ns < length e → set (put_mid tag_length k (name ++ drop tag_length e) cols) (tag_length + width * length ns) feed ≡ over (spelling t ns) e
line_over t ns e name cols k n c h lt =
    let l : length name ≡ tag_length = ap length n ∙ length_letters t in
    let m : length cols ≡ width * length ns = ap length c ∙ length_columns ns in
    let both = name ++ cols in
    let w : put_mid tag_length k (name ++ drop tag_length e) cols ≡ over both e =
    over_part name e (name ++ drop tag_length e) cols tag_length k (sym l) (h ∙ sym m) (ap (λ j. name ++ drop j e) (sym l)) in
    let end : tag_length + width * length ns ≡ length both = omega (arith, l, m, length-append name cols) in
    let room : tag_length + width * length ns < length (put_mid tag_length k (name ++ drop tag_length e) cols) =
    omega (arith, lt, end, ap length w, length-append both (drop (length both) e), length-drop (length both) e) in
    let same : both ++ feed ∷ [] ≡ spelling t ns = append_assoc name cols (feed ∷ []) ∙ ap (λ x. x ++ (cols ++ feed ∷ [])) n ∙ ap (λ x. letters t ++ (x ++ feed ∷ [])) c in
    over_byte both e _ feed _ end room w ∙ ap (λ p. over p e) same

-- small numbers are written where there is room
pub writing_accepted : (t : Tag) (ns : List ℕ) (room : ℕ) → small ns ≡ true → length (spelling t ns) ≤ room → writing t ns room ≡ Ok (length (spelling t ns))
writing_accepted t ns room s h =
    let needed = length (spelling t ns) in
    cond-true (small ns) (cond (leb needed room) (Ok needed) (Err (BufferShort needed))) (Err NumberTooLarge) s
    ∙ cond-true (leb needed room) (Ok needed) (Err (BufferShort needed)) (le-leb needed room h)

-- only small numbers are written
written_small : (t : Tag) (ns : List ℕ) (room : ℕ) → (answer_of (writing t ns room)).0 ≡ 0 → small ns ≡ true
written_small t ns room =
    let needed = length (spelling t ns) in
    let P : Outcome → Type 0 = λ o. (answer_of o).0 ≡ 0 → small ns ≡ true in
    cond_both (small ns) (cond (leb needed room) (Ok needed) (Err (BufferShort needed))) (Err NumberTooLarge) P (λ s _. s) (λ _ h. absurd (omega arith))

-- an accepted writing leaves the line at the front of the buffer
module _ (t : Tag) (ns out after : List ℕ) (r : ℕ × ℕ) (a : r ≡ answer_of (writing t ns (length out))) (w : after ≡ written t ns out) (z : r.0 ≡ 0) where
  accepted_first : (answer_of (writing t ns (length out))).0 ≡ 0
  accepted_first = ap (λ (q : ℕ × ℕ). q.0) (sym a) ∙ z

  at_front : after ≡ over (spelling t ns) out
  at_front =
      let o = writing t ns (length out) in
      w ∙ cond-true (accepts o) (over (spelling t ns) out) out (eq-eqb (answer_of o).0 0 accepted_first)

  -- so the buffer begins with no other line, and with this one where the tag allows so many numbers
  pub only_written : (u : Tag) (ms : List ℕ) → Begins after u ms → (u ≡ t) × (ms ≡ ns)
  only_written u ms b =
      same_line after u t ms ns b.1.0 (drop (length (spelling t ns)) out) b.0.1 (written_small t ns (length out) accepted_first) b.1.1 at_front

  pub begins_written : counts t (length ns) ≡ true → Begins after t ns
  begins_written k = ((k, written_small t ns (length out) accepted_first), (drop (length (spelling t ns)) out, at_front))

pub reads_back : (t : Tag) (ns out after : List ℕ) (r : ℕ × ℕ) → r ≡ answer_of (writing t ns (length out)) → after ≡ written t ns out → Allowed t ns → r.0 ≡ 0 → ReadsBack t ns after
reads_back t ns out after r a w f z = record { begins = begins_written t ns out after r a w z f.0; only = only_written t ns out after r a w z }
