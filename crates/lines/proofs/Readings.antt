-- A line is found part by part, or its bytes are no line.
use Rattle.std.proofs.Common.{◌≡◌, ℕ, ◌+◌, ◌≤◌, true, leb, List, [], ◌∷◌, ◌++◌, length, take, drop, Some, sym, refl, subst, ap, ◌∙◌, append_assoc, arith, length-drop}
use Rattle.std.proofs.lemmas.List.{take-append-drop}
use Rattle.std.proofs.lemmas.Bool.{and_parts, and_from, leb-true, le-leb}
use Rattle.std.proofs.lemmas.Bool.Decides.{nat_tests}
use Rattle.std.proofs.lemmas.List.Folds.{list_all-append}
use Rattle.std.proofs.lemmas.Slice.Eq.{bytes_eq-Decides}
use Rattle.lines.specs.Spelling.{letters, column, columns, small, counts, largest, most, feed, Allowed, Begins}
use Rattle.lines.specs.Parts.{TagFirst, ColumnFirst, NumbersFirst, LineFirst}
use Rattle.lines.specs.Reading.{tags, tag_of}
use Rattle.lines.specs.declared.tag.Tag.{Tag}
use Rattle.lines.proofs.Columns.{columns_push}
use Rattle.lines.proofs.Lines.{not_feed, spelling_then, same_tag, same_after}

-- bytes that begin with a part are that part and the rest
pub front_then : (k : ℕ) (bs first rest part : List ℕ) → first ≡ take k bs → rest ≡ drop k bs → first ≡ part → bs ≡ part ++ rest
front_then k bs first rest part f r e = sym (take-append-drop k bs) ∙ ap (λ x. x ++ drop k bs) (sym f ∙ e) ∙ ap (λ x. part ++ x) (sym r)

-- the tag that is found has the letters
pub tag_found : (name : List ℕ) (t : Tag) → tag_of name tags ≡ Some t → name ≡ letters t
tag_found name t e = grind (arith, bytes_eq-Decides)

-- the numbers: what columns have in common with a line's goes on as that line does
peel : (ns ms bs rest : List ℕ) → columns ns ++ bs ≡ columns ms ++ (feed ∷ rest) → (length ns ≤ length ms) × (bs ≡ columns (drop (length ns) ms) ++ (feed ∷ rest))
peel [] ms bs rest e = (omega arith, e)
peel (n ∷ ns) [] bs rest e = absurd (not_feed n (columns ns ++ bs) rest e)
peel (n ∷ ns) (m ∷ ms) bs rest e =
    let q : columns ns ++ bs ≡ columns ms ++ (feed ∷ rest) = cc in
    let r = peel ns ms bs rest q in
    (omega (arith, r.0), r.1)

small_drop : (k : ℕ) (ns : List ℕ) → small ns ≡ true → small (drop k ns) ≡ true
small_drop k ns h = (and_parts (small (take k ns)) (small (drop k ns)) (sym (list_all-append _ (take k ns) (drop k ns)) ∙ ap small (take-append-drop k ns) ∙ h)).1

-- no tag allows more than the most
pub counts_few : (t : Tag) (n : ℕ) → counts t n ≡ true → n ≤ most
counts_few t n h = grind (arith, nat_tests)

-- so many columns were read, and the bytes go on with these numbers and a line feed
pub GoesOn : Tag → ℕ → List ℕ → List ℕ → List ℕ → Type 0
GoesOn t k bs ns rest = (counts t (k + length ns) ≡ true) × (small ns ≡ true) × (bs ≡ columns ns ++ (feed ∷ rest))

-- where the bytes after the columns read go on with no numbers, there is no line
pub not_line : (t : Tag) (all ns bs : List ℕ) → all ≡ columns ns ++ bs → ((zs rest : List ℕ) → GoesOn t (length ns) bs zs rest → ⊥) → (ms rest : List ℕ) → NumbersFirst all t ms rest → ⊥
unfolding GoesOn
not_line t all ns bs e h ms rest f =
    let p = peel ns ms bs rest (sym e ∙ f.1) in
    let l : length ns + length (drop (length ns) ms) ≡ length ms = omega (arith, length-drop (length ns) ms, p.0) in
    h (drop (length ns) ms) rest (ap (counts t) l ∙ f.0.0, small_drop (length ns) ms f.0.1, p.1)

-- a line feed begins no column
pub not_column : (bs rest : List ℕ) → bs ≡ feed ∷ rest → (n : ℕ) (left : List ℕ) → ColumnFirst bs n left → ⊥
not_column bs rest e n left f = not_feed n left rest (sym f.1 ∙ e)

-- the ways in which bytes do not go on: with a column after the most numbers, or with neither a column nor a line feed that the count allows
module _ (t : Tag) (k : ℕ) (bs : List ℕ) where
  pub stop_full : (n : ℕ) (left : List ℕ) → bs ≡ column n ++ left → k ≡ most → (zs rest : List ℕ) → GoesOn t k bs zs rest → ⊥
  unfolding GoesOn
  stop_full n left e f [] rest y = not_feed n left rest (sym e ∙ y.2)
  stop_full n left e f (z ∷ zs) rest y = omega (arith, counts_few t _ y.0)

  pub stop_column : ((n : ℕ) (rest : List ℕ) → ColumnFirst bs n rest → ⊥) → ((rest : List ℕ) → bs ≡ feed ∷ rest → counts t k ≡ true → ⊥) → (zs rest : List ℕ) → GoesOn t k bs zs rest → ⊥
  unfolding GoesOn
  stop_column g h [] rest y =
      let e : k + 0 ≡ k = omega arith in
      h rest y.2 (ap (counts t) (sym e) ∙ y.0)
  stop_column g h (z ∷ zs) rest y =
      g z (columns zs ++ (feed ∷ rest)) (leb-true z largest (and_parts (leb z largest) (small zs) y.1).0, y.2)

-- the whole line: there is none with no tag or no numbers after the tag, and one with both
pub no_tag : (bs : List ℕ) → ((t : Tag) (rest : List ℕ) → TagFirst bs t rest → ⊥) → (u : Tag) (ms : List ℕ) → Begins bs u ms → ⊥
no_tag bs h u ms b = h u (columns ms ++ (feed ∷ b.1.0)) (b.1.1 ∙ spelling_then u ms b.1.0)

pub no_numbers : (bs mid : List ℕ) (t : Tag) → TagFirst bs t mid → ((ns rest : List ℕ) → NumbersFirst mid t ns rest → ⊥) → (u : Tag) (ms : List ℕ) → Begins bs u ms → ⊥
no_numbers bs mid t e h u ms b =
    let q : letters t ++ mid ≡ letters u ++ (columns ms ++ (feed ∷ b.1.0)) = sym e ∙ b.1.1 ∙ spelling_then u ms b.1.0 in
    h ms b.1.0 (subst (λ v. Allowed v ms) (sym (same_tag t u _ _ q)) b.0, same_after t u _ _ q)

pub both_parts : (bs mid rest : List ℕ) (t u : Tag) (ns : List ℕ) → TagFirst bs t mid → u ≡ t → NumbersFirst mid t ns rest → LineFirst bs u ns rest
both_parts bs mid rest t u ns e s n =
    subst (λ v. LineFirst bs v ns rest) (sym s) (n.0, e ∙ ap (λ x. letters t ++ x) n.1 ∙ sym (spelling_then t ns rest))
