-- The spelling of a line, taken apart from the front: it is the spelling of no other line.
use Rattle.std.proofs.Common.{◌≡◌, ℕ, ◌+◌, ◌*◌, ◌/◌, true, leb, List, [], ◌∷◌, ◌++◌, length, take, drop, Some, sym, refl, ap, ◌∙◌, append_assoc, arith, length-append}
use Rattle.std.proofs.lemmas.List.{take_at, drop_at}
use Rattle.std.proofs.lemmas.Bool.{and_parts, leb-true}
use Rattle.std.proofs.lemmas.Bool.Decides.{nat_tests}
use Rattle.lines.specs.Spelling.{letters, digit_or_space, column, columns, small, spelling, tag_length, width, largest, feed, OneSpelling}
use Rattle.lines.specs.Reading.{worth, tags, tag_of}
use Rattle.lines.specs.declared.tag.Tag.{Tag}
use Rattle.lines.proofs.Columns.{worth_column, length_columns}

pub length_letters : (t : Tag) → length (letters t) ≡ tag_length
length_letters t = grind arith

pub length_spelling : (t : Tag) (ns : List ℕ) → length (spelling t ns) ≡ tag_length + width * length ns + 1
length_spelling t ns =
    omega (arith, length-append (letters t) (columns ns ++ feed ∷ []), length-append (columns ns) (feed ∷ []), length_letters t, length_columns ns)

-- a line, and what follows it
pub spelling_then : (t : Tag) (ns rest : List ℕ) → spelling t ns ++ rest ≡ letters t ++ (columns ns ++ (feed ∷ rest))
spelling_then t ns rest = append_assoc (letters t) (columns ns ++ feed ∷ []) rest ∙ ap (λ x. letters t ++ x) (append_assoc (columns ns) (feed ∷ []) rest)

-- no two tags have the same letters
pub tag_again : (t : Tag) → tag_of (letters t) tags ≡ Some t
tag_again t = grind arith

pub same_tag : (t u : Tag) (xs ys : List ℕ) → letters t ++ xs ≡ letters u ++ ys → t ≡ u
same_tag t u xs ys e =
    let q : letters t ≡ letters u = sym (take_at (letters t) xs tag_length (length_letters t)) ∙ ap (take tag_length) e ∙ take_at (letters u) ys tag_length (length_letters u) in
    let s : Some t ≡ Some u = sym (tag_again t) ∙ ap (λ x. tag_of x tags) q ∙ tag_again u in
    cc

-- what follows the letters
pub same_after : (t u : Tag) (xs ys : List ℕ) → letters t ++ xs ≡ letters u ++ ys → xs ≡ ys
same_after t u xs ys e = sym (drop_at (letters t) xs tag_length (length_letters t)) ∙ ap (drop tag_length) e ∙ drop_at (letters u) ys tag_length (length_letters u)

-- a column does not begin with a line feed
pub not_feed : (n : ℕ) (xs ys : List ℕ) → column n ++ xs ≡ feed ∷ ys → ⊥
not_feed n xs ys e =
    let q : digit_or_space (n / 10 / 10 / 10 / 10 / 10) ≡ feed = cc in
    grind (arith, nat_tests)

-- numbers of at most six digits have columns of their own
same_numbers : (ns ms xs ys : List ℕ) → small ns ≡ true → small ms ≡ true → columns ns ++ (feed ∷ xs) ≡ columns ms ++ (feed ∷ ys) → ns ≡ ms
same_numbers [] [] xs ys a b e = refl
same_numbers [] (m ∷ ms) xs ys a b e = absurd (not_feed m (columns ms ++ (feed ∷ ys)) xs (sym e))
same_numbers (n ∷ ns) [] xs ys a b e = absurd (not_feed n (columns ns ++ (feed ∷ xs)) ys e)
same_numbers (n ∷ ns) (m ∷ ms) xs ys a b e =
    let p = and_parts (leb n largest) (small ns) a in
    let q = and_parts (leb m largest) (small ms) b in
    let c : column n ≡ column m = ap (take width) e in
    let d : columns ns ++ (feed ∷ xs) ≡ columns ms ++ (feed ∷ ys) = ap (drop width) e in
    let h : n ≡ m = sym (worth_column n (leb-true n largest p.0)) ∙ ap worth c ∙ worth_column m (leb-true m largest q.0) in
    let t : ns ≡ ms = same_numbers ns ms xs ys p.1 q.1 d in
    cc

-- bytes begin with the spelling of one tag and one list of such numbers, however many
pub same_line : (bs : List ℕ) (t u : Tag) (ns ms xs ys : List ℕ) → small ns ≡ true → small ms ≡ true → bs ≡ spelling t ns ++ xs → bs ≡ spelling u ms ++ ys → (t ≡ u) × (ns ≡ ms)
same_line bs t u ns ms xs ys a b p q =
    let e : letters t ++ (columns ns ++ (feed ∷ xs)) ≡ letters u ++ (columns ms ++ (feed ∷ ys)) =
    sym (spelling_then t ns xs) ∙ sym p ∙ q ∙ spelling_then u ms ys in
    (same_tag t u _ _ e, same_numbers ns ms _ _ a b (same_after t u _ _ e))

pub one_spelling : OneSpelling
one_spelling bs t u ns ms a b = same_line bs t u ns ms a.1.0 b.1.0 a.0.1 b.0.1 a.1.1 b.1.1
