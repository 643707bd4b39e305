-- Columns: their lengths, and that a number's column is worth that number.
use Rattle.std.proofs.Common.{◌≡◌, ℕ, ◌+◌, ◌-◌, ◌*◌, ◌/◌, ◌%◌, ◌<◌, ◌≤◌, List, [], ◌∷◌, ◌++◌, length, get_or, take, refl, ap, ◌∙◌, arith, length-append}
use Rattle.std.proofs.lemmas.List.{take_more, append-nil}
use Rattle.std.proofs.lemmas.List.Concat.{flat_map-append}
use Rattle.std.proofs.lemmas.Bool.Decides.{nat_tests}
use Rattle.lines.specs.Spelling.{digit_or_space, column, columns, width, largest}
use Rattle.lines.specs.Reading.{worth}

digit_worth : (n : ℕ) → digit_or_space n - 48 ≡ n % 10
digit_worth n = grind (arith, nat_tests)

pub worth_column : (n : ℕ) → n ≤ largest → worth (column n) ≡ n
worth_column n h =
    let a = digit_worth (n / 10 / 10 / 10 / 10 / 10) in
    let b = digit_worth (n / 10 / 10 / 10 / 10) in
    let c = digit_worth (n / 10 / 10 / 10) in
    let d = digit_worth (n / 10 / 10) in
    let e = digit_worth (n / 10) in
    simp (a, b, c, d, e) (omega arith)

pub columns_push : (ns : List ℕ) (n : ℕ) → columns (ns ++ n ∷ []) ≡ columns ns ++ column n
columns_push ns n = flat_map-append column ns (n ∷ []) ∙ ap (λ l. columns ns ++ l) (append-nil (column n))

pub columns_more : (ns : List ℕ) (i : ℕ) → i < length ns → columns (take (i + 1) ns) ≡ columns (take i ns) ++ column (get_or ns i 0)
columns_more ns i h = ap columns (take_more ns i 0 h) ∙ columns_push (take i ns) (get_or ns i 0)

pub length_columns : (ns : List ℕ) → length (columns ns) ≡ width * length ns
length_columns [] = refl
length_columns (n ∷ ns) = omega (arith, length-append (column n) (columns ns), length_columns ns)
