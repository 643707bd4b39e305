-- The lines that a reader has ahead, taken one at a time; each has few numbers.
use Rattle.std.proofs.Common.{◌≡◌, ℕ, ◌+◌, ◌-◌, ◌/◌, ◌<◌, ◌≤◌, Bool, true, false, cond, ◌&&◌, eqb, List, [], ◌∷◌, map, length, get_or, take, drop, Some, None, Option, sym, refl, ap, ◌∙◌, subst, arith, lit≤}
use Rattle.std.proofs.lemmas.List.{drop_more, drop-drop}
use Rattle.std.proofs.lemmas.Bool.{cond_both, both_ways, and_parts}
use Rattle.lines.specs.Spelling.{feed, counts, most, tag_length, width}
use Rattle.lines.specs.Reading.{input_of, ahead, piece, line_of, line_tagged, if_spelled, worths, tag_of, tags, heard, Hears}
use Rattle.lines.specs.declared.reader.LineReader.{LineReader}
use Rattle.lines.specs.declared.tag.Tag.{Tag}
use Rattle.lines.proofs.Readings.{counts_few}
use Rattle.logs.specs.Answers.{Said}
use Rattle.logs.specs.Pieces.{onto, pieces, lines_in, lines_ahead}

onto_pieces : (b : ℕ) (bs : List ℕ) → ((c : ℕ) (cs : List ℕ) → bs ≡ c ∷ cs → pieces bs ≡ piece bs ∷ pieces (drop (length (piece bs)) bs)) → onto b (pieces bs) ≡ (b ∷ piece bs) ∷ pieces (drop (length (piece bs)) bs)
onto_pieces b [] h = refl
onto_pieces b (c ∷ cs) h = ap (onto b) (h c cs refl)

-- the first piece, and those after it
pieces_first : (bs : List ℕ) (c : ℕ) (cs : List ℕ) → bs ≡ c ∷ cs → pieces bs ≡ piece bs ∷ pieces (drop (length (piece bs)) bs)
pieces_first [] c cs e = let z : ◌≡◌ {A = ℕ} 0 1 = cc in absurd (omega arith)
pieces_first (b ∷ bs) c cs e =
    let Q : Bool → Type 0 = λ t. cond t ((b ∷ []) ∷ pieces bs) (onto b (pieces bs)) ≡ cond t (b ∷ []) (b ∷ piece bs) ∷ pieces (drop (length (cond t (b ∷ []) (b ∷ piece bs))) (b ∷ bs)) in
    elim (eqb b feed) as Q [ true ↦ refl | false ↦ onto_pieces b bs (λ d ds q. pieces_first bs d ds q) ]

-- a reader that is not at its end has passed the first of its lines
not_end : (place len : ℕ) (r : Bool) → place ≤ len → (place ≡ len → r ≡ true) → r ≡ false → place < len
not_end place len r w h f = let ne : place ≡ len → ⊥ = λ e. both_ways r f (h e) in omega (arith, ne)

module _ {before after : LineReader} {answer : ℕ × ℕ} {line : Said} (h : Hears before after answer line) {ended : Bool} (e : before.place ≡ length (input_of before) → ended ≡ true) (f : ended ≡ false) where
  inside : before.place < length (input_of before)
  inside = not_end _ _ ended before.within e f

  pub ahead_more : lines_ahead before ≡ line ∷ lines_ahead after
  ahead_more =
      let at = before.place in
      let input = input_of before in
      let n = length (piece (drop at input)) in
      ap (map (λ p. heard (line_of p))) (pieces_first (drop at input) (get_or input at 0) (drop (at + 1) input) (drop_more input at 0 inside))
      ∙ ap (λ (bs : List ℕ). heard (line_of (piece (drop at input))) ∷ lines_in bs) (drop-drop n at input ∙ ap (λ k. drop k input) (sym h.passed) ∙ ap (drop after.place) (sym h.same_input))
      ∙ ap (λ (l : Said). l ∷ lines_ahead after) (sym h.said_so)

-- what is heard has few numbers, since no tag allows more than the most
abbrev Few : Option Said → Type 0
Few o = length (heard o).1 ≤ most

few_spelled : (p : List ℕ) (t : Tag) (ns : List ℕ) → Few (if_spelled p t ns)
few_spelled p t ns =
    cond_both (counts t (length ns) && _) (Some (t, ns)) None Few
    (λ e. counts_few t (length ns) (and_parts (counts t (length ns)) _ e).0)
    (λ _. lit≤ tt)

few_tagged : (p : List ℕ) (o : Option Tag) → Few (line_tagged p o)
few_tagged p None = lit≤ tt
few_tagged p (Some t) = few_spelled p t (worths ((length p - tag_length) / width) (drop tag_length p))

pub few_heard : (p : List ℕ) → Few (line_of p)
unfolding line_of
few_heard p = few_tagged p (tag_of (take tag_length p) tags)

pub heard_few : {before after : LineReader} {answer : ℕ × ℕ} {line : Said} → Hears before after answer line → length line.1 ≤ most
heard_few {before} h = subst (λ (l : Said). length l.1 ≤ most) (sym h.said_so) (few_heard (piece (ahead before)))
