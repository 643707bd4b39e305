-- A line that is written into a buffer with room for it: the bytes at the front are its spelling.
use Rattle.std.proofs.Common.{◌≡◌, ℕ, ◌≤◌, true, List, [], ◌∷◌, ◌++◌, length, take, drop, sym, refl, ap, ◌∙◌, arith, Ok}
use Rattle.std.proofs.lemmas.List.{take_at}
use Rattle.std.proofs.lemmas.Bool.{and_from, cond-true, le-leb}
use Rattle.systems.specs.Outcomes.{answer_of, accepts}
use Rattle.lines.specs.Spelling.{spelling, small, largest, most, longest}
use Rattle.lines.specs.Writing.{writing, written, over}
use Rattle.lines.specs.declared.tag.Tag.{Tag}
use Rattle.lines.proofs.Lines.{length_spelling}
use Rattle.lines.proofs.Buffers.{writing_accepted}

-- two numbers that fit their columns
pub small_pair : (n v : ℕ) → n ≤ largest → v ≤ largest → small (n ∷ v ∷ []) ≡ true
small_pair n v a b = and_from _ _ (le-leb n largest a) (and_from _ _ (le-leb v largest b) refl)

module _ (t : Tag) (ns out after : List ℕ) (r : ℕ × ℕ) (a : r ≡ answer_of (writing t ns (length out))) (s : small ns ≡ true) (few : length ns ≤ most) (room : length out ≡ longest) where
  accepted : writing t ns (length out) ≡ Ok (length (spelling t ns))
  accepted = writing_accepted t ns (length out) s (omega (arith, length_spelling t ns))

  pub noted_length : r.1 ≡ length (spelling t ns)
  noted_length = ap (λ (q : ℕ × ℕ). q.1) (a ∙ ap answer_of accepted)

  pub noted_fits : r.1 ≤ length out
  noted_fits = omega (arith, noted_length, length_spelling t ns)

  pub noted_front : after ≡ written t ns out → take r.1 after ≡ spelling t ns
  noted_front w =
      let e : after ≡ spelling t ns ++ drop (length (spelling t ns)) out = w ∙ cond-true (accepts (writing t ns (length out))) (over (spelling t ns) out) out (ap accepts accepted) in
      ap (take r.1) e ∙ take_at (spelling t ns) _ r.1 (sym noted_length)
