-- A state's line: there is room for it, it reads back as the state, and the state has no other.
use Rattle.std.proofs.Common.{◌≡◌, ℕ, ◌≤◌, true, List, length, Option, sym, ap, ◌∙◌, subst, arith}
use Rattle.std.proofs.lemmas.Bool.{le-leb}
use Rattle.systems.specs.Systems.{Meaning}
use Rattle.systems.specs.Outcomes.{answer_of}
use Rattle.lines.specs.Spelling.{most, longest, Begins}
use Rattle.lines.specs.Writing.{writing, written}
use Rattle.lines.specs.Logging.{Numbered, StateLine}
use Rattle.lines.specs.declared.tag.Tag.TheVariants.{Offr}
use Rattle.lines.proofs.Buffers.{writing_accepted, reads_back}
use Rattle.lines.proofs.Lines.{length_spelling}

-- the numbers of a state that fits have room in the longest line
pub state_accepted : {S : Type 0} (m : Meaning S) (numbers : S → List ℕ) (restored : List ℕ → Option S) → Numbered m numbers restored → (x : S) (room : ℕ) (r : ℕ × ℕ) → r ≡ answer_of (writing Offr (numbers x) room) → m.fits x ≡ true → longest ≤ room → r.0 ≡ 0
state_accepted m numbers restored law x room r a f h =
    let ns = numbers x in
    let n : length ns ≤ most = law.few x f in
    ap (λ (q : ℕ × ℕ). q.0) (a ∙ ap answer_of (writing_accepted Offr ns room (law.small_numbers x f) (omega (arith, length_spelling Offr ns))))

-- what a writer of a fitting state's numbers promises, by the law of the trait
pub state_line : {S : Type 0} (m : Meaning S) (numbers : S → List ℕ) (restored : List ℕ → Option S) → Numbered m numbers restored → (x : S) (out after : List ℕ) (r : ℕ × ℕ) → r ≡ answer_of (writing Offr (numbers x) (length out)) → after ≡ written Offr (numbers x) out → m.fits x ≡ true → r.0 ≡ 0 → StateLine restored x after
state_line m numbers restored law x out after r a w f z =
    let back = reads_back Offr (numbers x) out after r a w (le-leb (length (numbers x)) most (law.few x f), law.small_numbers x f) z in
    record {
      begins = (numbers x, back.begins, law.restores x f);
      only = λ t ns b. let o = back.only t ns b in (o.0, ap restored o.1 ∙ law.restores x f);
      one_spelling = λ ns e. subst (λ ms. Begins after Offr ms) (sym (law.one_list x ns f e)) back.begins;
    }
