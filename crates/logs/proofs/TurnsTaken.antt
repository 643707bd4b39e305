-- One turn after another: what is written so far, with the answers to what is left, stays the log of the whole.
use Rattle.std.proofs.Common.{◌≡◌, ℕ, Bool, true, false, cond, List, [], ◌∷◌, ◌++◌, length, is_some, Some, None, Option, sym, refl, ap, ◌∙◌}
use Rattle.std.proofs.lemmas.Bool.{both_ways, cond_both, cond-true, cond-false}
use Rattle.systems.specs.Outcomes.{answer_of}
use Rattle.sessions.specs.declared.cell.Cell.{Cell}
use Rattle.sessions.specs.Tables.{Listing, empty}
use Rattle.charts.specs.declared.entries.Entries.{Entries}
use Rattle.plants.specs.declared.layout.Layout.{Layout}
use Rattle.plants.specs.declared.state.PlantState.{PlantState}
use Rattle.lines.specs.declared.tag.Tag.{Tag}
use Rattle.lines.specs.declared.tag.Tag.TheVariants.{Plnt, Chrt, Inpt, Fixd, Verd, Step, Setl, Show, Rsrc, Lead, Task, Offr, Runs, Line}
use Rattle.logs.specs.declared.opening.Kind.{Kind}
use Rattle.logs.specs.Answers.{Said, is, answered, line_spelled, spelled}
use Rattle.logs.specs.Serving.{Logged, says_in, goes_in, served}
use Rattle.logs.specs.Turns.{Turn, opening, Opening, PlantDraft, ChartDraft, OnPlant, OnChart, Memory, kind, begins, says, entered, fixed, goes, logged_plant, logged_chart}
use Rattle.logs.specs.Log.{answers, answers_left, fresh}
use Rattle.logs.proofs.Served.{spelled_more}
use Rattle.logs.proofs.Alike.{alike_empty, served_alike}

-- one line more
turn_more : (cells : Memory) (now then : Turn) (l : Said) (ls lines : List Said) (out out' : List ℕ) → lines ≡ l ∷ ls → out' ≡ out ++ line_spelled (says now l) → goes cells now l ≡ then → out' ++ spelled (answers cells then ls) ≡ out ++ spelled (answers cells now lines)
turn_more cells now then l ls lines out out' m o g =
    ap (λ (t : Turn). out' ++ spelled (answers cells t ls)) (sym g) ∙ spelled_more out out' (says now l) (answers cells (goes cells now l) ls) o
    ∙ ap (λ (ks : List Said). out ++ spelled (answers cells now ks)) (sym m)

-- FIXD enters nothing
fixd_enters : (turn : Turn) (ns : List ℕ) → entered turn (Fixd, ns) ≡ turn
fixd_enters Opening ns = refl
fixd_enters (PlantDraft x) ns = refl
fixd_enters (ChartDraft x) ns = refl
fixd_enters (OnPlant x t) ns = refl
fixd_enters (OnChart x t) ns = refl

pub is_fixd : (tag : Tag) → is Fixd tag ≡ true → tag ≡ Fixd
is_fixd Plnt e = absurd (both_ways false refl e)
is_fixd Chrt e = absurd (both_ways false refl e)
is_fixd Inpt e = absurd (both_ways false refl e)
is_fixd Fixd e = refl
is_fixd Verd e = absurd (both_ways false refl e)
is_fixd Step e = absurd (both_ways false refl e)
is_fixd Setl e = absurd (both_ways false refl e)
is_fixd Show e = absurd (both_ways false refl e)
is_fixd Rsrc e = absurd (both_ways false refl e)
is_fixd Lead e = absurd (both_ways false refl e)
is_fixd Task e = absurd (both_ways false refl e)
is_fixd Offr e = absurd (both_ways false refl e)
is_fixd Runs e = absurd (both_ways false refl e)
is_fixd Line e = absurd (both_ways false refl e)

fixes_enters : (turn : Turn) (tag : Tag) (ns : List ℕ) → is Fixd tag ≡ true → entered turn (tag, ns) ≡ turn
fixes_enters turn tag ns e = ap (λ u. entered turn (u, ns)) (is_fixd tag e) ∙ fixd_enters turn ns

goes_fixed : (cells : Memory) (turn then : Turn) (l : Said) → is Fixd l.0 ≡ true → then ≡ entered turn l → goes cells turn l ≡ fixed cells then
goes_fixed cells turn then l e k = cond-true (is Fixd l.0) _ _ e ∙ ap (fixed cells) (sym (k ∙ fixes_enters turn l.0 l.1 e))

goes_entered : (cells : Memory) (turn then : Turn) (l : Said) → is Fixd l.0 ≡ false → then ≡ entered turn l → goes cells turn l ≡ then
goes_entered cells turn then l e k = cond-false (is Fixd l.0) _ _ e ∙ sym k

-- where FIXD opens no session, a line only enters
goes_plain : (cells : Memory) (turn : Turn) (l : Said) → fixed cells turn ≡ turn → goes cells turn l ≡ entered turn l
goes_plain cells turn l s = cond_both (is Fixd l.0) (fixed cells turn) (entered turn l) (λ u. u ≡ entered turn l) (λ e. s ∙ sym (fixes_enters turn l.0 l.1 e)) (λ _. refl)

-- one line more before a draft, by the parts of its answer
pub open_more : (cells : Memory) {l : Said} {ls lines : List Said} (out : List ℕ) {out' : List ℕ} {tag : Tag} {k : Option Kind} {a : ℕ × ℕ} → lines ≡ l ∷ ls → tag ≡ l.0 → k ≡ kind tag → a ≡ answer_of (opening k tag) → out' ≡ out ++ line_spelled (answered tag a) → out' ++ spelled (answers cells (begins k) ls) ≡ out ++ spelled (answers cells Opening lines)
open_more cells {l} {ls} {lines} out {out'} {tag} {k} m t e h o =
    let noted : out' ≡ out ++ line_spelled (says Opening l) =
    o ∙ ap (λ b. out ++ line_spelled (answered tag b)) (h ∙ ap (λ j. answer_of (opening j tag)) e) ∙ ap (λ u. out ++ line_spelled (answered u (answer_of (opening (kind u) u)))) t in
    turn_more cells Opening (begins k) l ls lines out out' m noted (goes_plain cells Opening l refl ∙ ap (λ u. begins (kind u)) (sym t) ∙ ap begins (sym e))

-- one line more in a draft
module _ (cells : Memory) (turn : Turn) {then : Turn} {l : Said} {ls lines : List Said} (out : List ℕ) {out' : List ℕ} (m : lines ≡ l ∷ ls) (o : out' ≡ out ++ line_spelled (says turn l)) (k : then ≡ entered turn l) where
  pub draft_more : is Fixd l.0 ≡ false → out' ++ spelled (answers cells then ls) ≡ out ++ spelled (answers cells turn lines)
  draft_more f = turn_more cells turn then l ls lines out out' m o (goes_entered cells turn then l f k)

  pub draft_last : is Fixd l.0 ≡ true → out' ++ spelled (answers cells (fixed cells then) ls) ≡ out ++ spelled (answers cells turn lines)
  draft_last f = turn_more cells turn (fixed cells then) l ls lines out out' m o (goes_fixed cells turn then l f k)

pub left_some : (cells : Memory) (k : Option Kind) (ls : List Said) → is_some k ≡ true → answers_left cells k ls ≡ answers cells (begins k) ls
left_some cells None ls e = absurd (both_ways false refl e)
left_some cells (Some k) ls e = refl

pub begins_none : (k : Option Kind) → is_some k ≡ false → begins k ≡ Opening
begins_none None e = refl
begins_none (Some k) e = absurd (both_ways true e refl)

-- in a session the answers are those of the session
module _ {S : Type 0} (cells : Memory) (v : Logged S) (on : Listing S → Turn) (still : (t : Listing S) → fixed cells (on t) ≡ on t) (same-says : (t : Listing S) (l : Said) → says (on t) l ≡ says_in v t l.0 l.1) (same-goes : (t : Listing S) (l : Said) → entered (on t) l ≡ on (goes_in v t l.0 l.1)) where
  on_session : (ls : List Said) (t : Listing S) → answers cells (on t) ls ≡ served v t ls
  on_session [] t = refl
  on_session (l ∷ ls) t =
      ap (λ (a : Said). a ∷ answers cells (goes cells (on t) l) ls) (same-says t l)
      ∙ ap (λ (u : Turn). says_in v t l.0 l.1 ∷ answers cells u ls) (goes_plain cells (on t) l (still t) ∙ same-goes t l)
      ∙ ap (λ (more : List Said). says_in v t l.0 l.1 ∷ more) (on_session ls (goes_in v t l.0 l.1))

pub on_plant : (cells : Memory) (x : Layout) (t : Listing PlantState) (ls : List Said) → answers cells (OnPlant x t) ls ≡ served (logged_plant x) t ls
on_plant cells x t ls = on_session cells (logged_plant x) (OnPlant x) (λ _. refl) (λ _ _. refl) (λ _ _. refl) ls t

pub on_chart : (cells : Memory) (x : Entries) (t : Listing ℕ) (ls : List Said) → answers cells (OnChart x t) ls ≡ served (logged_chart x) t ls
on_chart cells x t ls = on_session cells (logged_chart x) (OnChart x) (λ _. refl) (λ _ _. refl) (λ _ _. refl) ls t

-- a draft that was fixed, and a session served over some cells, whatever these held
pub session_done : {S : Type 0} (v : Logged S) (cells lent : List (Cell S)) (before on : Turn) (rest lines : List Said) (out out₁ out₂ : List ℕ) (f : Bool) → out₂ ≡ out₁ ++ spelled (served v (empty lent) rest) → length lent ≡ length cells → answers fresh on rest ≡ served v (empty cells) rest → f ≡ true → out₁ ++ spelled (cond f (answers fresh on rest) []) ≡ out ++ spelled (answers fresh before lines) → out₂ ≡ out ++ spelled (answers fresh before lines)
session_done v cells lent before on rest lines out out₁ out₂ f s n h t d =
    s ∙ ap (λ ls. out₁ ++ spelled ls) (served_alike v rest (empty lent) (empty cells) (alike_empty lent cells n) ∙ sym h)
    ∙ ap (λ b. out₁ ++ spelled (cond b (answers fresh on rest) [])) (sym t) ∙ d
