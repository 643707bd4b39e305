-- A line that is refused changes nothing: the turn after it is the turn before it.
use Rattle.std.proofs.Common.{◌≡◌, ℕ, zero, suc, Bool, true, false, cond, eqb, List, [], ◌∷◌, length, get_or, take, Some, None, Option, sym, refl, ap, ◌∙◌, subst, add-one, arith}
use Rattle.std.proofs.lemmas.Bool.{cond_both, cond-false, and_parts, eqb-true, ne_eqb}
use Rattle.systems.specs.Outcomes.{Outcome, answer_of, accepts}
use Rattle.sessions.specs.Tables.{Listing}
use Rattle.sessions.specs.Calls.{offer, settle, settled}
use Rattle.charts.specs.Entries.{add_step, add_input, set_lead}
use Rattle.charts.specs.declared.entries.Entries.{Entries}
use Rattle.plants.specs.Entries.{resource_comes_to, task_comes_to}
use Rattle.plants.specs.declared.layout.Layout.{Layout}
use Rattle.lines.specs.Reading.{no_line}
use Rattle.lines.specs.declared.tag.Tag.{Tag}
use Rattle.lines.specs.declared.tag.Tag.TheVariants.{Fixd, Rsrc, Task, Step, Inpt, Lead, Offr, Setl, Show}
use Rattle.logs.specs.declared.opening.Kind.{Kind}
use Rattle.logs.specs.Answers.{Said, is, index, nth, answered}
use Rattle.logs.specs.Serving.{Logged, offer_of, after_offer, reply, is_shown, says_in, goes_in}
use Rattle.logs.specs.Turns.{Turn, Opening, PlantDraft, ChartDraft, OnPlant, OnChart, Memory, kind, begins, opening, plant_reply, plant_after, task_of, chart_reply, chart_after, logged_plant, logged_chart, says, entered, fixed, goes}
use Rattle.logs.specs.Log.{answers, turn_after, fresh, lines_read, RefusedStays}
use Rattle.logs.proofs.TurnsTaken.{is_fixd}

-- what a call leaves where it does not accept
left : {A : Type 0} (o : Outcome) (x y : A) → ((answer_of o).0 ≡ 0 → ⊥) → cond (accepts o) x y ≡ y
left o x y h = cond-false (accepts o) x y (ne_eqb _ 0 h)

-- a test that picks the call picks what the call leaves
picks : {O A : Type 0} (number : O → ℕ) (b : Bool) (o o' : O) (x x' y : A) → ((number o ≡ 0 → ⊥) → x ≡ y) → ((number o' ≡ 0 → ⊥) → x' ≡ y) → (number (cond b o o') ≡ 0 → ⊥) → cond b x x' ≡ y
picks number true o o' x x' y f g h = f h
picks number false o o' x x' y f g h = g h

number_of : Outcome → ℕ
number_of o = (answer_of o).0

-- before a draft
begins_stays : (k : Option Kind) (t : Tag) → ((answer_of (opening k t)).0 ≡ 0 → ⊥) → begins k ≡ Opening
begins_stays None t h = refl
begins_stays (Some k) t h = absurd (h refl)

-- in a draft
plant_stays : (x : Layout) (t : Tag) (ns : List ℕ) → ((answer_of (plant_reply x t ns)).0 ≡ 0 → ⊥) → plant_after x t ns ≡ x
unfolding number_of
plant_stays x t ns =
    picks number_of (is Rsrc t) _ _ _ _ x (left (resource_comes_to x (nth ns 0) (nth ns 1)) _ x)
    (picks number_of (is Task t) _ _ _ _ x (left (task_comes_to x (task_of ns)) _ x) (λ _. refl))

chart_stays : (x : Entries) (t : Tag) (ns : List ℕ) → ((answer_of (chart_reply x t ns)).0 ≡ 0 → ⊥) → chart_after x t ns ≡ x
unfolding number_of
chart_stays x t ns =
    picks number_of (is Step t) _ _ _ _ x (left (add_step x (nth ns 0)) _ x)
    (picks number_of (is Inpt t) _ _ _ _ x (left (add_input x) _ x)
    (picks number_of (is Lead t) _ _ _ _ x (left (set_lead x (nth ns 0) (nth ns 1) (nth ns 2)) _ x) (λ _. refl)))

-- in a session; an accepted SHOW, whose answer is a state's line, changes nothing either
module _ {S : Type 0} (v : Logged S) (t : Listing S) where
  offer_stays : (o : Option S) → ((answer_of (offer_of v t o)).0 ≡ 0 → ⊥) → after_offer v t o ≡ t
  offer_stays None h = refl
  offer_stays (Some x) h = left (offer v.means t x) _ t h

  reply_stays : (tag : Tag) (ns : List ℕ) → ((reply v t tag ns).0 ≡ 0 → ⊥) → goes_in v t tag ns ≡ t
  reply_stays tag ns =
      let number : ℕ × ℕ → ℕ = λ a. a.0 in
      picks number (is Offr tag) _ _ _ _ t (offer_stays (v.restored ns))
      (picks number (is Setl tag) _ _ _ _ t (left (settle v.means t (nth ns 0)) _ t) (λ _. refl))

  show_stays : (tag : Tag) (ns : List ℕ) → is Show tag ≡ true → goes_in v t tag ns ≡ t
  show_stays tag ns e =
      ap (λ i. cond (eqb (index Offr) i) (after_offer v t (v.restored ns)) (cond (eqb (index Setl) i) (settled v.means t (nth ns 0)) t)) (sym (eqb-true (index Show) (index tag) e))

  says_stays : (tag : Tag) (ns : List ℕ) → (nth (says_in v t tag ns).1 0 ≡ 0 → ⊥) → goes_in v t tag ns ≡ t
  says_stays tag ns =
      cond_both (is_shown v t tag ns) _ (answered tag (reply v t tag ns)) (λ (a : Said). (nth a.1 0 ≡ 0 → ⊥) → goes_in v t tag ns ≡ t)
      (λ y _. show_stays tag ns (and_parts (is Show tag) _ y).0)
      (λ _. reply_stays tag ns)

-- in every turn; FIXD is accepted in a draft, and out of turn elsewhere
entered_stays : (turn : Turn) (l : Said) → (nth (says turn l).1 0 ≡ 0 → ⊥) → entered turn l ≡ turn
entered_stays Opening l h = begins_stays (kind l.0) l.0 h
entered_stays (PlantDraft x) l h = ap PlantDraft (plant_stays x l.0 l.1 h)
entered_stays (ChartDraft x) l h = ap ChartDraft (chart_stays x l.0 l.1 h)
entered_stays (OnPlant x t) l h = ap (OnPlant x) (says_stays (logged_plant x) t l.0 l.1 h)
entered_stays (OnChart x t) l h = ap (OnChart x) (says_stays (logged_chart x) t l.0 l.1 h)

fixed_stays : (cells : Memory) (turn : Turn) (ns : List ℕ) → (nth (says turn (Fixd, ns)).1 0 ≡ 0 → ⊥) → fixed cells turn ≡ turn
fixed_stays cells Opening ns h = refl
fixed_stays cells (PlantDraft x) ns h = absurd (h refl)
fixed_stays cells (ChartDraft x) ns h = absurd (h refl)
fixed_stays cells (OnPlant x t) ns h = refl
fixed_stays cells (OnChart x t) ns h = refl

goes_stays : (cells : Memory) (turn : Turn) (l : Said) → (nth (says turn l).1 0 ≡ 0 → ⊥) → goes cells turn l ≡ turn
goes_stays cells turn l h =
    cond_both (is Fixd l.0) (fixed cells turn) (entered turn l) (λ (then : Turn). then ≡ turn)
    (λ y. fixed_stays cells turn l.1 (subst (λ u. nth (says turn (u, l.1)).1 0 ≡ 0 → ⊥) (is_fixd l.0 y) h))
    (λ _. entered_stays turn l h)

-- at every line
refused_at : (ls : List Said) (turn : Turn) (k n v : ℕ) (t : Tag) → get_or (answers fresh turn ls) k no_line ≡ (t, n ∷ v ∷ []) → (n ≡ 0 → ⊥) → turn_after fresh turn (take (suc k) ls) ≡ turn_after fresh turn (take k ls)
refused_at [] turn k n v t e h = absurd (omega (arith, ap (λ (a : Said). length a.1) e))
refused_at (l ∷ ls) turn zero n v t e h = goes_stays fresh turn l (λ z. h (sym (ap (λ (a : Said). nth a.1 0) e) ∙ z))
refused_at (l ∷ ls) turn (suc k) n v t e h = refused_at ls (goes fresh turn l) k n v t e h

pub refused_stays : (input : List ℕ) → RefusedStays input
refused_stays input k n v t e h = ap (λ j. turn_after fresh Opening (take j (lines_read input))) (add-one k) ∙ refused_at (lines_read input) Opening k n v t e h
