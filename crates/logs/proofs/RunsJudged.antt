-- A RUNS line is accepted exactly where its numbers are a bad run of what the session is on.
use Rattle.std.proofs.Common.{◌≡◌, ℕ, zero, suc, true, false, List, [], ◌∷◌, length, get_or, take, sym, refl, ap, ◌∙◌, subst, ⊎_elim, arith}
use Rattle.std.proofs.lemmas.Bool.{cond-true, cond-false, cases_Bool}
use Rattle.systems.specs.Systems.{BadRun}
use Rattle.systems.specs.Outcomes.{answer_of}
use Rattle.systems.specs.Judging.{judged}
use Rattle.systems.proofs.Judged.{judges}
use Rattle.sessions.specs.Tables.{Listing, state_at}
use Rattle.lines.specs.Reading.{no_line}
use Rattle.lines.specs.declared.tag.Tag.{Tag}
use Rattle.lines.specs.declared.tag.Tag.TheVariants.{Offr, Runs}
use Rattle.logs.specs.Answers.{Said, index, nth, answered}
use Rattle.logs.specs.Serving.{Logged, reply, is_shown, says_in}
use Rattle.logs.specs.Turns.{Turn, Opening, PlantDraft, ChartDraft, OnPlant, OnChart, kind, opening, plant_reply, chart_reply, logged_plant, logged_chart, says, goes, BadRunTurn}
use Rattle.logs.specs.Log.{answers, turn_after, fresh, lines_read, BadRunLine, JudgesRuns}

-- lines that are equal have equal tags
pub same_tag : (l k : Said) → l ≡ k → index l.0 ≡ index k.0
same_tag l k e = ap (λ (x : Said). index x.0) e

-- a tag that is out of turn is not accepted
pub out_of_turn : (reply-to : Tag → ℕ × ℕ) (t u : Tag) (n : ℕ) → (reply-to u).0 ≡ 2 → answered t (reply-to t) ≡ (u, 0 ∷ n ∷ []) → ⊥
out_of_turn reply-to t u n two e =
    let same : t ≡ u = ap (λ (l : Said). l.0) e in
    let z : ◌≡◌ {A = ℕ} 2 0 = sym two ∙ sym (ap (λ w. (reply-to w).0) same) ∙ ap (λ (l : Said). nth l.1 0) e in
    omega arith

-- in a session
module _ {S : Type 0} (v : Logged S) (t : Listing S) where
  accepted_in : (tag : Tag) (ns : List ℕ) (n : ℕ) → says_in v t tag ns ≡ (Runs, 0 ∷ n ∷ []) → (tag ≡ Runs) × (length ns ≡ n) × BadRun v.means ns
  accepted_in tag ns n e = ⊎_elim
      (λ (y : is_shown v t tag ns ≡ true).
      let shown : Said = (Offr, v.numbers (state_at v.means t (nth ns 0))) in
      absurd (omega (arith, same_tag shown (Runs, 0 ∷ n ∷ []) (sym (cond-true (is_shown v t tag ns) _ _ y) ∙ e))))
      (λ (y : is_shown v t tag ns ≡ false).
      let plain : answered tag (reply v t tag ns) ≡ (Runs, 0 ∷ n ∷ []) = sym (cond-false (is_shown v t tag ns) _ _ y) ∙ e in
      let runs : tag ≡ Runs = ap (λ (l : Said). l.0) plain in
      let same : answered Runs (answer_of (judged v.means ns)) ≡ (Runs, 0 ∷ n ∷ []) = subst (λ u. answered u (reply v t u ns) ≡ (Runs, 0 ∷ n ∷ [])) runs plain in
      let judge = judges v.means ns _ refl in
      let bad = judge.accepted_bad (ap (λ (l : Said). nth l.1 0) same) in
      (runs, sym (ap (λ (a : ℕ × ℕ). a.1) (judge.bad_accepted bad)) ∙ ap (λ (l : Said). nth l.1 1) same, bad))
      (cases_Bool (is_shown v t tag ns))

  bad_in : (ns : List ℕ) → BadRun v.means ns → says_in v t Runs ns ≡ (Runs, 0 ∷ length ns ∷ [])
  bad_in ns b = ap (answered Runs) ((judges v.means ns _ refl).bad_accepted b)

-- in every turn
run_of : (turn : Turn) (l : Said) (n : ℕ) → (l.0 ≡ Runs) × (length l.1 ≡ n) × BadRunTurn turn l.1 → BadRunLine turn l n
run_of turn l n r = record { choices = l.1; asked = ap (λ u. (u, l.1)) r.0; count = r.1; bad_run = r.2 }

accepted_turn : (turn : Turn) (l : Said) (n : ℕ) → says turn l ≡ (Runs, 0 ∷ n ∷ []) → BadRunLine turn l n
accepted_turn Opening l n e = absurd (out_of_turn (λ u. answer_of (opening (kind u) u)) l.0 Runs n refl e)
accepted_turn (PlantDraft x) l n e = absurd (out_of_turn (λ u. answer_of (plant_reply x u l.1)) l.0 Runs n refl e)
accepted_turn (ChartDraft x) l n e = absurd (out_of_turn (λ u. answer_of (chart_reply x u l.1)) l.0 Runs n refl e)
accepted_turn (OnPlant x t) l n e = run_of (OnPlant x t) l n (accepted_in (logged_plant x) t l.0 l.1 n e)
accepted_turn (OnChart x t) l n e = run_of (OnChart x t) l n (accepted_in (logged_chart x) t l.0 l.1 n e)

bad_says : (turn : Turn) (ns : List ℕ) → BadRunTurn turn ns → says turn (Runs, ns) ≡ (Runs, 0 ∷ length ns ∷ [])
bad_says Opening ns b = absurd b
bad_says (PlantDraft x) ns b = absurd b
bad_says (ChartDraft x) ns b = absurd b
bad_says (OnPlant x t) ns b = bad_in (logged_plant x) t ns b
bad_says (OnChart x t) ns b = bad_in (logged_chart x) t ns b

bad_turn : (turn : Turn) (l : Said) (n : ℕ) → BadRunLine turn l n → says turn l ≡ (Runs, 0 ∷ n ∷ [])
bad_turn turn l n r = ap (says turn) r.asked ∙ bad_says turn r.choices r.bad_run ∙ ap (λ k. (Runs, 0 ∷ k ∷ [])) r.count

-- at every line
accepted_at : (ls : List Said) (turn : Turn) (k n : ℕ) → get_or (answers fresh turn ls) k no_line ≡ (Runs, 0 ∷ n ∷ []) → BadRunLine (turn_after fresh turn (take k ls)) (get_or ls k no_line) n
accepted_at [] turn k n e = absurd (omega (arith, same_tag no_line (Runs, 0 ∷ n ∷ []) e))
accepted_at (l ∷ ls) turn zero n e = accepted_turn turn l n e
accepted_at (l ∷ ls) turn (suc k) n e = accepted_at ls (goes fresh turn l) k n e

bad_at : (ls : List Said) (turn : Turn) (k n : ℕ) → BadRunLine (turn_after fresh turn (take k ls)) (get_or ls k no_line) n → get_or (answers fresh turn ls) k no_line ≡ (Runs, 0 ∷ n ∷ [])
bad_at [] turn k n r = absurd (omega (arith, same_tag no_line (Runs, r.choices) r.asked))
bad_at (l ∷ ls) turn zero n r = bad_turn turn l n r
bad_at (l ∷ ls) turn (suc k) n r = bad_at ls (goes fresh turn l) k n r

pub judges_runs : (input : List ℕ) → JudgesRuns input
judges_runs input = record { accepted_bad = accepted_at (lines_read input) Opening; bad_accepted = bad_at (lines_read input) Opening }
