-- What the log promises: an accepted verdict is true, every number fits its column, every line has an answer, and the
-- answers do not depend on what the cells held.
use Rattle.std.proofs.Common.{◌≡◌, ℕ, zero, suc, ◌≤◌, true, false, List, [], ◌∷◌, map, length, get_or, take, Some, None, Option, sym, refl, ap, ◌∙◌, subst, ⊎_elim, arith, length-set}
use Rattle.std.proofs.lemmas.Bool.{both_ways, cond_both, cond-true, cond-false, cases_Bool, and_parts, ltb-true}
use Rattle.systems.specs.Systems.{Meaning, Lawful, Safe, last}
use Rattle.systems.specs.Outcomes.{answer_of, accepts}
use Rattle.sessions.specs.declared.cell.Cell.{Cell}
use Rattle.sessions.specs.Tables.{Listing, empty, state_at, added, marked}
use Rattle.sessions.specs.Calls.{offer, offered, settle, settled, verdict}
use Rattle.sessions.specs.Pasts.{Reached, Offer, Settle}
use Rattle.sessions.proofs.Pasts.{reached_open, reached_step}
use Rattle.sessions.proofs.Promises.{promise}
use Rattle.sessions.proofs.Tables.{good_reached}
use Rattle.charts.specs.Charts.{chart_meaning}
use Rattle.charts.specs.Entries.{with_step, with_input, with_lead, Valid as ChartValid}
use Rattle.charts.specs.declared.entries.Entries.{Entries}
use Rattle.charts.specs.Numbered.{chart_numbered}
use Rattle.charts.proofs.Valid.{valid_step, valid_lead}
use Rattle.policies.specs.Orders.{site}
use Rattle.plants.specs.Layouts.{valid, entered as task_entered, with_task}
use Rattle.plants.specs.Entries.{resource_comes_to, after_resource, task_comes_to, after_task}
use Rattle.plants.specs.Rules.{Bad, Tick}
use Rattle.plants.specs.declared.layout.Layout.{Layout}
use Rattle.plants.specs.declared.layout.TaskEntry.{TaskEntry}
use Rattle.plants.specs.declared.state.PlantState.{PlantState}
use Rattle.plants.specs.Entered.{valid_parts, admitted, valid_with_task, resource_room, valid_with_resource}
use Rattle.plants.specs.Decided.{bad_decides}
use Rattle.plants.proofs.Agreement.{ticks}
use Rattle.plants.proofs.Chained.{runs_chain}
use Rattle.plants.specs.PlantLaws.{plant_laws}
use Rattle.plants.specs.Numbered.{plant_numbered}
use Rattle.lines.specs.Spelling.{small, largest, most}
use Rattle.lines.specs.Reading.{no_line, line_of, heard}
use Rattle.lines.specs.Logging.{Numbered}
use Rattle.lines.specs.declared.tag.Tag.{Tag}
use Rattle.lines.specs.declared.tag.Tag.TheVariants.{Verd, Fixd, Rsrc, Task, Step, Inpt, Lead, Offr, Setl, Show}
use Rattle.logs.specs.declared.opening.Kind.{Kind}
use Rattle.logs.specs.declared.opening.Kind.TheVariants.{Plant, Chart}
use Rattle.logs.specs.Answers.{Said, Narrow, is, nth, answered}
use Rattle.logs.specs.Pieces.{pieces}
use Rattle.logs.specs.Serving.{Logged, after_offer, reply, is_shown, says_in, goes_in, served}
use Rattle.logs.specs.Turns.{Turn, Opening, PlantDraft, ChartDraft, OnPlant, OnChart, Memory, kind, begins, opening, plant_reply, plant_after, task_of, chart_reply, chart_after, site_plant, logged_plant, logged_chart, says, entered, fixed, goes, SafeTicks, SafeTurn, SafeTicksTurn}
use Rattle.logs.specs.Log.{bytes_read, answers, turn_after, fresh, places, lines_read, ClosedIsSafe, ClosedIsNeverLate, AllSmall, Complete, AnyMemory}
use Rattle.logs.proofs.Ahead.{few_heard}
use Rattle.logs.proofs.Served.{reply_small}
use Rattle.logs.proofs.Noted.{small_pair}
use Rattle.logs.proofs.Entries.{opening_small, plant_reply_small, chart_reply_small, few_choices}
use Rattle.logs.proofs.ChartsKept.{valid_begun, valid_input, chart_lawful}
use Rattle.logs.proofs.TurnsTaken.{on_plant, on_chart}
use Rattle.logs.proofs.Alike.{both_conds, alike_empty, served_alike}
use Rattle.logs.proofs.RunsJudged.{same_tag, out_of_turn}

-- what every turn keeps: drafts are valid, and a session's table has a past and as many cells as it has places

record TableKept {S : Type 0} (m : Meaning S) (t : Listing S) : Type 0 where
  reached : Reached m t
  sized : length t.cells ≡ places

abbrev Sound : Turn → Type 0
Sound Opening = Unit {0}
Sound (PlantDraft x) = valid x ≡ true
Sound (ChartDraft x) = ChartValid x
Sound (OnPlant x t) = (valid x ≡ true) × TableKept (site_plant x) t
Sound (OnChart x t) = ChartValid x × TableKept (chart_meaning x) t

-- the cells are as many as a session has places
record Sized (cells : Memory) : Type 0 where
  plants : length cells.for_plants ≡ places
  charts : length cells.for_charts ≡ places

table_opened : {S : Type 0} (m : Meaning S) (cells : List (Cell S)) → length cells ≡ places → TableKept m (empty cells)
table_opened m cells e = record { reached = reached_open m cells (empty cells) refl; sized = e }

module _ {S : Type 0} (v : Logged S) (t : Listing S) (k : TableKept v.means t) where
  offered_kept : (x : S) → TableKept v.means (offered v.means t x)
  offered_kept x = record {
    reached = reached_step v.means t _ (Offer x) refl k.reached;
    sized = cond_both (accepts (offer v.means t x)) (added t x) t (λ u. length u.cells ≡ places) (λ _. simp length-set k.sized) (λ _. k.sized);
  }

  settled_kept : (p : ℕ) → TableKept v.means (settled v.means t p)
  settled_kept p = record {
    reached = reached_step v.means t _ (Settle p) refl k.reached;
    sized = cond_both (accepts (settle v.means t p)) (marked v.means t p) t (λ u. length u.cells ≡ places) (λ _. simp length-set k.sized) (λ _. k.sized);
  }

  offer_kept : (o : Option S) → TableKept v.means (after_offer v t o)
  offer_kept None = k
  offer_kept (Some x) = offered_kept x

  goes_in_kept : (tag : Tag) (ns : List ℕ) → TableKept v.means (goes_in v t tag ns)
  goes_in_kept tag ns =
      cond_both (is Offr tag) (after_offer v t (v.restored ns)) _ (TableKept v.means) (λ _. offer_kept (v.restored ns))
      (λ _. cond_both (is Setl tag) (settled v.means t (nth ns 0)) t (TableKept v.means) (λ _. settled_kept (nth ns 0)) (λ _. k))

-- entries of a plant
resource_kept : (l : Layout) (a b : ℕ) → valid l ≡ true → valid (after_resource l a b) ≡ true
resource_kept l a b k =
    cond_both (accepts (resource_comes_to l a b)) _ l (λ x. valid x ≡ true)
    (λ h. let v = valid_parts l k in valid_with_resource l _ v (resource_room l a b v h))
    (λ _. k)

task_kept : (l : Layout) (e : TaskEntry) → valid l ≡ true → valid (after_task l e) ≡ true
task_kept l e k =
    cond_both (accepts (task_comes_to l e)) (with_task l (task_entered e)) l (λ x. valid x ≡ true)
    (λ h. valid_with_task l e (valid_parts l k) (admitted l e h))
    (λ _. k)

plant_kept : (l : Layout) (tag : Tag) (ns : List ℕ) → valid l ≡ true → valid (plant_after l tag ns) ≡ true
plant_kept l tag ns k =
    cond_both (is Rsrc tag) (after_resource l (nth ns 0) (nth ns 1)) _ (λ x. valid x ≡ true) (λ _. resource_kept l (nth ns 0) (nth ns 1) k)
    (λ _. cond_both (is Task tag) (after_task l (task_of ns)) l (λ x. valid x ≡ true) (λ _. task_kept l (task_of ns) k) (λ _. k))

chart_kept : (e : Entries) (tag : Tag) (ns : List ℕ) → ChartValid e → ChartValid (chart_after e tag ns)
chart_kept e tag ns k =
    cond_both (is Step tag) (with_step e (nth ns 0)) _ ChartValid (λ _. valid_step e (nth ns 0) k)
    (λ _. cond_both (is Inpt tag) (with_input e) _ ChartValid (λ _. valid_input e k)
    (λ _. cond_both (is Lead tag) (with_lead e (nth ns 0) (nth ns 1) (nth ns 2)) e ChartValid (λ _. valid_lead e (nth ns 0) (nth ns 1) (nth ns 2) k) (λ _. k)))

begins_sound : (k : Option Kind) → Sound (begins k)
begins_sound None = tt
begins_sound (Some Plant) = refl
begins_sound (Some Chart) = valid_begun

entered_sound : (turn : Turn) (l : Said) → Sound turn → Sound (entered turn l)
entered_sound Opening l s = begins_sound (kind l.0)
entered_sound (PlantDraft x) l s = plant_kept x l.0 l.1 s
entered_sound (ChartDraft x) l s = chart_kept x l.0 l.1 s
entered_sound (OnPlant x t) l s = (s.0, goes_in_kept (logged_plant x) t s.1 l.0 l.1)
entered_sound (OnChart x t) l s = (s.0, goes_in_kept (logged_chart x) t s.1 l.0 l.1)

fixed_sound : (cells : Memory) → Sized cells → (turn : Turn) → Sound turn → Sound (fixed cells turn)
fixed_sound cells z Opening s = tt
fixed_sound cells z (PlantDraft x) s = (s, table_opened (site_plant x) cells.for_plants z.plants)
fixed_sound cells z (ChartDraft x) s = (s, table_opened (chart_meaning x) cells.for_charts z.charts)
fixed_sound cells z (OnPlant x t) s = s
fixed_sound cells z (OnChart x t) s = s

goes_sound : (cells : Memory) → Sized cells → (turn : Turn) (l : Said) → Sound turn → Sound (goes cells turn l)
goes_sound cells z turn l s = cond_both (is Fixd l.0) (fixed cells turn) (entered turn l) Sound (λ _. fixed_sound cells z turn s) (λ _. entered_sound turn l s)

fresh_sized : Sized fresh
fresh_sized = record { plants = refl; charts = refl }

plant_lawful : (x : Layout) → valid x ≡ true → Lawful (site_plant x)
plant_lawful x k = plant_laws site x (valid_parts x k)

-- an accepted verdict is true

-- chains of ticks are runs
safe_ticks : (x : Layout) → valid x ≡ true → Safe (site_plant x) → SafeTicks x
safe_ticks x k safe =
    let m = site_plant x in
    let good = valid_parts x k in
    let runs = runs_chain site x good in
    record {
      never_late = λ cs xs chain late.
          let run = (runs cs).chain_runs xs chain in
          both_ways _ (safe.never_bad cs run.0) ((bad_decides x (last m cs)).1 (subst (Bad x) run.1 late));
      goes_on = λ cs xs chain.
          let run = (runs cs).chain_runs xs chain in
          let more = safe.goes_on cs run.0 in
          let s = m.next (last m cs) more.0 in
          (more.0, s, subst (λ (y : PlantState). Tick site x more.0 y s) (sym run.1) (ticks site x more.0 (last m cs) good more.1));
    }

closed_in : {S : Type 0} (v : Logged S) → Lawful v.means → (t : Listing S) → Reached v.means t → (tag : Tag) (ns : List ℕ) (n : ℕ) → says_in v t tag ns ≡ (Verd, 0 ∷ n ∷ []) → Safe v.means
closed_in v law t h tag ns n e = ⊎_elim
    (λ (y : is_shown v t tag ns ≡ true).
    let shown : Said = (Offr, v.numbers (state_at v.means t (nth ns 0))) in
    let verd : Said = (Verd, 0 ∷ n ∷ []) in
    absurd (omega (arith, same_tag shown verd (sym (cond-true (is_shown v t tag ns) _ _ y) ∙ e))))
    (λ (y : is_shown v t tag ns ≡ false).
    let plain : answered tag (reply v t tag ns) ≡ (Verd, 0 ∷ n ∷ []) = sym (cond-false (is_shown v t tag ns) _ _ y) ∙ e in
    let verd : tag ≡ Verd = ap (λ (l : Said). l.0) plain in
    let zero_number : (reply v t tag ns).0 ≡ 0 = ap (λ (l : Said). nth l.1 0) plain in
    let closed : (answer_of (verdict v.means t)).0 ≡ 0 = sym (ap (λ u. (reply v t u ns).0) verd) ∙ zero_number in
    (promise v.means law t h _ refl).closed_safe closed)
    (cases_Bool (is_shown v t tag ns))

closed_turn : (turn : Turn) (l : Said) (n : ℕ) → Sound turn → says turn l ≡ (Verd, 0 ∷ n ∷ []) → SafeTurn turn × SafeTicksTurn turn
closed_turn Opening l n s e = absurd (out_of_turn (λ u. answer_of (opening (kind u) u)) l.0 Verd n refl e)
closed_turn (PlantDraft x) l n s e = absurd (out_of_turn (λ u. answer_of (plant_reply x u l.1)) l.0 Verd n refl e)
closed_turn (ChartDraft x) l n s e = absurd (out_of_turn (λ u. answer_of (chart_reply x u l.1)) l.0 Verd n refl e)
closed_turn (OnPlant x t) l n s e =
    let safe = closed_in (logged_plant x) (plant_lawful x s.0) t s.1.reached l.0 l.1 n e in
    (safe, safe_ticks x s.0 safe)
closed_turn (OnChart x t) l n s e = (closed_in (logged_chart x) (chart_lawful x s.0) t s.1.reached l.0 l.1 n e, tt)

closed_at : (ls : List Said) (turn : Turn) → Sound turn → (k n : ℕ) → get_or (answers fresh turn ls) k no_line ≡ (Verd, 0 ∷ n ∷ []) → SafeTurn (turn_after fresh turn (take k ls)) × SafeTicksTurn (turn_after fresh turn (take k ls))
closed_at [] turn s k n e = absurd (omega (arith, same_tag no_line (Verd, 0 ∷ n ∷ []) e))
closed_at (l ∷ ls) turn s zero n e = closed_turn turn l n s e
closed_at (l ∷ ls) turn s (suc k) n e = closed_at ls (goes fresh turn l) (goes_sound fresh fresh_sized turn l s) k n e

pub closed_is_safe : (input : List ℕ) → ClosedIsSafe input
closed_is_safe input k n e = (closed_at (lines_read input) Opening tt k n e).0

pub closed_is_never_late : (input : List ℕ) → ClosedIsNeverLate input
closed_is_never_late input k n e = (closed_at (lines_read input) Opening tt k n e).1

-- every line has an answer, and every number fits its column

every_line : (cells : Memory) (turn : Turn) (ls : List Said) → length (answers cells turn ls) ≡ length ls
every_line cells turn [] = refl
every_line cells turn (l ∷ ls) = ap suc (every_line cells (goes cells turn l) ls)

narrow : (t : Tag) (a : ℕ × ℕ) → Narrow a → small (answered t a).1 ≡ true
narrow t a n = small_pair a.0 a.1 n.number n.value

shown_small : {S : Type 0} (v : Logged S) → Lawful v.means → Numbered v.means v.numbers v.restored → v.means.count ≤ largest → (t : Listing S) → TableKept v.means t → (tag : Tag) (ns : List ℕ) → length ns ≤ most → small (says_in v t tag ns).1 ≡ true
shown_small v law numbered few t k tag ns h =
    let good = good_reached v.means law t k.reached in
    let len : t.len ≤ largest = omega (arith, good.within, k.sized) in
    cond_both (is_shown v t tag ns) _ (answered tag (reply v t tag ns)) (λ l. small l.1 ≡ true)
    (λ y. numbered.small_numbers _ (good.fits (nth ns 0) (ltb-true _ _ (and_parts (is Show tag) _ y).1)))
    (λ _. narrow tag (reply v t tag ns) (reply_small v t len few tag ns h))

says_small : (turn : Turn) (l : Said) → Sound turn → length l.1 ≤ most → small (says turn l).1 ≡ true
says_small Opening l s h = narrow l.0 _ (opening_small (kind l.0) l.0)
says_small (PlantDraft x) l s h = narrow l.0 _ (plant_reply_small x l.0 l.1 (valid_parts x s))
says_small (ChartDraft x) l s h = narrow l.0 _ (chart_reply_small x l.0 l.1 s)
says_small (OnPlant x t) l s h = shown_small (logged_plant x) (plant_lawful x s.0) (plant_numbered site x (valid_parts x s.0)) (few_choices x s.0) t s.1 l.0 l.1 h
says_small (OnChart x t) l s h = shown_small (logged_chart x) (chart_lawful x s.0) (chart_numbered x s.0.few_steps) (omega (arith, s.0.few_inputs)) t s.1 l.0 l.1 h

abbrev AllFew : List Said → Type 0
AllFew [] = Unit {0}
AllFew (l ∷ ls) = (length l.1 ≤ most) × AllFew ls

few_lines : (ps : List (List ℕ)) → AllFew (map (λ p. heard (line_of p)) ps)
few_lines [] = tt
few_lines (p ∷ ps) = (few_heard p, few_lines ps)

every_column : (ls : List Said) (turn : Turn) → Sound turn → AllFew ls → AllSmall (answers fresh turn ls)
every_column [] turn s h = tt
every_column (l ∷ ls) turn s h = (says_small turn l s h.0, every_column ls (goes fresh turn l) (goes_sound fresh fresh_sized turn l s) h.1)

pub complete : (input : List ℕ) → Complete input
complete input = record {
  every_line = every_line fresh Opening (lines_read input);
  every_column = every_column (lines_read input) Opening tt (few_lines (pieces (bytes_read input)));
}

-- the answers do not depend on what the cells held

module _ (c d : Memory) (zc : Sized c) (zd : Sized d) where
  any_on_plant : (x : Layout) (t u : Listing PlantState) (ls : List Said) → served (logged_plant x) t ls ≡ served (logged_plant x) u ls → answers c (OnPlant x t) ls ≡ answers d (OnPlant x u) ls
  any_on_plant x t u ls e = on_plant c x t ls ∙ e ∙ sym (on_plant d x u ls)

  any_on_chart : (x : Entries) (t u : Listing ℕ) (ls : List Said) → served (logged_chart x) t ls ≡ served (logged_chart x) u ls → answers c (OnChart x t) ls ≡ answers d (OnChart x u) ls
  any_on_chart x t u ls e = on_chart c x t ls ∙ e ∙ sym (on_chart d x u ls)

  -- FIXD may open the session over other cells; no other line looks at them
  any_fixed : (turn : Turn) (ls : List Said) → answers c Opening ls ≡ answers d Opening ls → answers c (fixed c turn) ls ≡ answers d (fixed d turn) ls
  any_fixed Opening ls e = e
  any_fixed (PlantDraft x) ls e = any_on_plant x _ _ ls (served_alike (logged_plant x) ls _ _ (alike_empty c.for_plants d.for_plants (zc.plants ∙ sym zd.plants)))
  any_fixed (ChartDraft x) ls e = any_on_chart x _ _ ls (served_alike (logged_chart x) ls _ _ (alike_empty c.for_charts d.for_charts (zc.charts ∙ sym zd.charts)))
  any_fixed (OnPlant x t) ls e = any_on_plant x t t ls refl
  any_fixed (OnChart x t) ls e = any_on_chart x t t ls refl

  any_cells : (ls : List Said) (turn : Turn) → answers c turn ls ≡ answers d turn ls
  any_cells [] turn = refl
  any_cells (l ∷ ls) turn =
      ap (λ more. says turn l ∷ more) (both_conds (λ p q. answers c p ls ≡ answers d q ls) (is Fixd l.0) (is Fixd l.0) _ _ _ _ refl
      (λ _. any_fixed turn ls (any_cells ls Opening)) (λ _. any_cells ls (entered turn l)))

pub any_memory : (input : List ℕ) → AnyMemory input
any_memory input cells p q = any_cells cells fresh (record { plants = p; charts = q }) fresh_sized (lines_read input) Opening
