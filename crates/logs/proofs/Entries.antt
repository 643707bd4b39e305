-- What a line before a session comes to fits its columns, and so do the choices of a plant.
use Rattle.std.proofs.Common.{◌≡◌, ℕ, zero, suc, ◌+◌, ◌/◌, ◌^◌, ◌≤◌, Bool, true, cond, not, eqb, ltb, leb, List, Some, None, Option, arith, lit<, lit≤, Ok, Err}
use native.Mathlib.Nat.{pow-le-pow_right}
use Rattle.std.proofs.lemmas.Bool.{cond_both}
use Rattle.systems.specs.Outcomes.{Outcome}
use Rattle.systems.specs.declared.outcome.Refusal.TheVariants.{FieldOutside, NoRoom, NotEntered}
use Rattle.policies.specs.Classes.{classes}
use Rattle.policies.specs.Orders.{earliest_deadline, preemptive}
use Rattle.charts.specs.Entries.{most_steps, most_inputs, step_count, add_step, add_input, set_lead}
use Rattle.charts.specs.declared.entries.Entries.{Entries}
use Rattle.charts.specs.Entries.{Valid as ChartValid}
use Rattle.plants.specs.Limits.{most_ticks, most_resources, most_tasks}
use Rattle.std.specs.List.{find, range_with_len}
use Rattle.plants.specs.Layouts.{is_within, unlike, valid, resource_count, task_count}
use Rattle.plants.specs.Entries.{resource_comes_to, outside_field, if_inside, if_alike, task_comes_to}
use Rattle.plants.specs.declared.layout.Layout.{Layout}
use Rattle.plants.specs.declared.layout.TaskEntry.{TaskEntry}
use Rattle.plants.specs.Entered.{Valid, valid_parts}
use Rattle.lines.specs.Spelling.{largest}
use Rattle.lines.specs.declared.tag.Tag.{Tag}
use Rattle.lines.specs.declared.tag.Tag.TheVariants.{Fixd, Rsrc, Task, Step, Inpt, Lead}
use Rattle.logs.specs.declared.opening.Kind.{Kind}
use Rattle.logs.specs.Answers.{is, nth, unheard}
use Rattle.logs.specs.Turns.{opening, plant_reply, task_of, chart_reply}
use Rattle.logs.proofs.Served.{Small, fits, unheard_small}

-- the field that is outside its range is one of seven
module _ (rest : Outcome) (h : Small rest) where
  abbrev Fits : Option ℕ → Type 0
  Fits o = Small (if_inside o rest)

  field : (b : Bool) (k : ℕ) (o : Option ℕ) → k ≤ 9 → Fits o → Fits (cond b (Some k) o)
  field b k o few ok = cond_both b (Some k) o Fits (λ _. fits 3 k (lit≤ tt) (omega arith)) (λ _. ok)

  fields : (e : TaskEntry) → Fits (outside_field e)
  fields e =
      field (not (is_within 0 most_ticks e.offset)) 1 _ (lit≤ tt)
      (field (not (is_within 1 most_ticks e.least)) 2 _ (lit≤ tt)
      (field (not (is_within e.least most_ticks e.greatest)) 3 _ (lit≤ tt)
      (field (not (is_within 1 most_ticks e.best)) 4 _ (lit≤ tt)
      (field (not (is_within e.best most_ticks e.worst)) 5 _ (lit≤ tt)
      (field (not (is_within 1 e.least e.deadline)) 6 _ (lit≤ tt)
      (field (leb classes e.class) 7 None (lit≤ tt) h))))))

-- a needed task whose gaps are unlike is one of a few
alike : (rest : Outcome) → Small rest → (p : ℕ → Bool) (n a : ℕ) → a + n ≤ most_tasks → Small (if_alike (find p (range_with_len a n)) rest)
alike rest h p zero a few = h
alike rest h p (suc n) a few =
    cond_both (p a) (Some a) _ (λ o. Small (if_alike o rest)) (λ _. fits 6 a (lit≤ tt) (omega arith)) (λ _. alike rest h p n (a + 1) (omega arith))

pub task_small : (l : Layout) (e : TaskEntry) → task_count l ≤ most_tasks → Small (task_comes_to l e)
task_small l e few =
    cond_both (eqb (task_count l) most_tasks) (Err NoRoom) _ Small
    (λ _. fits 4 0 (lit≤ tt) (lit≤ tt))
    (λ _. fields _
    (cond_both (leb (resource_count l) e.resource) (Err (NotEntered 8)) _ Small
    (λ _. fits 5 8 (lit≤ tt) (lit≤ tt))
    (λ _. cond_both (ltb 0 (e.needs / 2 ^ task_count l)) (Err (NotEntered 9)) _ Small
    (λ _. fits 5 9 (lit≤ tt) (lit≤ tt))
    (λ _. alike (Ok (task_count l)) (fits 0 _ (lit≤ tt) (omega arith)) (unlike l e) (task_count l) 0 (omega arith))))
    e)

-- a plant has few tasks, so its choices have numbers that fit a column
pub few_choices : (l : Layout) → valid l ≡ true → 4 ^ task_count l ≤ largest
few_choices l v = omega (arith, pow-le-pow_right {n = 4} (lit< tt) (valid_parts l v).tasks_few)

-- the other lines before a session
pub opening_small : (k : Option Kind) (tag : Tag) → Small (opening k tag)
opening_small None tag = unheard_small tag
opening_small (Some k) tag = fits 0 0 (lit≤ tt) (lit≤ tt)

resource_small : (l : Layout) (a b : ℕ) → Valid l → Small (resource_comes_to l a b)
resource_small l a b v =
    cond_both (eqb (resource_count l) most_resources) (Err NoRoom) _ Small
    (λ _. fits 4 0 (lit≤ tt) (lit≤ tt))
    (λ _. cond_both (ltb earliest_deadline a) (Err (FieldOutside 1)) _ Small
    (λ _. fits 3 1 (lit≤ tt) (lit≤ tt))
    (λ _. cond_both (ltb preemptive b) (Err (FieldOutside 2)) (Ok (resource_count l)) Small
    (λ _. fits 3 2 (lit≤ tt) (lit≤ tt))
    (λ _. fits 0 _ (lit≤ tt) (omega (arith, v.resources_few)))))

pub plant_reply_small : (l : Layout) (tag : Tag) (ns : List ℕ) → Valid l → Small (plant_reply l tag ns)
plant_reply_small l tag ns v =
    cond_both (is Rsrc tag) (resource_comes_to l (nth ns 0) (nth ns 1)) _ Small (λ _. resource_small l (nth ns 0) (nth ns 1) v)
    (λ _. cond_both (is Task tag) (task_comes_to l (task_of ns)) _ Small (λ _. task_small l (task_of ns) v.tasks_few)
    (λ _. cond_both (is Fixd tag) (Ok (task_count l)) (unheard tag) Small (λ _. fits 0 _ (lit≤ tt) (omega (arith, v.tasks_few))) (λ _. unheard_small tag)))

step_small : (e : Entries) (f : ℕ) → step_count e ≤ most_steps → Small (add_step e f)
step_small e f few =
    cond_both (ltb (step_count e) most_steps) _ (Err NoRoom) Small
    (λ _. cond_both (leb f 1) (Ok (step_count e)) (Err (FieldOutside 1)) Small (λ _. fits 0 _ (lit≤ tt) (omega arith)) (λ _. fits 3 1 (lit≤ tt) (lit≤ tt)))
    (λ _. fits 4 0 (lit≤ tt) (lit≤ tt))

input_small : (e : Entries) → e.inputs ≤ most_inputs → Small (add_input e)
input_small e few = cond_both (ltb e.inputs most_inputs) (Ok e.inputs) (Err NoRoom) Small (λ _. fits 0 _ (lit≤ tt) (omega arith)) (λ _. fits 4 0 (lit≤ tt) (lit≤ tt))

lead_small : (e : Entries) (s i n : ℕ) → Small (set_lead e s i n)
lead_small e s i n =
    cond_both (ltb s (step_count e)) _ (Err (FieldOutside 1)) Small
    (λ _. cond_both (ltb i e.inputs) _ (Err (FieldOutside 2)) Small
    (λ _. cond_both (ltb n (step_count e)) (Ok 0) (Err (FieldOutside 3)) Small (λ _. fits 0 0 (lit≤ tt) (lit≤ tt)) (λ _. fits 3 3 (lit≤ tt) (lit≤ tt)))
    (λ _. fits 3 2 (lit≤ tt) (lit≤ tt)))
    (λ _. fits 3 1 (lit≤ tt) (lit≤ tt))

pub chart_reply_small : (e : Entries) (tag : Tag) (ns : List ℕ) → ChartValid e → Small (chart_reply e tag ns)
chart_reply_small e tag ns v =
    cond_both (is Step tag) (add_step e (nth ns 0)) _ Small (λ _. step_small e (nth ns 0) v.few_steps)
    (λ _. cond_both (is Inpt tag) (add_input e) _ Small (λ _. input_small e v.few_inputs)
    (λ _. cond_both (is Lead tag) (set_lead e (nth ns 0) (nth ns 1) (nth ns 2)) _ Small (λ _. lead_small e (nth ns 0) (nth ns 1) (nth ns 2))
    (λ _. cond_both (is Fixd tag) (Ok (step_count e)) (unheard tag) Small (λ _. fits 0 _ (lit≤ tt) (omega (arith, v.few_steps))) (λ _. unheard_small tag))))
