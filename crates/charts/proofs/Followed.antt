-- Call by call, where an input leads from a step is where the last accepted lead for the two goes, or the step itself.
use Rattle.std.proofs.Common.{◌≡◌, ℕ, ◌+◌, ◌<◌, ◌≤◌, true, false, not, ◌&&◌, eqb, ltb, ◌≢◌, ◌⊎◌, List, [], ◌∷◌, ◌++◌, length, get_or, set, sym, refl, ap, ◌∙◌, subst, inl, inr, ⊎_elim, arith, lit≤, length-set}
use lib.ListN.{get_or-replicate, get_or-append}
use Rattle.std.proofs.lemmas.List.{get_or-set_same, get_or-set_other, get_or_push, length_push}
use Rattle.std.proofs.lemmas.Bool.{cond-true, cond-false, cond_both, cases_Bool, cases_eq, cases_lt, ltb-true, and_parts}
use Rattle.std.proofs.lemmas.Bool.Decides.{nat_tests}
use Rattle.systems.specs.Outcomes.{accepts}
use Rattle.charts.specs.Entries.{most_inputs, leading, step_count, no_step, step_at, lead_at, begun, relead, add_step, with_step, add_input, with_input, set_lead, with_lead}
use Rattle.charts.specs.Charts.{fits, bad, legal}
use Rattle.charts.specs.Leads.{Call, AddStep, AddInput, SetLead, after, past, NoLead, LastLead, Goes, FollowsLeads}
use Rattle.charts.specs.declared.entries.Step.{Step}
use Rattle.charts.specs.declared.entries.Entries.{Entries}

-- every step has a place for every input
record Sized (e : Entries) : Type 0 where
  few_inputs : e.inputs ≤ most_inputs
  row : (s : ℕ) → s < step_count e → length (step_at e s).leads ≡ most_inputs

sized_begun : Sized begun
sized_begun = record {
  few_inputs = lit≤ tt;
  row = λ s h. let first : s ≡ 0 = omega arith in subst (λ j. length (step_at begun j).leads ≡ most_inputs) (sym first) refl;
}

sized_after : (e : Entries) (c : Call) → Sized e → Sized (after e c)
sized_after e (AddStep forbidden) z = cond_both (accepts (add_step e forbidden)) _ e Sized
    (λ a.
    let d = leading (eqb forbidden 1) (step_count e) in
    record {
      few_inputs = z.few_inputs;
      row = λ s h. ⊎_elim
          (λ (lt : s < step_count e). ap (λ (x : Step). length x.leads) (get_or-append e.steps.items (d ∷ []) no_step s lt) ∙ z.row s lt)
          (λ (le : step_count e ≤ s). ap (λ (x : Step). length x.leads) (get_or_push e.steps.items d no_step s (omega (arith, h, length_push e.steps.items d))))
          (cases_lt s (step_count e));
    })
    (λ _. z)
sized_after e AddInput z = cond_both (accepts (add_input e)) _ e Sized
    (λ a.
    let room : e.inputs < most_inputs = grind (arith, nat_tests) in
    record { few_inputs = omega arith; row = z.row })
    (λ _. z)
sized_after e (SetLead step input next) z = cond_both (accepts (set_lead e step input next)) _ e Sized
    (λ a.
    let entered : step < step_count e = grind (arith, nat_tests) in
    let d = relead (step_at e step) input next in
    let steps : List Step = set e.steps.items step d in
    record {
      few_inputs = z.few_inputs;
      row = λ s h. ⊎_elim
          (λ (same : s ≡ step). subst (λ j. length (get_or steps j no_step).leads ≡ most_inputs) (sym same) (ap (λ (x : Step). length x.leads) (get_or-set_same e.steps.items step d no_step entered) ∙ simp length-set (z.row step entered)))
          (λ (ne : s ≢ step). ap (λ (x : Step). length x.leads) (get_or-set_other e.steps.items step s d no_step ne) ∙ z.row s (omega (arith, h, length-set e.steps.items step d)))
          (cases_eq s step);
    })
    (λ _. z)

sized_past : (calls : List Call) (e : Entries) → Sized e → Sized (past e calls)
sized_past [] e z = z
sized_past (c ∷ cs) e z = sized_past cs (after e c) (sized_after e c z)

-- the input leads from the step to n; where the step is not entered yet, n is the step
record At (e : Entries) (s i n : ℕ) : Type 0 where
  entered : s < step_count e → lead_at e s i ≡ n
  not_yet : step_count e ≤ s → n ≡ s

at_begun : (s i : ℕ) → i < most_inputs → At begun s i s
at_begun s i h = record {
  entered = λ k. let first : s ≡ 0 = omega arith in subst (λ j. lead_at begun j i ≡ j) (sym first) (get_or-replicate {A = ℕ} most_inputs i 0 0 h);
  not_yet = λ _. refl;
}

module _ (e : Entries) (z : Sized e) (s i : ℕ) where
  -- a step that is entered leads to itself, and changes no other
  at_step : (n forbidden : ℕ) → i < most_inputs → At e s i n → At (with_step e forbidden) s i n
  at_step n forbidden h at = cond_both (accepts (add_step e forbidden)) _ e (λ x. At x s i n)
      (λ a.
      let d = leading (eqb forbidden 1) (step_count e) in
      let count : length (e.steps.items ++ d ∷ []) ≡ step_count e + 1 = length_push e.steps.items d in
      record {
        entered = λ k. ⊎_elim
            (λ (lt : s < step_count e). ap (λ (x : Step). get_or x.leads i 0) (get_or-append e.steps.items (d ∷ []) no_step s lt) ∙ at.entered lt)
            (λ (le : step_count e ≤ s).
            let same : step_count e ≡ s = omega (arith, count, k) in
            ap (λ (x : Step). get_or x.leads i 0) (get_or_push e.steps.items d no_step s same) ∙ get_or-replicate most_inputs i (step_count e) 0 h ∙ same ∙ sym (at.not_yet le))
            (cases_lt s (step_count e));
        not_yet = λ k. at.not_yet (omega (arith, count, k));
      })
      (λ _. at)

  -- an input changes no lead
  at_input : (n : ℕ) → At e s i n → At (with_input e) s i n
  at_input n at = cond_both (accepts (add_input e)) _ e (λ x. At x s i n) (λ _. record { entered = at.entered; not_yet = at.not_yet }) (λ _. at)

  -- an accepted lead for the step and the input goes where it says
  at_lead : (n : ℕ) → i < most_inputs → accepts (set_lead e s i n) ≡ true → At (with_lead e s i n) s i n
  at_lead n h a =
      let step : s < step_count e = grind (arith, nat_tests) in
      let d = relead (step_at e s) i n in
      let row = ap (λ (x : Step). get_or x.leads i 0) (get_or-set_same e.steps.items s d no_step step) in
      subst (λ x. At x s i n) (sym (cond-true (accepts (set_lead e s i n)) _ e a))
      (record {
        entered = λ _. row ∙ get_or-set_same (step_at e s).leads i n 0 (omega (arith, z.row s step));
        not_yet = λ k. absurd (omega (arith, k, length-set e.steps.items s d));
      })

  -- a lead for another step or another input changes nothing
  at_other : (n step input next : ℕ) → (step ≢ s) ⊎ (input ≢ i) → At e s i n → At (with_lead e step input next) s i n
  at_other n step input next other at = cond_both (accepts (set_lead e step input next)) _ e (λ x. At x s i n)
      (λ a.
      let inside : step < step_count e = grind (arith, nat_tests) in
      let d = relead (step_at e step) input next in
      let steps : List Step = set e.steps.items step d in
      let count : length steps ≡ step_count e = length-set e.steps.items step d in
      let kept : get_or (get_or steps s no_step).leads i 0 ≡ lead_at e s i = ⊎_elim
      (λ (same : s ≡ step).
      let ne : i ≢ input = λ q. ⊎_elim (λ (p : step ≢ s). p (sym same)) (λ (p : input ≢ i). p (sym q)) other in
      subst (λ j. get_or (get_or steps j no_step).leads i 0 ≡ lead_at e j i) (sym same) (ap (λ (x : Step). get_or x.leads i 0) (get_or-set_same e.steps.items step d no_step inside) ∙ get_or-set_other (step_at e step).leads input i next 0 ne))
      (λ (ne : s ≢ step). ap (λ (x : Step). get_or x.leads i 0) (get_or-set_other e.steps.items step s d no_step ne))
      (cases_eq s step) in
      record { entered = λ k. kept ∙ at.entered (omega (arith, count, k)); not_yet = λ k. at.not_yet (omega (arith, count, k)) })
      (λ _. at)

-- one call: an accepted lead for the step and the input, or one that leaves where they lead as it was
abbrev Sets : Entries → Call → ℕ → ℕ → ℕ → Type 0
Sets e c s i n = (c ≡ SetLead s i n) × (accepts (set_lead e s i n) ≡ true) × At (after e c) s i n

abbrev Keeps : Entries → Call → ℕ → ℕ → ℕ → Type 0
Keeps e c s i n = ((m : ℕ) → c ≡ SetLead s i m → accepts (set_lead e s i m) ≡ false) × At (after e c) s i n

one_call : (e : Entries) (c : Call) (s i n : ℕ) → Sized e → i < most_inputs → At e s i n → ((m : ℕ) × Sets e c s i m) ⊎ Keeps e c s i n
one_call e (AddStep forbidden) s i n z h at = inr (λ m q. let w : ◌≡◌ {A = ℕ} 0 1 = cc in absurd (omega arith), at_step e z s i n forbidden h at)
one_call e AddInput s i n z h at = inr (λ m q. let w : ◌≡◌ {A = ℕ} 0 1 = cc in absurd (omega arith), at_input e z s i n at)
one_call e (SetLead step input next) s i n z h at = ⊎_elim
    (λ (p : step ≡ s). ⊎_elim
    (λ (q : input ≡ i). ⊎_elim
    (λ (a : accepts (set_lead e step input next) ≡ true).
    let same : SetLead step input next ≡ SetLead s i next = cc in
    let b : accepts (set_lead e s i next) ≡ true = subst (λ j. accepts (set_lead e j i next) ≡ true) p (subst (λ j. accepts (set_lead e step j next) ≡ true) q a) in
    inl (next, (same, b, subst (λ c. At (after e c) s i next) (sym same) (at_lead e z s i next h b))))
    (λ (f : accepts (set_lead e step input next) ≡ false).
    inr (
      λ m same.
          let r : next ≡ m = cc in
          subst (λ j. accepts (set_lead e s i j) ≡ false) r (subst (λ j. accepts (set_lead e j i next) ≡ false) p (subst (λ j. accepts (set_lead e step j next) ≡ false) q f)),
      subst (λ x. At x s i n) (sym (cond-false (accepts (set_lead e step input next)) _ e f)) at,
    ))
    (cases_Bool (accepts (set_lead e step input next))))
    (λ (ne : input ≢ i). inr (λ m same. let q : input ≡ i = cc in absurd (ne q), at_other e z s i n step input next (inr ne) at))
    (cases_eq input i))
    (λ (ne : step ≢ s). inr (λ m same. let p : step ≡ s = cc in absurd (ne p), at_other e z s i n step input next (inl ne) at))
    (cases_eq step s)

-- the last lead of some calls is the last with a call before them
with_earlier : (e : Entries) (c : Call) (cs : List Call) (s i n : ℕ) → LastLead (after e c) cs s i n → LastLead e (c ∷ cs) s i n
with_earlier e c cs s i n l = record {
  before = c ∷ l.before;
  later = l.later;
  split = ap (λ (xs : List Call). c ∷ xs) l.split;
  accepted = l.accepted;
  none_later = l.none_later;
}

-- all calls: the last lead among them, or none and no change
abbrev Followed : Entries → List Call → ℕ → ℕ → ℕ → Type 0
Followed e calls s i n = ((m : ℕ) × LastLead e calls s i m × At (past e calls) s i m) ⊎ (NoLead e calls s i × At (past e calls) s i n)

all_calls : (calls : List Call) (e : Entries) (s i n : ℕ) → Sized e → i < most_inputs → At e s i n → Followed e calls s i n
all_calls [] e s i n z h at = inr (tt, at)
all_calls (c ∷ cs) e s i n z h at = ⊎_elim
    (λ (led : (m : ℕ) × Sets e c s i m).
    ⊎_elim
    (λ (l : (m : ℕ) × LastLead (after e c) cs s i m × At (past (after e c) cs) s i m). inl (l.0, with_earlier e c cs s i l.0 l.1, l.2))
    (λ (none : NoLead (after e c) cs s i × At (past (after e c) cs) s i led.0).
    inl (
      led.0,
      record {
        before = [];
        later = cs;
        split = ap (λ (x : Call). x ∷ cs) led.1.0;
        accepted = led.1.1;
        none_later = subst (λ (x : Call). NoLead (after e x) cs s i) led.1.0 none.0;
      },
      none.1,
    ))
    (all_calls cs (after e c) s i led.0 (sized_after e c z) h led.1.2))
    (λ (kept : Keeps e c s i n).
    ⊎_elim
    (λ (l : (m : ℕ) × LastLead (after e c) cs s i m × At (past (after e c) cs) s i m). inl (l.0, with_earlier e c cs s i l.0 l.1, l.2))
    (λ (none : NoLead (after e c) cs s i × At (past (after e c) cs) s i n). inr ((kept.0, none.0), none.1))
    (all_calls cs (after e c) s i n (sized_after e c z) h kept.1))
    (one_call e c s i n z h at)

goes : (calls : List Call) (s i : ℕ) → s < step_count (past begun calls) → i < (past begun calls).inputs → Goes calls s i (lead_at (past begun calls) s i)
goes calls s i hs hi =
    let h : i < most_inputs = omega (arith, (sized_past calls begun sized_begun).few_inputs) in
    ⊎_elim
    (λ (l : (m : ℕ) × LastLead begun calls s i m × At (past begun calls) s i m). inl (subst (λ n. LastLead begun calls s i n) (sym (l.2.entered hs)) l.1))
    (λ (none : NoLead begun calls s i × At (past begun calls) s i s). inr (none.0, none.1.entered hs))
    (all_calls calls begun s i s sized_begun h (at_begun s i h))

pub follows_leads : (e : Entries) → FollowsLeads e
follows_leads e =
    let leads : (calls : List Call) → past begun calls ≡ e → (s i : ℕ) → s < step_count e → i < e.inputs → Goes calls s i (lead_at e s i) =
    λ calls q s i. subst (λ x. s < step_count x → i < x.inputs → Goes calls s i (lead_at x s i)) q (goes calls s i) in
    record {
      leads = leads;
      next_steps = λ calls q s i l.
          let p = and_parts (ltb i e.inputs) (fits e s && not (bad e s)) l in
          let f = and_parts (fits e s) (not (bad e s)) p.1 in
          subst (λ n. Goes calls s i n) (sym (cond-true (legal e s i) (lead_at e s i) s l)) (leads calls q s i (ltb-true s (step_count e) f.0) (ltb-true i e.inputs p.0));
    }
