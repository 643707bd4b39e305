-- The entries of a chart stay valid line by line, and a chart of valid entries obeys the six laws.
use Rattle.std.proofs.Common.{◌≡◌, ℕ, ◌<◌, true, false, not, ◌&&◌, ltb, sym, refl, ap, ◌∙◌, subst, arith, lit<, lit≤}
use lib.ListN.{get_or-replicate}
use Rattle.std.proofs.lemmas.Bool.{eqb-true, eq-eqb, ltb-true, lt-ltb, and_parts, and_from, not-true, not_from_false, cond-true, cond-false, cond_both}
use Rattle.std.proofs.lemmas.Bool.Decides.{nat_tests}
use Rattle.systems.specs.Systems.{Lawful}
use Rattle.systems.specs.Outcomes.{accepts}
use Rattle.charts.specs.Entries.{most_inputs, begun, step_count, lead_at, add_input, with_input}
use Rattle.charts.specs.Charts.{chart_meaning, fits, bad, legal}
use Rattle.charts.specs.declared.entries.Entries.{Entries}
use Rattle.charts.specs.Entries.{Valid}

pub valid_begun : Valid begun
valid_begun = record {
  some_steps = lit< tt;
  few_steps = lit≤ tt;
  some_inputs = lit< tt;
  few_inputs = lit≤ tt;
  inside = λ s i h. let z : s ≡ 0 = omega (arith, h.0) in subst (λ j. lead_at begun j i < 1) (sym z) (omega (arith, get_or-replicate {A = ℕ} most_inputs i 0 0 h.1));
  idle = λ s i h. let z : s ≡ 0 = omega (arith, h.0) in subst (λ j. lead_at begun j i ≡ j) (sym z) (get_or-replicate {A = ℕ} most_inputs i 0 0 h.2);
}

pub valid_input : (e : Entries) → Valid e → Valid (with_input e)
valid_input e v = cond_both (accepts (add_input e)) _ e Valid
    (λ a.
    let room : e.inputs < most_inputs = grind (arith, nat_tests) in
    record {
      some_steps = v.some_steps;
      few_steps = v.few_steps;
      some_inputs = omega arith;
      few_inputs = omega arith;
      inside = v.inside;
      idle = λ s i h. v.idle s i (h.0, omega (arith, h.1), h.2);
    })
    (λ _. v)

module _ (x : Entries) (v : Valid x) where
  parts : (s i : ℕ) → legal x s i ≡ true → (ltb i x.inputs ≡ true) × (fits x s ≡ true) × (bad x s ≡ false)
  parts s i l =
      let p = and_parts (ltb i x.inputs) (fits x s && not (bad x s)) l in
      let q = and_parts (fits x s) (not (bad x s)) p.1 in
      (p.0, q.0, not-true (bad x s) q.1)

  pub chart_lawful : Lawful (chart_meaning x)
  chart_lawful = record {
    same_equal = λ a b e. eqb-true a b e;
    equal_same = λ a. eq-eqb a a refl;
    first_fits = lt-ltb 0 (step_count x) v.some_steps;
    legal_below = λ s i l. ltb-true i x.inputs (parts s i l).0;
    legal_fits = λ s i l. (parts s i l).1;
    legal_good = λ s i l. (parts s i l).2;
    next_fits = λ s i l. ap (fits x) (cond-true (legal x s i) (lead_at x s i) s l) ∙ lt-ltb _ (step_count x) (v.inside s i (ltb-true s (step_count x) (parts s i l).1, omega (arith, ltb-true i x.inputs (parts s i l).0, v.few_inputs)));
    goes_on = λ s f n. (0, and_from (ltb 0 x.inputs) (fits x s && not (bad x s)) (lt-ltb 0 x.inputs v.some_inputs) (and_from (fits x s) (not (bad x s)) f (not_from_false (bad x s) n)));
    stays = λ s i n. cond-false (legal x s i) (lead_at x s i) s n;
  }
