-- A choice is legal, and leads to a state, exactly when the rules have it lead there in one tick.
use Rattle.std.proofs.Common.{◌≡◌, ℕ, ◌+◌, ◌<◌, Bool, true, false, cond, List, length, sym, refl, ap, ◌∙◌, subst}
use Rattle.std.proofs.lemmas.Bool.{and_from, lt-ltb, ltb-true, both_ways, not_from_false, cond-true, cond-false, cond_both}
use Rattle.systems.proofs.Lowest.{refuted}
use Rattle.plants.specs.Bits.{bit}
use Rattle.plants.specs.Layouts.{task_at, task_count}
use Rattle.plants.specs.Records.{at, released, readied, grown_by, finished}
use Rattle.plants.specs.Tick.{Order, state_bad, release_in, release_obeys, finish_in, finish_obeys, comes_ready, task_runs, claiming, after_releases, after_readying, after_growth, after_finishes, ticked, choice_legal, next_records}
use Rattle.plants.specs.Rules.{record_at, Releases, Readies, Runs, Grows, Finishes, Tick, claiming_state}
use Rattle.plants.specs.Replies.{ByRules}
use Rattle.plants.specs.Meanings.{plant_meaning}
use Rattle.plants.specs.declared.layout.Layout.{Layout}
use Rattle.plants.specs.declared.state.Record.{Record}
use Rattle.plants.specs.declared.state.PlantState.{PlantState}
use Rattle.plants.specs.Entered.{Valid}
use Rattle.plants.specs.Each.{made_each}
use Rattle.plants.specs.Steps.{all_from}
use Rattle.plants.specs.Ticks.{Legal, legal_parts, released_made, readied_made, grown_made, finished_made}
use Rattle.plants.specs.PlantLaws.{of_records}
use Rattle.plants.specs.Decided.{by_flag, fits_decides, bad_decides, may_decides, must_decides, comes_decides, runs_decides, grown_from, grown_is, finish_decides, worn_decides}

-- a bit is set or not
by_bit : (b : Bool) (P : Bool → Type 0) → (b ≡ true → P true) → (b ≡ false → P false) → P b
by_bit true P p q = p refl
by_bit false P p q = q refl

-- From a legal choice to the rules

module _ (order : Order) (l : Layout) (c : ℕ) (s : PlantState) (v : Valid l) (h : choice_legal order l c s.records ≡ true) where
  ok : Legal order l c s.records
  ok = legal_parts order l c s.records h

  -- the records after rule 2
  abbrev claims : List Record
  claims = claiming l c s.records

  held : PlantState
  held = record { records = after_releases l c s.records }

  grown : PlantState
  grown = record { records = after_growth order l claims }

  next : PlantState
  next = record { records = next_records order l c s.records }

  next_is : next_records order l c s.records ≡ after_finishes l c (after_growth order l claims)
  next_is = cond-true (choice_legal order l c s.records) (ticked order l c s.records) s.records h

  -- the release bit of task k, at the value that it has
  release_bit : (k : ℕ) → k < task_count l → (b : Bool) → bit c k ≡ b → release_in (task_at l k) (record_at s k).phase (record_at s k).since b ≡ true
  unfolding release_obeys
  release_bit k lt b e = ap (release_in (task_at l k) (record_at s k).phase (record_at s k).since) (sym e) ∙ ok.releases k lt

  rule_1 : Releases l c s held
  unfolding held
  rule_1 =
      let m = released_made l v s.records c in
      record {
        releases = λ k lt b. (
          (may_decides (task_at l k) (record_at s k)).0 (release_bit k lt true b),
          m.entered k lt ∙ cond-true _ _ _ b,
        );
        leaves = λ k lt b. (
          (must_decides (task_at l k) (record_at s k)).0 (release_bit k lt false b),
          m.entered k lt ∙ cond-false _ _ _ b,
        );
        others = record { long = m.long; stay = m.others };
      }

  rule_2 : Readies l held (claiming_state l c s)
  unfolding held
  rule_2 =
      let m = readied_made l v (after_releases l c s.records) in
      record {
        readies = λ k lt r. m.entered k lt ∙ cond-true _ _ _ ((comes_decides l held k).1 r);
        leaves = λ k lt n. m.entered k lt ∙ cond-false _ _ _ (refuted _ (λ h. n ((comes_decides l held k).0 h)));
        others = record { long = m.long; stay = m.others };
      }

  rule_4 : Grows order l (claiming_state l c s) grown
  unfolding grown
  rule_4 =
      let m = grown_made l v claims order in
      record {
        grows = λ k lt. grown_from _ _ (runs_decides order l (claiming_state l c s) k) _ _ (m.entered k lt);
        others = record { long = m.long; stay = m.others };
      }

  run_is : (k : ℕ) → k < task_count l → (record_at grown k).run ≡ (grown_by (task_runs order l claims k) (at claims k)).run
  unfolding grown
  run_is k lt = ap (λ (r : Record). r.run) ((grown_made l v claims order).entered k lt)

  finish_bit : (k : ℕ) → k < task_count l → (b : Bool) → bit c (task_count l + k) ≡ b
      → finish_in (task_at l k) (task_runs order l claims k) (record_at grown k).run b ≡ true
  unfolding finish_obeys
  finish_bit k lt b e =
      let runs = task_runs order l claims k in
      ap (λ n. finish_in (task_at l k) runs n b) (run_is k lt)
      ∙ ap (finish_in (task_at l k) runs (grown_by runs (at claims k)).run) (sym e) ∙ ok.finishes k lt

  rule_5 : Finishes order l c (claiming_state l c s) grown next
  unfolding grown next
  rule_5 =
      let ready = claiming_state l c s in
      let m = finished_made l v (after_growth order l claims) c in
      record {
        finishes = λ k lt b.
            let f = (finish_decides (task_at l k) (Runs order l ready k) (task_runs order l ready.records k) (record_at grown k).run (runs_decides order l ready k)).0 (finish_bit k lt true b) in
            (f.0, f.1, ap (λ xs. at xs k) next_is ∙ m.entered k lt ∙ cond-true _ _ _ b);
        leaves = λ k lt b. (
          (worn_decides (task_at l k) (Runs order l ready k) (task_runs order l ready.records k) (record_at grown k).run (runs_decides order l ready k)).0 (finish_bit k lt false b),
          ap (λ xs. at xs k) next_is ∙ m.entered k lt ∙ cond-false _ _ _ b,
        );
        others = record { long = ap length next_is ∙ m.long; stay = λ k lt le. ap (λ xs. at xs k) next_is ∙ m.others k lt le };
      }

  pub ticks : Tick order l c s ((plant_meaning order l).next s c)
  unfolding next
  ticks = record {
    fits = (fits_decides l s v.tasks_few).0 ok.fitting;
    good = λ b. both_ways (state_bad l s.records) ok.good ((bad_decides l s).1 b);
    below = ltb-true _ _ ok.below;
    held = held;
    ready = claiming_state l c s;
    grown = grown;
    rule_1 = rule_1;
    rule_2 = rule_2;
    rule_4 = rule_4;
    rule_5 = rule_5;
  }

-- From the rules to a legal choice

module _ (order : Order) (l : Layout) (c : ℕ) (s s' : PlantState) (v : Valid l) (t : Tick order l c s s') where
  held_is : t.held.records ≡ after_releases l c s.records
  held_is =
      let r = t.rule_1 in
      made_each (λ i r. cond (bit c i) released r) s.records (task_count l) t.held.records (record {
        long = r.others.long;
        entered = λ k lt.
            cond_both (bit c k) _ _ (λ x. record_at t.held k ≡ x) (λ b. (r.releases k lt b).1) (λ b. (r.leaves k lt b).1);
        others = r.others.stay;
      })

  ready_is : t.ready.records ≡ claiming l c s.records
  ready_is =
      let r = t.rule_2 in
      made_each (λ i r. cond (comes_ready l t.held.records i) (readied r) r) t.held.records (task_count l) t.ready.records (record {
        long = r.others.long;
        entered = λ k lt. by_flag (comes_ready l t.held.records k) (comes_decides l t.held k) _ _ _ (r.readies k lt) (r.leaves k lt);
        others = r.others.stay;
      })
      ∙ ap (after_readying l) held_is

  grown_at : (k : ℕ) → k < task_count l → record_at t.grown k ≡ grown_by (task_runs order l t.ready.records k) (record_at t.ready k)
  grown_at k lt = grown_is _ _ (runs_decides order l t.ready k) _ _ (t.rule_4.grows k lt)

  grown_all : t.grown.records ≡ after_growth order l (claiming l c s.records)
  grown_all =
      made_each (λ i r. grown_by (task_runs order l t.ready.records i) r) t.ready.records (task_count l) t.grown.records (record {
        long = t.rule_4.others.long;
        entered = grown_at;
        others = t.rule_4.others.stay;
      })
      ∙ ap (after_growth order l) ready_is

  ticked_is : s'.records ≡ ticked order l c s.records
  ticked_is =
      let r = t.rule_5 in
      made_each (λ i r. cond (bit c (task_count l + i)) (finished r) r) t.grown.records (task_count l) s'.records (record {
        long = r.others.long;
        entered = λ k lt.
            cond_both (bit c (task_count l + k)) _ _ (λ x. record_at s' k ≡ x) (λ b. (r.finishes k lt b).2) (λ b. (r.leaves k lt b).1);
        others = r.others.stay;
      })
      ∙ ap (after_finishes l c) grown_all

  release_one : (k : ℕ) → k < task_count l → release_obeys l c s.records k ≡ true
  unfolding release_obeys
  release_one k lt =
      by_bit (bit c k) (λ b. release_in (task_at l k) (record_at s k).phase (record_at s k).since b ≡ true)
      (λ b. (may_decides (task_at l k) (record_at s k)).1 (t.rule_1.releases k lt b).0)
      (λ b. (must_decides (task_at l k) (record_at s k)).1 (t.rule_1.leaves k lt b).0)

  finish_one : (k : ℕ) → k < task_count l → finish_obeys order l c t.ready.records k ≡ true
  unfolding finish_obeys
  finish_one k lt =
      let runs = task_runs order l t.ready.records k in
      let run = (record_at t.grown k).run in
      let d = runs_decides order l t.ready k in
      ap (λ (r : Record). finish_in (task_at l k) runs r.run (bit c (task_count l + k))) (sym (grown_at k lt))
      ∙ by_bit (bit c (task_count l + k)) (λ b. finish_in (task_at l k) runs run b ≡ true)
      (λ b. let f = t.rule_5.finishes k lt b in (finish_decides (task_at l k) (Runs order l t.ready k) runs run d).1 (f.0, f.1))
      (λ b. (worn_decides (task_at l k) (Runs order l t.ready k) runs run d).1 (t.rule_5.leaves k lt b).0)

  pub tick_legal : choice_legal order l c s.records ≡ true
  tick_legal =
      and_from _ _
      (and_from _ _
      (and_from _ _
      (and_from _ _ ((fits_decides l s v.tasks_few).1 t.fits) (not_from_false _ (refuted _ (λ h. t.good ((bad_decides l s).0 h)))))
      (lt-ltb _ _ t.below))
      (all_from (release_obeys l c s.records) (task_count l) release_one))
      (all_from (finish_obeys order l c (claiming l c s.records)) (task_count l)
      (λ k lt. ap (λ (xs : List Record). finish_obeys order l c xs k) (sym ready_is) ∙ finish_one k lt))

  pub tick_next : s' ≡ (plant_meaning order l).next s c
  tick_next =
      of_records s' ((plant_meaning order l).next s c)
      (ticked_is ∙ sym (cond-true (choice_legal order l c s.records) (ticked order l c s.records) s.records tick_legal))

-- both ways, for any two replies that are the meaning's
pub by_rules : (order : Order) (l : Layout) (c : ℕ) (s : PlantState) → Valid l → (legal : Bool) (next : PlantState)
    → legal ≡ (plant_meaning order l).legal s c → next ≡ (plant_meaning order l).next s c → ByRules order l c s legal next
by_rules order l c s v legal _ e d = record {
  legal_ticks = λ h. subst (Tick order l c s) (sym d) (ticks order l c s v (sym e ∙ h));
  tick_legal = λ s' t. (e ∙ tick_legal order l c s s' v t, tick_next order l c s s' v t ∙ sym d);
}
