-- Each test of the tick decides what the rules say in their own words.
use Rattle.std.specs.Prelude.{◌≡◌, ℕ, ◌+◌, ◌<◌, ◌≤◌, Bool, true, false, cond, not, ◌&&◌, ◌||◌, List, Decides, ◌==◌, ◌≢◌, refl}
use Rattle.std.proofs.Common.{ap, sym, subst, ◌∙◌, inl, inr, ⊎_elim, arith}
use Rattle.std.proofs.lemmas.Bool.Decides.{nat_tests, Decides-and, Decides-or, Decides-eqb}
use Rattle.std.proofs.lemmas.Bool.{and_parts, and_from, or_left, or_right, eqb-true, eqb-false, eq-eqb, ne_eqb, leb-true, le-leb, cases_Bool, cases_lt, both_ways, not_from_false, not_from_true, not-true, false≢true, true≢false, cond-true, cond-false, lt-ltb, le-ltb}
use Rattle.systems.proofs.Lowest.{refuted}
use Rattle.plants.specs.Limits.{most_tasks}
use Rattle.plants.specs.Bits.{bit}
use Rattle.plants.specs.Layouts.{task_at, task_count}
use Rattle.plants.specs.Records.{rec, at, blank, is_before, is_done, is_held, is_ready, grown_by}
use Rattle.plants.specs.Tick.{Order, fits_in, fits_at, is_blank, state_fits, late_at, state_bad, release_in, finish_in, met_at, comes_ready, rivals, goes_before, ahead_of, task_runs}
use Rattle.plants.specs.Rules.{record_at, FitsTask, Fits, Late, Bad, MayRelease, MustRelease, ComesReady, Runs, Grown}
use Rattle.plants.specs.declared.layout.Task.{Task}
use Rattle.plants.specs.declared.layout.Layout.{Layout}
use Rattle.plants.specs.declared.state.Record.{Record}
use Rattle.plants.specs.declared.state.PlantState.{PlantState}
use Rattle.plants.specs.declared.state.Phase.{Phase}
use Rattle.plants.specs.declared.state.Phase.TheVariants.{Before, Done, Held, Ready}
use Rattle.plants.specs.Same.{record_same}
use Rattle.plants.specs.Steps.{all_decides, any_decides}
use Rattle.plants.specs.Fitting.{fits_parts, fits_from}

or_second : (x y : Bool) → (x || y) ≡ true → x ≡ false → y ≡ true
or_second true y h e = absurd (true≢false e)
or_second false y h e = h

-- Phases

decides_done : (p : Phase) → Decides (is_done p) (p ≡ Done)
decides_done Before = ((λ h. absurd (false≢true h)), λ e. ap is_done e)
decides_done Done = ((λ h. refl), λ e. refl)
decides_done Held = ((λ h. absurd (false≢true h)), λ e. ap is_done e)
decides_done Ready = ((λ h. absurd (false≢true h)), λ e. ap is_done e)

decides_held : (p : Phase) → Decides (is_held p) (p ≡ Held)
decides_held Before = ((λ h. absurd (false≢true h)), λ e. ap is_held e)
decides_held Done = ((λ h. absurd (false≢true h)), λ e. ap is_held e)
decides_held Held = ((λ h. refl), λ e. refl)
decides_held Ready = ((λ h. absurd (false≢true h)), λ e. ap is_held e)

pub decides_ready : (p : Phase) → Decides (is_ready p) (p ≡ Ready)
decides_ready Before = ((λ h. absurd (false≢true h)), λ e. ap is_ready e)
decides_ready Done = ((λ h. absurd (false≢true h)), λ e. ap is_ready e)
decides_ready Held = ((λ h. absurd (false≢true h)), λ e. ap is_ready e)
decides_ready Ready = ((λ h. refl), λ e. refl)

not_done : (p : Phase) → is_done p ≡ false → p ≢ Done
not_done p f e = both_ways (is_done p) f ((decides_done p).1 e)

not_ready : (p : Phase) → is_ready p ≡ false → p ≢ Ready
not_ready p f e = both_ways (is_ready p) f ((decides_ready p).1 e)

not_before : (p : Phase) → is_before p ≡ false → p ≢ Before
not_before p f e = both_ways (is_before p) f (ap is_before e)

-- Which records fit

-- outside the phase ready both counts are 0
idle_in : (t : Task) (p : Phase) (since run waited : ℕ) → fits_in t p since run waited ≡ true → (p ≢ Ready) → (run ≡ 0) × (waited ≡ 0)
idle_in t Before since run waited h n = grind (arith, nat_tests)
idle_in t Done since run waited h n = grind (arith, nat_tests)
idle_in t Held since run waited h n = grind (arith, nat_tests)
idle_in t Ready since run waited h n = absurd (n refl)

fits_rules : (t : Task) (p : Phase) (since run waited : ℕ) → fits_in t p since run waited ≡ true → FitsTask t (rec p since run waited)
fits_rules t p since run waited h =
    let in-phase : (q : Phase) → p ≡ q → fits_in t q since run waited ≡ true = λ q e. subst (λ r. fits_in t r since run waited ≡ true) e h in
    record {
      before = λ e. let f = in-phase Before e in grind (arith, nat_tests);
      done = λ e. let f = in-phase Done e in grind (arith, nat_tests);
      held = λ e. let f = in-phase Held e in grind (arith, nat_tests);
      ready = λ e. let f = in-phase Ready e in grind (arith, nat_tests);
      idle = idle_in t p since run waited h;
    }

rules_fit : (t : Task) (p : Phase) (since run waited : ℕ) → FitsTask t (rec p since run waited) → fits_in t p since run waited ≡ true
rules_fit t Before since run waited f = let s = f.before refl in let i = f.idle (not_ready Before refl) in grind (arith, nat_tests)
rules_fit t Done since run waited f = let s = f.done refl in let i = f.idle (not_ready Done refl) in grind (arith, nat_tests)
rules_fit t Held since run waited f = let s = f.held refl in let i = f.idle (not_ready Held refl) in grind (arith, nat_tests)
rules_fit t Ready since run waited f = let s = f.ready refl in grind (arith, nat_tests)

blank_parts : (p : Phase) (since run waited : ℕ) → is_blank (rec p since run waited) ≡ true → rec p since run waited ≡ blank
blank_parts Before since run waited h = record_same Before Before since 0 run 0 waited 0 refl (grind (arith, nat_tests)) (grind (arith, nat_tests)) (grind (arith, nat_tests))
blank_parts Done since run waited h = absurd (false≢true h)
blank_parts Held since run waited h = absurd (false≢true h)
blank_parts Ready since run waited h = absurd (false≢true h)

pub fits_decides : (l : Layout) (s : PlantState) → task_count l ≤ most_tasks → Decides (state_fits l s.records) (Fits l s)
unfolding fits_at
fits_decides l s few =
    let rs = s.records in
    let test : (k : ℕ) → k < most_tasks → state_fits l rs ≡ true → fits_at l rs k ≡ true = λ k lt h. (fits_parts l rs h).each_fits k lt in (
      (λ h. record {
        long = (fits_parts l rs h).long;
        entered = λ k lt.
            let r = at rs k in
            fits_rules (task_at l k) r.phase r.since r.run r.waited (sym (cond-true _ _ _ (lt-ltb k (task_count l) lt)) ∙ test k (omega arith) h);
        others = λ k lt le.
            let r = at rs k in blank_parts r.phase r.since r.run r.waited (sym (cond-false _ _ _ (le-ltb k (task_count l) le)) ∙ test k lt h);
      }),
      λ f.
          fits_from l rs (record {
            long = f.long;
            each_fits = λ k lt.
                ⊎_elim
                (λ (e : k < task_count l).
                let r = at rs k in cond-true _ _ _ (lt-ltb k (task_count l) e) ∙ rules_fit (task_at l k) r.phase r.since r.run r.waited (f.entered k e))
                (λ (e : task_count l ≤ k). cond-false _ _ _ (le-ltb k (task_count l) e) ∙ ap is_blank (f.others k lt e))
                (cases_lt k (task_count l));
          }),
    )

pub bad_decides : (l : Layout) (s : PlantState) → Decides (state_bad l s.records) (Bad l s)
unfolding late_at
bad_decides l s =
    any_decides (late_at l s.records) (λ k. Late (task_at l k) (record_at s k))
    (λ k.
    let r = record_at s k in
    Decides-and _ _ (Decides-or _ _ (decides_held r.phase) (decides_ready r.phase)) (Decides-eqb r.since (task_at l k).deadline))
    (task_count l)

-- Rule 1

may_in : (t : Task) (p : Phase) (since run waited : ℕ) → Decides (release_in t p since true) (MayRelease t (rec p since run waited))
may_in t Before since run waited = ((λ h. inl (refl, eqb-true _ _ h)), ⊎_elim (λ d. eq-eqb _ _ d.1) (λ d. absurd (not_done Before refl d.0)))
may_in t Done since run waited = ((λ h. inr (refl, leb-true _ _ h)), ⊎_elim (λ d. absurd (not_before Done refl d.0)) (λ d. le-leb _ _ d.1))
may_in t Held since run waited = ((λ h. absurd (false≢true h)), ⊎_elim (λ d. absurd (not_before Held refl d.0)) (λ d. absurd (not_done Held refl d.0)))
may_in t Ready since run waited = ((λ h. absurd (false≢true h)), ⊎_elim (λ d. absurd (not_before Ready refl d.0)) (λ d. absurd (not_done Ready refl d.0)))

must_in : (t : Task) (p : Phase) (since run waited : ℕ) → Decides (release_in t p since false) (MustRelease t (rec p since run waited) → ⊥)
must_in t Before since run waited = (
  (λ h. ⊎_elim (λ d. eqb-false _ _ (not-true _ h) d.1) (λ d. not_done Before refl d.0)),
  λ n. not_from_false _ (ne_eqb since t.offset (λ e. n (inl (refl, e)))),
)
must_in t Done since run waited = (
  (λ h. ⊎_elim (λ d. not_before Done refl d.0) (λ d. eqb-false _ _ (not-true _ h) d.1)),
  λ n. not_from_false _ (ne_eqb since t.greatest (λ e. n (inr (refl, e)))),
)
must_in t Held since run waited = ((λ h. ⊎_elim (λ d. not_before Held refl d.0) (λ d. not_done Held refl d.0)), λ n. refl)
must_in t Ready since run waited = ((λ h. ⊎_elim (λ d. not_before Ready refl d.0) (λ d. not_done Ready refl d.0)), λ n. refl)

pub may_decides : (t : Task) (r : Record) → Decides (release_in t r.phase r.since true) (MayRelease t r)
may_decides t r = may_in t r.phase r.since r.run r.waited

pub must_decides : (t : Task) (r : Record) → Decides (release_in t r.phase r.since false) (MustRelease t r → ⊥)
must_decides t r = must_in t r.phase r.since r.run r.waited

-- Rule 2

met_one : (needs : ℕ) (rs : List Record) (j : ℕ) → Decides (met_at needs rs j) (bit needs j ≡ true → (at rs j).phase ≡ Done)
unfolding met_at
met_one needs rs j = (
  (λ h b. (decides_done (at rs j).phase).0 (or_second _ _ h (not_from_true _ b))),
  λ d. ⊎_elim (λ (b : bit needs j ≡ true). or_right _ _ ((decides_done (at rs j).phase).1 (d b))) (λ (b : bit needs j ≡ false). or_left _ _ (not_from_false _ b)) (cases_Bool (bit needs j)),
)

pub comes_decides : (l : Layout) (s : PlantState) (k : ℕ) → Decides (comes_ready l s.records k) (ComesReady l s k)
unfolding comes_ready
comes_decides l s k =
    let needs = (task_at l k).needs in
    Decides-and _ _ (decides_held (record_at s k).phase)
    (all_decides (met_at needs s.records) (λ j. bit needs j ≡ true → (record_at s j).phase ≡ Done) (met_one needs s.records) most_tasks)

-- Rule 3

abbrev Ahead : Order → Layout → List Record → ℕ → ℕ → Type 0
Ahead order l rs k j = (k ≢ j) → (at rs j).phase ≡ Ready → (task_at l k).resource ≡ (task_at l j).resource → goes_before order l rs k j ≡ true

ahead_decides : (order : Order) (l : Layout) (rs : List Record) (k j : ℕ) → Decides (ahead_of order l rs k j) (Ahead order l rs k j)
unfolding ahead_of
ahead_decides order l rs k j = (
  (λ h ne r e. or_second _ _ h (not_from_true _ (and_from _ _ (and_from _ _ (not_from_false _ (ne_eqb k j ne)) ((decides_ready (at rs j).phase).1 r)) (eq-eqb _ _ e)))),
  λ d.
      ⊎_elim
      (λ (r : rivals l rs k j ≡ true).
      let q = and_parts (not (k == j) && is_ready (at rs j).phase) ((task_at l k).resource == (task_at l j).resource) r in
      let s = and_parts (not (k == j)) (is_ready (at rs j).phase) q.0 in
      or_right _ _ (d (eqb-false k j (not-true _ s.0)) ((decides_ready (at rs j).phase).0 s.1) (eqb-true _ _ q.1)))
      (λ (r : rivals l rs k j ≡ false). or_left _ _ (not_from_false _ r))
      (cases_Bool (rivals l rs k j)),
)

pub runs_decides : (order : Order) (l : Layout) (s : PlantState) (k : ℕ) → Decides (task_runs order l s.records k) (Runs order l s k)
unfolding task_runs
runs_decides order l s k =
    Decides-and _ _ (decides_ready (record_at s k).phase)
    (all_decides (ahead_of order l s.records k) (Ahead order l s.records k) (ahead_decides order l s.records k) (task_count l))

-- Rule 4

pub grown_from : (R : Type 0) (b : Bool) → Decides b R → (r r' : Record) → r' ≡ grown_by b r → Grown R r r'
grown_from R b d r r' e =
    let waited : r'.waited ≡ cond (is_ready r.phase) (r.waited + 1) r.waited = ap (λ (x : Record). x.waited) e in
    let run : r'.run ≡ cond b (r.run + 1) r.run = ap (λ (x : Record). x.run) e in
    record {
      phase = ap (λ (x : Record). x.phase) e;
      since = ap (λ (x : Record). x.since) e;
      ready = λ p. waited ∙ cond-true _ _ _ ((decides_ready r.phase).1 p);
      not_ready = λ n. waited ∙ cond-false _ _ _ (refuted _ (λ h. n ((decides_ready r.phase).0 h)));
      runs = λ x. run ∙ cond-true _ _ _ (d.1 x);
      rests = λ n. run ∙ cond-false _ _ _ (refuted b (λ h. n (d.0 h)));
    }

pub by_flag : {A P : Type 0} (b : Bool) → Decides b P → (x y z : A) → (P → x ≡ y) → ((P → ⊥) → x ≡ z) → x ≡ cond b y z
by_flag true d x y z p q = p (d.0 refl)
by_flag false d x y z p q = q (λ h. false≢true (d.1 h))

pub grown_is : (R : Type 0) (b : Bool) → Decides b R → (r r' : Record) → Grown R r r' → r' ≡ grown_by b r
grown_is R b d r r' g =
    record_same r'.phase r.phase r'.since (r.since + 1) r'.run (cond b (r.run + 1) r.run) r'.waited (cond (is_ready r.phase) (r.waited + 1) r.waited)
    g.phase g.since (by_flag b d _ _ _ g.runs g.rests) (by_flag (is_ready r.phase) (decides_ready r.phase) _ _ _ g.ready g.not_ready)

-- Rule 5

pub finish_decides : (t : Task) (R : Type 0) (running : Bool) (run : ℕ) → Decides running R → Decides (finish_in t running run true) (R × (t.best ≤ run))
finish_decides t R running run d = Decides-and _ _ d ((λ h. leb-true _ _ h), λ h. le-leb _ _ h)

pub worn_decides : (t : Task) (R : Type 0) (running : Bool) (run : ℕ) → Decides running R → Decides (finish_in t running run false) (R → run ≢ t.worst)
worn_decides t R running run d = (
  (λ h r e. both_ways _ (not-true _ h) (and_from _ _ (d.1 r) (eq-eqb _ _ e))),
  λ n.
      not_from_false _ (refuted _ (λ h. let p = (Decides-and running (run == t.worst) d (Decides-eqb run t.worst)).0 h in n p.0 p.1)),
)
