-- Judging follows a list of choices step by step, accepts exactly the bad runs, and says of every other list whether
-- it is a run or where it stops being one.
use Rattle.std.proofs.Common.{Ok, Err, ◌≡◌, ℕ, zero, suc, ◌+◌, ◌<◌, ◌≤◌, true, false, List, [], ◌∷◌, length, get_or, take, drop, sym, ap, ◌∙◌, arith}
use Rattle.std.proofs.lemmas.List.{drop_more, drop_all}
use Rattle.std.proofs.lemmas.Bool.{cond-true, cond-false, cond_both}
use Rattle.systems.specs.Systems.{Meaning, Legal, led}
use Rattle.systems.specs.Outcomes.{Outcome, answer_of}
use Rattle.systems.specs.Judging.{ended, judged_from, judged, Judges, SaysWhy}
use Rattle.systems.specs.declared.outcome.Refusal.{Refusal}
use Rattle.systems.specs.declared.outcome.Refusal.TheVariants.{NotLegal, EndsNotBad}

module _ {S : Type 0} (m : Meaning S) where
  -- what is left to judge at each turn of the loop
  pub judged_stop : (cs : List ℕ) (i : ℕ) (x : S) → i < length cs → m.legal x (get_or cs i 0) ≡ false → judged_from m x (drop i cs) i ≡ Err (NotLegal i)
  judged_stop cs i x h n = ap (λ (ds : List ℕ). judged_from m x ds i) (drop_more cs i 0 h) ∙ cond-false (m.legal x (get_or cs i 0)) _ _ n

  pub judged_more : (cs : List ℕ) (i : ℕ) (x : S) → i < length cs → m.legal x (get_or cs i 0) ≡ true → judged_from m x (drop i cs) i ≡ judged_from m (m.next x (get_or cs i 0)) (drop (i + 1) cs) (i + 1)
  judged_more cs i x h l = ap (λ (ds : List ℕ). judged_from m x ds i) (drop_more cs i 0 h) ∙ cond-true (m.legal x (get_or cs i 0)) _ _ l

  pub judged_end : (cs : List ℕ) (i : ℕ) (x : S) → length cs ≤ i → judged_from m x (drop i cs) i ≡ ended m x i
  judged_end cs i x h = ap (λ (ds : List ℕ). judged_from m x ds i) (drop_all i cs h)

  -- only bad runs are accepted
  accepted_from : (cs : List ℕ) (x : S) (i : ℕ) → (answer_of (judged_from m x cs i)).0 ≡ 0 → Legal m x cs × (m.bad (led m x cs) ≡ true)
  accepted_from [] x i =
      let P : Outcome → Type 0 = λ o. (answer_of o).0 ≡ 0 → Unit {0} × (m.bad x ≡ true) in
      cond_both (m.bad x) (Ok i) (Err (EndsNotBad i)) P (λ b _. (tt, b)) (λ _ h. absurd (omega arith))
  accepted_from (c ∷ cs) x i =
      let P : Outcome → Type 0 = λ o. (answer_of o).0 ≡ 0 → Legal m x (c ∷ cs) × (m.bad (led m x (c ∷ cs)) ≡ true) in
      cond_both (m.legal x c) (judged_from m (m.next x c) cs (i + 1)) (Err (NotLegal i)) P
      (λ l h. let r = accepted_from cs (m.next x c) (i + 1) h in ((l, r.0), r.1))
      (λ _ h. absurd (omega arith))

  -- a run is judged by its last state, with its length
  run_from : (cs : List ℕ) (x : S) (i : ℕ) → Legal m x cs → judged_from m x cs i ≡ ended m (led m x cs) (i + length cs)
  run_from [] x i l = let e : i ≡ i + 0 = omega arith in ap (ended m x) e
  run_from (c ∷ cs) x i l =
      let e : (i + 1) + length cs ≡ i + suc (length cs) = omega arith in
      cond-true (m.legal x c) (judged_from m (m.next x c) cs (i + 1)) (Err (NotLegal i)) l.0
      ∙ run_from cs (m.next x c) (i + 1) l.1 ∙ ap (ended m (led m (m.next x c) cs)) e

  run : (cs : List ℕ) → Legal m m.first cs → judged m cs ≡ ended m (led m m.first cs) (length cs)
  run cs l = let e : 0 + length cs ≡ length cs = omega arith in run_from cs m.first 0 l ∙ ap (ended m (led m m.first cs)) e

  -- a list stops at the first choice that is not legal
  stop_from : (cs : List ℕ) (k : ℕ) (x : S) (i : ℕ) → k < length cs → Legal m x (take k cs) → m.legal (led m x (take k cs)) (get_or cs k 0) ≡ false → judged_from m x cs i ≡ Err (NotLegal (i + k))
  stop_from [] k x i h l n = absurd (omega arith)
  stop_from (c ∷ cs) zero x i h l n =
      let e : i ≡ i + 0 = omega arith in
      cond-false (m.legal x c) (judged_from m (m.next x c) cs (i + 1)) (Err (NotLegal i)) n ∙ ap (λ j. Err (NotLegal j)) e
  stop_from (c ∷ cs) (suc k) x i h l n =
      let e : (i + 1) + k ≡ i + suc k = omega arith in
      cond-true (m.legal x c) (judged_from m (m.next x c) cs (i + 1)) (Err (NotLegal i)) l.0
      ∙ stop_from cs k (m.next x c) (i + 1) (omega arith) l.1 n ∙ ap (λ j. Err (NotLegal j)) e

  pub judges : (cs : List ℕ) (r : ℕ × ℕ) → r ≡ answer_of (judged m cs) → Judges m cs r
  judges cs r e = record {
    accepted_bad = λ z. accepted_from cs m.first 0 (ap (λ (q : ℕ × ℕ). q.0) (sym e) ∙ z);
    bad_accepted = λ b. e ∙ ap answer_of (run cs b.0 ∙ cond-true (m.bad (led m m.first cs)) _ _ b.1);
  }

  pub says_why : (cs : List ℕ) (r : ℕ × ℕ) → r ≡ answer_of (judged m cs) → SaysWhy m cs r
  says_why cs r e = record {
    ends_good = λ l b. e ∙ ap answer_of (run cs l ∙ cond-false (m.bad (led m m.first cs)) _ _ b);
    stops_at = λ k h l n.
        let p : 0 + k ≡ k = omega arith in
        e ∙ ap answer_of (stop_from cs k m.first 0 h l n ∙ ap (λ j. Err (NotLegal j)) p);
  }
