-- What judging a list of choices comes to.
use Rattle.std.specs.Prelude.{◌≡◌, ℕ, ◌+◌, ◌<◌, false, cond, List, [], ◌∷◌, length, take, slice_index, Ok, Err}
use Rattle.systems.specs.Systems.{Meaning, Run, last, BadRun}
use Rattle.systems.specs.Outcomes.{Outcome, refused}
use Rattle.systems.specs.declared.outcome.Refusal.TheVariants.{NotLegal, EndsNotBad}

-- a run of some length ends at a state
abbrev pub ended : {S : Type 0} → Meaning S → S → ℕ → Outcome
ended m x n = cond (m.bad x) (Ok n) (Err (EndsNotBad n))

-- the choices from a state, the first of them at a position
abbrev pub judged_from : {S : Type 0} → Meaning S → S → List ℕ → ℕ → Outcome
judged_from m x [] i = ended m x i
judged_from m x (c ∷ cs) i = cond (m.legal x c) (judged_from m (m.next x c) cs (i + 1)) (Err (NotLegal i))

abbrev pub judged : {S : Type 0} → Meaning S → List ℕ → Outcome
judged m cs = judged_from m m.first cs 0

-- an answer accepts the choices exactly when they are a run whose last state is bad
pub record Judges {S : Type 0} (m : Meaning S) (cs : List ℕ) (r : ℕ × ℕ) : Type 0 where
  pub accepted_bad : r.0 ≡ 0 → BadRun m cs
  pub bad_accepted : BadRun m cs → r ≡ (0, length cs)

-- where an answer does not accept the choices it says why: they are a run that ends in another state, or the position
-- of the first choice that is not legal
pub record SaysWhy {S : Type 0} (m : Meaning S) (cs : List ℕ) (r : ℕ × ℕ) : Type 0 where
  pub ends_good : Run m cs → m.bad (last m cs) ≡ false → r ≡ refused (EndsNotBad (length cs))
  pub stops_at : (k : ℕ) → k < length cs → Run m (take k cs) → m.legal (last m (take k cs)) (slice_index cs k) ≡ false → r ≡ refused (NotLegal k)
