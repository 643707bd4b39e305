-- What a chart means as a system: the states are the steps, the choices the inputs.
use Rattle.std.specs.Prelude.{ℕ, Bool, cond, not, ◌&&◌, nat_lt, eqb}
use Rattle.systems.specs.Systems.{Meaning}
use Rattle.charts.specs.Entries.{step_count, step_at, lead_at}
use Rattle.charts.specs.declared.entries.Entries.{Entries}

-- a step fits when it is entered
abbrev pub fits : Entries → ℕ → Bool
fits e s = nat_lt s (step_count e)

-- it is bad when it is entered and forbidden
abbrev pub bad : Entries → ℕ → Bool
bad e s = fits e s && (step_at e s).forbidden

-- every input is legal at a step that fits and is not bad
abbrev pub legal : Entries → ℕ → ℕ → Bool
legal e s i = nat_lt i e.inputs && (fits e s && not (bad e s))

-- a legal input leads where its lead goes
abbrev pub next : Entries → ℕ → ℕ → ℕ
next e s i = cond (legal e s i) (lead_at e s i) s

abbrev pub chart_meaning : Entries → Meaning ℕ
chart_meaning e = record {
  first = 0;
  count = e.inputs;
  fits = fits e;
  bad = bad e;
  legal = legal e;
  next = next e;
  same = eqb;
}
