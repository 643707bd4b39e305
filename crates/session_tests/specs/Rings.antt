-- What a ring of states means as a system.
use Rattle.std.specs.Prelude.{ℕ, ◌+◌, false, cond, ◌&&◌, nat_le, nat_lt, ◌==◌}
use Rattle.systems.specs.Systems.{Meaning}

abbrev pub ring_meaning : ℕ → Meaning ℕ
ring_meaning end = record {
  first = 0;
  count = 1;
  fits = λ x. nat_le x end;
  bad = λ x. false;
  legal = λ x c. nat_lt c 1 && nat_le x end;
  next = λ x c. cond (nat_lt c 1 && nat_le x end) (cond (nat_lt x end) (x + 1) 0) x;
  same = λ x y. x == y;
}
