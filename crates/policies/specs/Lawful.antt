-- What a lawful order of claims is.
use Rattle.std.specs.Prelude.{◌≡◌, Bool, true, false, not}
use Rattle.policies.specs.declared.policy.Claim.{Claim}

-- the claims are of different tasks
abbrev pub Apart : Claim → Claim → Type 0
Apart a b = a.task ≡ b.task → ⊥

pub record Lawful (before : Claim → Claim → Bool) : Type 0 where
  -- of two claims with different numbers exactly one goes before the other
  pub one : (a b : Claim) → Apart a b → before b a ≡ not (before a b)
  -- among three claims of different numbers going before is transitive
  pub transitive : (a b c : Claim) → Apart a b → Apart b c → Apart a c → before a b ≡ true → before b c ≡ true → before a c ≡ true
  -- of two claims with equal numbers neither goes before the other
  pub equal : (a b : Claim) → a.task ≡ b.task → before a b ≡ false
