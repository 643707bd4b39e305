-- Lines in a session: what each is answered, and the table that it leaves.
use Rattle.std.specs.Prelude.{ℕ, Bool, cond, ◌&&◌, List, [], ◌∷◌, Some, None, Option, nat_lt, Err}
use Rattle.systems.specs.Systems.{Meaning}
use Rattle.systems.specs.Outcomes.{Outcome, answer_of}
use Rattle.systems.specs.Judging.{judged}
use Rattle.systems.specs.declared.outcome.Refusal.TheVariants.{Unfit}
use Rattle.sessions.specs.Tables.{Listing, state_at}
use Rattle.sessions.specs.Calls.{offer, offered, settle, settled, shown, verdict}
use Rattle.lines.specs.declared.tag.Tag.{Tag}
use Rattle.lines.specs.declared.tag.Tag.TheVariants.{Verd, Setl, Show, Offr, Runs}
use Rattle.logs.specs.Answers.{Said, is, nth, unheard, answered}

-- a system as it is logged: what it means, the numbers of a state's line, and the state that numbers are
pub record Logged (S : Type 0) : Type 0 where
  pub means : Meaning S
  pub numbers : S → List ℕ
  pub restored : List ℕ → Option S

abbrev pub logged : {Y S : Type 0} → (Y → Meaning S) → (Y → S → List ℕ) → (Y → List ℕ → Option S) → Y → Logged S
logged meaning numbers restored system = record { means = meaning system; numbers = numbers system; restored = restored system }

module _ {S : Type 0} (v : Logged S) where
  -- numbers that are no state at all do not fit either
  abbrev pub offer_of : Listing S → Option S → Outcome
  offer_of t None = (Err Unfit)
  offer_of t (Some x) = offer v.means t x

  abbrev pub after_offer : Listing S → Option S → Listing S
  after_offer t None = t
  after_offer t (Some x) = offered v.means t x

  abbrev pub reply : Listing S → Tag → List ℕ → ℕ × ℕ
  reply t tag ns =
      cond (is Offr tag) (answer_of (offer_of t (v.restored ns)))
      (cond (is Setl tag) (answer_of (settle v.means t (nth ns 0)))
      (cond (is Show tag) (shown v.means t (nth ns 0)).0
      (cond (is Verd tag) (answer_of (verdict v.means t))
      (cond (is Runs tag) (answer_of (judged v.means ns)) (answer_of (unheard tag))))))

  -- the table after a line
  abbrev pub goes_in : Listing S → Tag → List ℕ → Listing S
  goes_in t tag ns = cond (is Offr tag) (after_offer t (v.restored ns)) (cond (is Setl tag) (settled v.means t (nth ns 0)) t)

  -- a SHOW that is accepted, which the state's OFFR line answers
  abbrev pub is_shown : Listing S → Tag → List ℕ → Bool
  is_shown t tag ns = is Show tag && nat_lt (nth ns 0) t.len

  -- that state, and none for any other line
  abbrev pub state_shown : Listing S → Tag → List ℕ → Option S
  state_shown t tag ns = cond (is_shown t tag ns) (Some (state_at v.means t (nth ns 0))) None

  abbrev pub says_in : Listing S → Tag → List ℕ → Said
  says_in t tag ns =
      cond (is_shown t tag ns) (Offr, v.numbers (state_at v.means t (nth ns 0))) (answered tag (reply t tag ns))

  -- the answers to lines, one after another
  abbrev pub served : Listing S → List Said → List Said
  served t [] = []
  served t (l ∷ ls) = says_in t l.0 l.1 ∷ served (goes_in t l.0 l.1) ls
