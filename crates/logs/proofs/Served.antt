-- Lines in a session: every number of an answer fits its column, and a state that is shown fits.
use Rattle.std.proofs.Common.{◌≡◌, ℕ, sym, refl, not, is_some, zero, suc, ◌+◌, ◌<◌, ◌≤◌, Bool, true, ltb, List, [], ◌∷◌, ◌++◌, length, length-take, Some, None, Option, ap, ◌∙◌, append_assoc, arith, lit≤, Ok, Err}
use Rattle.std.specs.Option.{option_map_or}
use Rattle.std.specs.List.{position, position_or_len}
use Rattle.std.proofs.lemmas.Bool.{cond_both, cond-false, ltb-true, and_parts}
use Rattle.systems.specs.Systems.{Meaning, Lawful}
use Rattle.systems.specs.Lowest.{tally}
use Rattle.systems.specs.Outcomes.{Outcome, answer_of}
use Rattle.systems.specs.Judging.{judged, judged_from}
use Rattle.systems.specs.declared.outcome.Refusal.TheVariants.{Unfit, Bad, Listed, Full, NoSuchPlace, LeadsToBad, LeadsOutside, FirstNotListed, Unsettled, NotLegal, EndsNotBad, NotALine, OutOfTurn}
use Rattle.sessions.specs.declared.cell.Cell.{Cell}
use Rattle.sessions.specs.Tables.{Listing, used, room, state_at, find}
use Rattle.sessions.specs.Calls.{decided, scanned, settle, shown, verdict}
use Rattle.sessions.specs.Pasts.{Reached}
use Rattle.sessions.proofs.Tables.{good_reached}
use Rattle.lines.specs.Spelling.{largest, most}
use Rattle.lines.specs.declared.tag.Tag.{Tag}
use Rattle.lines.specs.declared.tag.Tag.TheVariants.{Offr, Setl, Show, Verd, Runs, Line}
use Rattle.logs.specs.Answers.{Said, Narrow, is, nth, unheard, answered, line_spelled, spelled}
use Rattle.logs.specs.Serving.{Logged, offer_of, reply, is_shown, state_shown, says_in}

abbrev pub Small : Outcome → Type 0
Small o = Narrow (answer_of o)

-- a value that fits, beside any number of an outcome
pub fits : (n v : ℕ) → n ≤ 19 → v ≤ largest → Narrow (n, v)
fits n v a b = record { number = omega arith; value = b }

pub unheard_small : (t : Tag) → Small (unheard t)
unheard_small t = cond_both (is Line t) (Err NotALine) (Err OutOfTurn) Small (λ _. fits 1 0 (lit≤ tt) (lit≤ tt)) (λ _. fits 2 0 (lit≤ tt) (lit≤ tt))

tally_within : (p : ℕ → Bool) (n : ℕ) → tally p n ≤ n
tally_within p zero = omega arith
tally_within p (suc n) =
    let h : tally p n ≤ n = tally_within p n in
    cond_both (p n) (tally p n + 1) (tally p n) (λ k. k ≤ suc n) (λ _. omega arith) (λ _. omega arith)

-- a judged list's position or length is at most its length
judged_within : {S : Type 0} (m : Meaning S) (cs : List ℕ) (x : S) (i : ℕ) → i + length cs ≤ largest → Small (judged_from m x cs i)
judged_within m [] x i h = cond_both (m.bad x) (Ok i) (Err (EndsNotBad i)) Small (λ _. fits 0 i (lit≤ tt) (omega arith)) (λ _. fits 18 i (lit≤ tt) (omega arith))
judged_within m (c ∷ cs) x i h =
    cond_both (m.legal x c) (judged_from m (m.next x c) cs (i + 1)) (Err (NotLegal i)) Small
    (λ _. judged_within m cs (m.next x c) (i + 1) (omega arith))
    (λ _. fits 17 i (lit≤ tt) (omega arith))

module _ {S : Type 0} (v : Logged S) (t : Listing S) (len : t.len ≤ largest) (few : v.means.count ≤ largest) where
  -- a place that a search finds fits a column, as the cells in use are no more than the table's length
  at_place : (refuse : ℕ → Outcome) (rest : Outcome) (p : Cell S → Bool) → ((k : ℕ) → k ≤ largest → Small (refuse k)) → Small rest → Small (option_map_or refuse (position p (used t)) rest)
  at_place refuse rest p h r =
      cond_both (ltb (position_or_len p (used t)) (length (used t))) (Some (position_or_len p (used t))) None (λ o. Small (option_map_or refuse o rest))
      (λ b. h _ (omega (arith, ltb-true _ _ b, length-take t.len t.cells)))
      (λ _. r)

  offer_small : (o : Option S) → Small (offer_of v t o)
  offer_small None = fits 8 0 (lit≤ tt) (lit≤ tt)
  offer_small (Some x) =
      let m = v.means in
      cond_both (m.fits x) _ (Err Unfit) Small
      (λ _. cond_both (m.bad x) (Err Bad) _ Small
      (λ _. fits 9 0 (lit≤ tt) (lit≤ tt))
      (λ _. at_place (λ k. Err (Listed k)) _ (λ c. m.same x c.state) (λ k le. fits 10 k (lit≤ tt) le)
      (cond_both (ltb t.len (room t.cells)) (Ok t.len) (Err Full) Small
      (λ _. fits 0 _ (lit≤ tt) len)
      (λ _. fits 11 0 (lit≤ tt) (lit≤ tt)))))
      (λ _. fits 8 0 (lit≤ tt) (lit≤ tt))

  decided_small : (x : S) (c : ℕ) → Small (decided v.means x c)
  decided_small x c =
      let m = v.means in
      cond_both (ltb c m.count) _ (Ok (tally (m.legal x) m.count)) Small
      (λ h. let lt : c < m.count = ltb-true _ _ h in
      cond_both (m.bad (m.next x c)) (Err (LeadsToBad c)) (Err (LeadsOutside c)) Small (λ _. fits 13 c (lit≤ tt) (omega arith)) (λ _. fits 14 c (lit≤ tt) (omega arith)))
      (λ _. fits 0 _ (lit≤ tt) (omega (arith, tally_within (m.legal x) m.count)))

  settle_small : (p : ℕ) → Small (settle v.means t p)
  unfolding scanned
  settle_small p =
      cond_both (ltb p t.len) (scanned v.means (used t) (state_at v.means t p)) (Err NoSuchPlace) Small
      (λ _. decided_small (state_at v.means t p) _)
      (λ _. fits 12 0 (lit≤ tt) (lit≤ tt))

  shown_small : (p : ℕ) → Narrow (shown v.means t p).0
  shown_small p =
      let m = v.means in
      cond_both {A = (ℕ × ℕ) × S} (ltb p t.len) (answer_of (Ok p), state_at m t p) (answer_of (Err NoSuchPlace), m.first) (λ q. Narrow q.0)
      (λ h. fits 0 p (lit≤ tt) (omega (arith, ltb-true _ _ h)))
      (λ _. fits 12 0 (lit≤ tt) (lit≤ tt))

  verdict_small : Small (verdict v.means t)
  verdict_small =
      let m = v.means in
      cond_both (is_some (find m m.first (used t))) _ (Err FirstNotListed) Small
      (λ _. at_place (λ k. Err (Unsettled k)) _ (λ c. not c.settled) (λ k le. fits 16 k (lit≤ tt) le) (fits 0 _ (lit≤ tt) len))
      (λ _. fits 15 0 (lit≤ tt) (lit≤ tt))

  pub reply_small : (tag : Tag) (ns : List ℕ) → length ns ≤ most → Narrow (reply v t tag ns)
  reply_small tag ns h =
      cond_both (is Offr tag) (answer_of (offer_of v t (v.restored ns))) _ Narrow
      (λ _. offer_small (v.restored ns))
      (λ _. cond_both (is Setl tag) (answer_of (settle v.means t (nth ns 0))) _ Narrow
      (λ _. settle_small (nth ns 0))
      (λ _. cond_both (is Show tag) (shown v.means t (nth ns 0)).0 _ Narrow
      (λ _. shown_small (nth ns 0))
      (λ _. cond_both (is Verd tag) (answer_of (verdict v.means t)) _ Narrow
      (λ _. verdict_small)
      (λ _. cond_both (is Runs tag) (answer_of (judged v.means ns)) _ Narrow
      (λ _. judged_within v.means ns v.means.first 0 (omega arith))
      (λ _. unheard_small tag)))))

-- a state that is shown is one of a session's table, so it fits
pub shown_fits : {S : Type 0} (v : Logged S) → Lawful v.means → (t : Listing S) → Reached v.means t → (tag : Tag) (ns : List ℕ) (x : S) → state_shown v t tag ns ≡ Some x → v.means.fits x ≡ true
shown_fits {S} v law t h tag ns x e =
    let P : Option S → Type 0 = λ o. o ≡ Some x → v.means.fits x ≡ true in
    cond_both (is_shown v t tag ns) (Some (state_at v.means t (nth ns 0))) None P
    (λ b q. let same : state_at v.means t (nth ns 0) ≡ x = cc in
    ap v.means.fits (sym same) ∙ (good_reached v.means law t h).fits (nth ns 0) (ltb-true _ _ (and_parts (is Show tag) _ b).1))
    (λ _ q. let z : ◌≡◌ {A = ℕ} 0 1 = cc in absurd (omega arith))
    e

-- where none is shown the answer is the reply's
pub says_reply : {S : Type 0} (v : Logged S) (t : Listing S) (tag : Tag) (ns : List ℕ) → ((x : S) → state_shown v t tag ns ≡ Some x → ⊥) → says_in v t tag ns ≡ answered tag (reply v t tag ns)
says_reply v t tag ns n =
    cond_both (is_shown v t tag ns) (Some (state_at v.means t (nth ns 0))) None (λ o. ((x : _) → o ≡ Some x → ⊥) → says_in v t tag ns ≡ answered tag (reply v t tag ns))
    (λ _ f. absurd (f _ refl))
    (λ b _. cond-false (is_shown v t tag ns) _ _ b)
    n

-- one line more: what is written so far, with the log of what is left, is the log of the whole
pub spelled_more : (out out' : List ℕ) (a : Said) (rest : List Said) → out' ≡ out ++ line_spelled a → out' ++ spelled rest ≡ out ++ spelled (a ∷ rest)
spelled_more out out' a rest e = ap (λ (x : List ℕ). x ++ spelled rest) e ∙ append_assoc out (line_spelled a) (spelled rest)
