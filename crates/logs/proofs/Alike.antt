-- What the cells of a session held before it was opened makes no difference: tables that are alike in the cells in
-- use, and in the number of cells, answer alike and stay alike.
use Rattle.std.proofs.Common.{◌≡◌, ℕ, ◌+◌, ◌<◌, ◌≤◌, min, Bool, true, false, cond, ◌&&◌, ltb, List, [], ◌∷◌, ◌++◌, length, get_or, set, is_some, Some, None, Option, sym, refl, ap, ◌∙◌, subst, arith, length-set, Ok, Err}
use Rattle.std.specs.Option.{option_map_or}
use lib.Seq.{take-set-lt}
use Rattle.std.proofs.lemmas.List.{get_or-take, take_more_set}
use Rattle.std.proofs.lemmas.Bool.{eqb-true, ltb-true, and_parts}
use Rattle.systems.specs.Outcomes.{Outcome, answer_of, accepts}
use Rattle.systems.specs.declared.outcome.Refusal.TheVariants.{Unfit, Bad, Listed, Full, FirstNotListed, Unsettled}
use Rattle.sessions.specs.declared.cell.Cell.{Cell}
use Rattle.sessions.specs.Tables.{Listing, cell, empty, used, most_places, state_at, find, unsettled}
use Rattle.sessions.specs.Calls.{offer, offered, scanned, settle, settled, shown, verdict}
use Rattle.sessions.proofs.Tables.{offer_facts, settle_facts}
use Rattle.lines.specs.declared.tag.Tag.{Tag}
use Rattle.lines.specs.declared.tag.Tag.TheVariants.{Offr, Setl, Show, Verd}
use Rattle.logs.specs.Answers.{Said, is, nth, answered}
use Rattle.logs.specs.Serving.{Logged, offer_of, after_offer, reply, is_shown, says_in, goes_in, served}

-- two tests that agree, with ways that agree where they are taken
pub both_conds : {A : Type 0} (R : A → A → Type 0) (b c : Bool) (w x y z : A) → b ≡ c → (b ≡ true → R w x) → (b ≡ false → R y z) → R (cond b w y) (cond c x z)
both_conds R b c w x y z e p q = subst (λ d. R (cond b w y) (cond d x z)) e (ways b p q)
  where
    ways : (b : Bool) → (b ≡ true → R w x) → (b ≡ false → R y z) → R (cond b w y) (cond b x z)
    ways true p q = p refl
    ways false p q = q refl

pub record Alike {S : Type 0} (t u : Listing S) : Type 0 where
  pub len : t.len ≡ u.len
  pub cells : length t.cells ≡ length u.cells
  pub same : used t ≡ used u
  pub within : t.len ≤ length t.cells

pub alike_empty : {S : Type 0} (cs ds : List (Cell S)) → length cs ≡ length ds → Alike (empty cs) (empty ds)
alike_empty cs ds e = record { len = refl; cells = e; same = refl; within = omega arith }

module _ {S : Type 0} (v : Logged S) (t u : Listing S) (a : Alike t u) where
  state_alike : (p : ℕ) → p < t.len → state_at v.means t p ≡ state_at v.means u p
  state_alike p lt =
      let d = cell v.means.first false in
      let lu : p < u.len = omega (arith, a.len) in
      ap (λ (c : Cell S). c.state) (sym (get_or-take t.len t.cells p d lt) ∙ ap (λ (us : List (Cell S)). get_or us p d) a.same ∙ get_or-take u.len u.cells p d lu)

  -- the calls look at the cells in use and at how many cells there are
  offer_by : List (Cell S) → ℕ → ℕ → S → Outcome
  offer_by us n r x =
      cond (v.means.fits x)
      (cond (v.means.bad x) (Err Bad)
      (option_map_or (λ p. Err (Listed p)) (find v.means x us) (cond (ltb n (min r most_places)) (Ok n) (Err Full))))
      (Err Unfit)

  offer_alike : (x : S) → offer v.means t x ≡ offer v.means u x
  unfolding offer_by
  offer_alike x =
      ap (λ us. offer_by us t.len (length t.cells) x) a.same ∙ ap (λ n. offer_by (used u) n (length t.cells) x) a.len
      ∙ ap (λ r. offer_by (used u) u.len r x) a.cells

  settle_alike : (p : ℕ) → settle v.means t p ≡ settle v.means u p
  settle_alike p =
      let m = v.means in
      both_conds (λ (x y : Outcome). x ≡ y) (ltb p t.len) (ltb p u.len) _ _ _ _ (ap (ltb p) a.len)
      (λ h. ap (λ us. scanned m us (state_at m t p)) a.same ∙ ap (scanned m (used u)) (state_alike p (ltb-true _ _ h))) (λ _. refl)

  shown_alike : (p : ℕ) → shown v.means t p ≡ shown v.means u p
  shown_alike p =
      both_conds (λ (x y : (ℕ × ℕ) × S). x ≡ y) (ltb p t.len) (ltb p u.len) _ _ _ _ (ap (ltb p) a.len)
      (λ h. ap (λ (x : S). (answer_of (Ok p), x)) (state_alike p (ltb-true _ _ h))) (λ _. refl)

  verdict_by : List (Cell S) → ℕ → Outcome
  verdict_by us n =
      cond (is_some (find v.means v.means.first us)) (option_map_or (λ p. Err (Unsettled p)) (unsettled us) (Ok n)) (Err FirstNotListed)

  verdict_alike : verdict v.means t ≡ verdict v.means u
  unfolding verdict_by
  verdict_alike = ap (λ us. verdict_by us t.len) a.same ∙ ap (verdict_by (used u)) a.len

  offer_of_alike : (o : Option S) → offer_of v t o ≡ offer_of v u o
  offer_of_alike None = refl
  offer_of_alike (Some x) = offer_alike x

  reply_alike : (tag : Tag) (ns : List ℕ) → reply v t tag ns ≡ reply v u tag ns
  reply_alike tag ns =
      let R : ℕ × ℕ → ℕ × ℕ → Type 0 = λ x y. x ≡ y in
      both_conds R (is Offr tag) (is Offr tag) _ _ _ _ refl (λ _. ap answer_of (offer_of_alike (v.restored ns)))
      (λ _. both_conds R (is Setl tag) (is Setl tag) _ _ _ _ refl (λ _. ap answer_of (settle_alike (nth ns 0)))
      (λ _. both_conds R (is Show tag) (is Show tag) _ _ _ _ refl (λ _. ap (λ (q : (ℕ × ℕ) × S). q.0) (shown_alike (nth ns 0)))
      (λ _. both_conds R (is Verd tag) (is Verd tag) _ _ _ _ refl (λ _. ap answer_of verdict_alike) (λ _. refl))))

  pub says_alike : (tag : Tag) (ns : List ℕ) → says_in v t tag ns ≡ says_in v u tag ns
  says_alike tag ns =
      both_conds (λ (x y : Said). x ≡ y) (is_shown v t tag ns) (is_shown v u tag ns) _ _ _ _ (ap (λ n. is Show tag && ltb (nth ns 0) n) a.len)
      (λ h. ap (λ x. (Offr, v.numbers x)) (state_alike (nth ns 0) (ltb-true _ _ (and_parts (is Show tag) _ h).1))) (λ _. ap (answered tag) (reply_alike tag ns))

  offered_alike : (x : S) → Alike (offered v.means t x) (offered v.means u x)
  offered_alike x =
      let m = v.means in
      both_conds Alike (accepts (offer m t x)) (accepts (offer m u x)) _ _ _ _ (ap accepts (offer_alike x))
      (λ h.
      let lt : t.len < length t.cells = omega (arith, (offer_facts m t x (eqb-true _ 0 h)).2) in
      let lu : u.len < length u.cells = omega (arith, a.len, a.cells) in
      record {
        len = ap (λ n. n + 1) a.len;
        cells = simp length-set a.cells;
        same = take_more_set t.cells t.len (cell x false) lt ∙ ap (λ us. us ++ cell x false ∷ []) a.same ∙ sym (take_more_set u.cells u.len (cell x false) lu);
        within = simp length-set (omega arith);
      })
      (λ _. a)

  after_offer_alike : (o : Option S) → Alike (after_offer v t o) (after_offer v u o)
  after_offer_alike None = a
  after_offer_alike (Some x) = offered_alike x

  settled_alike : (p : ℕ) → Alike (settled v.means t p) (settled v.means u p)
  settled_alike p =
      let m = v.means in
      both_conds Alike (accepts (settle m t p)) (accepts (settle m u p)) _ _ _ _ (ap accepts (settle_alike p))
      (λ h.
      let lt : p < t.len = (settle_facts m t p (eqb-true _ 0 h)).0 in
      let lu : p < u.len = omega (arith, a.len) in
      record {
        len = a.len;
        cells = simp length-set a.cells;
        same =
            take-set-lt t.len t.cells p (cell (state_at m t p) true) lt ∙ ap (λ us. set us p (cell (state_at m t p) true)) a.same
            ∙ ap (λ x. set (used u) p (cell x true)) (state_alike p lt) ∙ sym (take-set-lt u.len u.cells p (cell (state_at m u p) true) lu);
        within = simp length-set a.within;
      })
      (λ _. a)

  pub goes_alike : (tag : Tag) (ns : List ℕ) → Alike (goes_in v t tag ns) (goes_in v u tag ns)
  goes_alike tag ns =
      both_conds Alike (is Offr tag) (is Offr tag) _ _ _ _ refl (λ _. after_offer_alike (v.restored ns))
      (λ _. both_conds Alike (is Setl tag) (is Setl tag) _ _ _ _ refl (λ _. settled_alike (nth ns 0)) (λ _. a))

-- so all answers in a session are alike
pub served_alike : {S : Type 0} (v : Logged S) (ls : List Said) (t u : Listing S) → Alike t u → served v t ls ≡ served v u ls
served_alike v [] t u a = refl
served_alike v (l ∷ ls) t u a =
    ap (λ x. x ∷ served v (goes_in v t l.0 l.1) ls) (says_alike v t u a l.0 l.1)
    ∙ ap (λ xs. says_in v u l.0 l.1 ∷ xs) (served_alike v ls (goes_in v t l.0 l.1) (goes_in v u l.0 l.1) (goes_alike v t u a l.0 l.1))
