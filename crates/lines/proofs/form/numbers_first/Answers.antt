-- The loop stops at a line feed, or at what is no column; the numbers before it are those of a line, or the bytes are
-- no line.
use Rattle.std.proofs.Common.{◌≡◌, Bool, true, false, ◌∷◌, [], ◌++◌, length, MatchOption, sym, refl, ap, ◌∙◌, arith}
use Rattle.std.proofs.lemmas.Bool.{both_ways}
use Rattle.std.specs.Bool.{then_some}
use Rattle.std.proofs.lemmas.Bool.Decides.{Decides-eqb}
use Rattle.std.proofs.lemmas.Option.{MatchOption-at_none, MatchOption-at_some}
use Rattle.std.proofs.lemmas.Slice.Eq.{strip_prefix_is}
use Rattle.lines.specs.Spelling.{columns, counts, feed}
use Rattle.lines.proofs.Readings.{not_line, not_column, stop_full, stop_column}
use Rattle.lines.proofs.form.numbers_first.Goals as goal

-- what a test picks
picked : {A : Type 0} (b : Bool) (x : A) (P : Type 0) (Q : A → Type 0) → (b ≡ true → Q x) → (b ≡ false → P) → MatchOption (then_some b x) P Q
picked true x P Q pass fail = pass refl
picked false x P Q pass fail = fail refl

pub returns-in-Some : goal.returns-in-Some
returns-in-Some c =
    let ns = c.loop-rest.line.1 in
    let left = c.loop-rest.left.now in
    let t = c.args.line.now.0 in
    let ended = MatchOption-at_some _ _ c.in-Some.rest c.in-Some.is (strip_prefix_is Decides-eqb left (feed ∷ []) c.strip_prefix.result c.strip_prefix.ensures.cases) in
    let counted : c.allows.result ≡ counts t (length ns) =
    c.allows.ensures ∙ ap (λ u. counts u (length c.numbers.result.now)) (c.tag.ensures ∙ c.loop-rest.invariant.same_tag) ∙ ap (λ x. counts t (length x)) c.numbers.ensures in
    record {
      tag = c.loop-rest.invariant.same_tag;
      numbers = rw c.then_some.ensures
          (picked c.allows.result _ _ _
          (λ passed. ((sym counted ∙ passed, c.loop-rest.invariant.small_numbers), c.loop-rest.invariant.read ∙ ap (λ x. columns ns ++ x) ended))
          (λ failed. not_line t _ ns left c.loop-rest.invariant.read (stop_column t _ left (not_column left _ ended) (λ _ _ k. both_ways _ (sym counted ∙ failed) k))));
    }

pub returns-in_err-number : goal.returns-in_err-number
returns-in_err-number c =
    let left = c.loop-rest.left.now in
    let t = c.args.line.now.0 in
    let no_feed = MatchOption-at_none _ _ c.in_default.is (strip_prefix_is Decides-eqb left (feed ∷ []) c.strip_prefix.result c.strip_prefix.ensures.cases) in
    record {
      tag = c.loop-rest.invariant.same_tag;
      numbers = rw c.from_residual.ensures
          (not_line t _ c.loop-rest.line.1 left c.loop-rest.invariant.read (stop_column t _ left c.in_err-number.ensures (λ rest e _. no_feed rest e)));
    }

pub returns-then-is_full : goal.returns-then-is_full
returns-then-is_full c =
    let t = c.args.line.now.0 in
    record {
      tag = c.loop-rest.invariant.same_tag;
      numbers = not_line t _ c.loop-rest.line.1 _ c.loop-rest.invariant.read
          (stop_full t _ c.loop-rest.left.now c.in_ok-number.number c.in_ok-number.rest.now c.in_ok-number.ensures.1 (c.is_full.ensures.0 c.if-is_full.true));
    }
