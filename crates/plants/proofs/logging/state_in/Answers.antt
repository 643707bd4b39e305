-- Each turn restores one record more, and the first four that are none decide.
use Rattle.std.proofs.Common.{◌≡◌, ◌*◌, ◌/◌, [], Some, length, slice_index_or, sym, ap, ◌∙◌, arith}
use Rattle.std.proofs.lemmas.Bool.{and_from, and_right, cond-true, cond-false, eq-eqb, eqb-true}
use Rattle.plants.specs.Each.{upto_more, upto_all}
use Rattle.plants.specs.Numbers.{per_task, record_in, is_phase_at, is_state, state_with}
use Rattle.plants.specs.PlantLaws.{of_records}
use Rattle.plants.specs.Steps.{all_more, all_stops, all_ended}
use Rattle.plants.proofs.Fours.{is_record, no_record}
use Rattle.plants.proofs.logging.state_in.Goals as goal

pub returns-in_err-state : goal.returns-in_err-state
returns-in_err-state c =
    let ns = c.args.given.now in
    let n = c.args.n in
    let here = no_record (length ns / per_task) ns c.loop-i.i (omega arith) (ap (λ fs. record_in (slice_index_or fs c.loop-i.i [])) (sym c.as_chunks.ensures.front) ∙ sym c.record_in.ensures ∙ c.in_err-state.was) in
    let not = and_right _ _ (all_stops (is_phase_at ns) n c.loop-i.i (omega arith) here) in
    c.from_residual.ensures ∙ sym (cond-false (is_state n ns) _ _ not)

pub loop-i-preserved : goal.loop-i-preserved
loop-i-preserved c =
    let ns = c.args.given.now in
    let here = is_record (length ns / per_task) ns c.loop-i.i c.in_ok-state.field-0 (omega arith) (ap (λ fs. record_in (slice_index_or fs c.loop-i.i [])) (sym c.as_chunks.ensures.front) ∙ sym c.record_in.ensures ∙ c.in_ok-state.was) in
    record {
      phases = all_more _ c.loop-i.i c.loop-i.invariant.phases here.0;
      records = upto_more _ _ c.loop-i.i c.loop-i.state.records _ (omega arith) c.loop-i.invariant.records (sym here.1);
    }

pub returns : goal.returns
unfolding state_with
returns c =
    let ns = c.args.given.now in
    let n = c.args.n in
    let end : c.loop-i.i ≡ n = omega arith in
    let long : length ns ≡ per_task * n = omega (arith, eqb-true _ _ (sym c.if-not-is_empty.ensures)) in
    ap (λ s. Some s) (of_records c.loop-i.state (state_with n ns) (upto_all _ _ _ c.loop-i.i _ end c.loop-i.invariant.records))
    ∙ sym (cond-true (is_state n ns) _ _ (and_from _ _ (eq-eqb _ _ long) (all_ended _ n c.loop-i.i end c.loop-i.invariant.phases)))
