-- The chain tests the records in turn, and each call knows that there are as many as there should be.
use Rattle.std.proofs.Common.{◌≡◌, ℕ, Bool, true, false, ◌&&◌, length, eqb, refl, ◌∙◌, rules}
use Rattle.std.proofs.lemmas.Iterator.{YieldsList-from_range}
use Rattle.std.proofs.lemmas.Iterator.Search.{all_from_yields_List}
use borrow.Author.Tests.{tests}
use Rattle.plants.specs.Limits.{most_tasks}
use Rattle.plants.specs.Below.{all_below}
use Rattle.plants.specs.Tick.{fits_at, state_fits}
use Rattle.plants.proofs.states.fits.Goals as goal

with_length : (b : Bool) (p : ℕ → Bool) → all_below (λ k. b && p k) most_tasks ≡ (b && all_below p most_tasks)
with_length true p = refl
with_length false p = refl

pub returns : goal.returns
unfolding state_fits
returns c =
    let l = c.args.layout.now in
    let rs = c.args.state.now.records in
    all_from_yields_List (λ k. eqb (length rs) most_tasks && fits_at l rs k) _ _ _ c.all.ensures.ran (YieldsList-from_range 0 most_tasks most_tasks refl refl)
    (λ x b q k. search (rules, tests))
    ∙ with_length (eqb (length rs) most_tasks) (fits_at l rs)
