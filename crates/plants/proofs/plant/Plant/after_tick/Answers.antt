-- A legal choice is at a state that fits, whose records after rule 2 have room to grow.
use Rattle.std.proofs.Common.{sym}
use mathlib.Core.Path.{subst⁻¹}
use Rattle.plants.specs.Records.{at, Low}
use Rattle.plants.specs.Entered.{valid_parts}
use Rattle.plants.specs.Ticks.{legal_parts, low_claiming}
use Rattle.plants.proofs.plant.Plant.after_tick.Goals as goal

pub after_growth-requires : goal.after_growth-requires
after_growth-requires g c =
    let l = c.args.self.now.layout in
    let ok = legal_parts (g.P.Policy.order c.args.self.now.policy) l c.args.choice c.args.state.records (sym c.if-not-allows.ensures) in
    λ k lt.
    subst⁻¹ (λ rs. Low (at rs k)) c.claiming-claims.ensures
    (low_claiming l (valid_parts l c.args.self.now.valid) c.args.choice c.args.state.records ok.fitting k lt)
