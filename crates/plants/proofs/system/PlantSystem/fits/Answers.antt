-- The reply decides whether the state fits by the rules.
use Rattle.std.proofs.lemmas.Bool.Decides.{Decides-at}
use Rattle.plants.specs.Entered.{valid_parts}
use Rattle.plants.specs.Decided.{fits_decides}
use Rattle.plants.proofs.system.PlantSystem.fits.Goals as goal

pub returns : goal.returns
returns g c =
    let l = c.args.self.now.layout in
    let v = valid_parts l c.args.self.now.valid in
    record { reply = c.fits.ensures; rules = Decides-at _ _ c.fits.ensures (fits_decides l c.args.state.now v.tasks_few) }
