-- The element takes the first of the places that were not in use.
use Rattle.std.proofs.Common.{◌≡◌, ℕ, ◌+◌, ◌-◌, ◌<◌, ◌≤◌, List, length, take, drop, set, replicate, ap, sym, ◌∙◌, arith, drop-drop}
use Rattle.std.proofs.lemmas.List.{length-set, length-take-le, drop-set-lt, drop-replicate}
use Rattle.plants.proofs.fixed_list.FixedList.push.Goals as goal

module _ {T : Type 0} where
  -- a place below the capacity
  room : (most k : ℕ) (ts xs : List T) → k ≤ most → length xs ≡ most → take k xs ≡ ts → length ts < most → k < most
  room most k ts xs h l e lt = omega (arith, ap length e, length-take-le k xs (omega arith))

  -- the places behind the element
  unused_left : (xs : List T) (k m : ℕ) (x filler : T) → drop k xs ≡ replicate m filler → drop (k + 1) (set xs k x) ≡ replicate (m - 1) filler
  unused_left xs k m x filler e = drop-set-lt (k + 1) xs k x (omega arith) ∙ sym (drop-drop 1 k xs) ∙ ap (drop 1) e ∙ drop-replicate 1 m filler

pub invariant_of-self : goal.invariant_of-self
invariant_of-self g c =
    let most = g.row.CAP in
    let k = c.self.inside.count in
    let xs = c.self.inside.places in
    let lt : k < most = room most k _ xs c.self.invariant.0 c.self.invariant.1 c.self.view_is c.requires in
    let fewer : most - k - 1 ≡ most - (k + 1) = omega arith in
    (omega arith, length-set xs k _ ∙ c.self.invariant.1, unused_left xs k (most - k) _ _ c.self.invariant.2 ∙ ap (λ m. replicate m g.T.Unused.filler) fewer)
