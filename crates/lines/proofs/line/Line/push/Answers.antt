-- The number takes the place of the first zero.
use Rattle.std.proofs.Common.{◌≡◌, ℕ, ◌+◌, ◌-◌, ◌<◌, ◌≤◌, List, ◌∷◌, [], ◌++◌, length, take, drop, set, replicate, ap, sym, ◌∙◌, arith, drop-drop}
use Rattle.std.proofs.lemmas.List.{length-set, length-take-le, drop-set-lt, drop-replicate, take_more_set}
use Rattle.lines.specs.Spelling.{most}
use Rattle.lines.proofs.line.Line.push.Goals as goal

-- a place below the most
room : (k : ℕ) (ns xs : List ℕ) → k ≤ most → length xs ≡ most → take k xs ≡ ns → length ns < most → k < most
room k ns xs h l e lt = omega (arith, ap length e, length-take-le k xs (omega arith))

-- the zeros behind the number
zeros_left : (xs : List ℕ) (k m n : ℕ) → drop k xs ≡ replicate m 0 → drop (k + 1) (set xs k n) ≡ replicate (m - 1) 0
zeros_left xs k m n e = drop-set-lt (k + 1) xs k n (omega arith) ∙ sym (drop-drop 1 k xs) ∙ ap (drop 1) e ∙ drop-replicate 1 m 0

pub invariant_of-self : goal.invariant_of-self
invariant_of-self c =
    let k = c.self.inside.count in
    let xs = c.self.inside.numbers in
    let lt : k < most = room k _ xs c.self.invariant.0 c.self.invariant.1 (ap (λ v. v.1) c.self.view_is) c.requires in
    let fewer : most - k - 1 ≡ most - (k + 1) = omega arith in
    (omega arith, length-set xs k _ ∙ c.self.invariant.1, zeros_left xs k (most - k) _ c.self.invariant.2 ∙ ap (λ m. replicate m 0) fewer)

pub returns : goal.returns
returns c =
    let k = c.self.inside.count in
    let xs = c.self.inside.numbers in
    let same : take k xs ≡ c.args.self.now.1 = ap (λ v. v.1) c.self.view_is in
    let tag : c.self.inside.tag ≡ c.args.self.now.0 = ap (λ v. v.0) c.self.view_is in
    let lt : k < length xs = omega (arith, room k _ xs c.self.invariant.0 c.self.invariant.1 same c.requires, c.self.invariant.1) in
    let numbers : take (k + 1) (set xs k c.args.number) ≡ c.args.self.now.1 ++ c.args.number ∷ [] = take_more_set xs k c.args.number lt ∙ ap (λ ns. ns ++ c.args.number ∷ []) same in
    λ i. (tag i, numbers i)
