-- Sameness of records is equality.
use Rattle.std.specs.Prelude.{◌≡◌, ℕ, true, List, Decides, refl}
use Rattle.std.proofs.Common.{ap, sym, subst, ◌∙◌, arith}
use Rattle.std.proofs.lemmas.Bool.Decides.{nat_tests}
use Rattle.std.proofs.lemmas.Slice.Eq.{slice_eq-Decides}
use Rattle.plants.specs.Records.{rec, phase_number, phase_of, same_record, same_records}
use Rattle.plants.specs.declared.state.Record.{Record}
use Rattle.plants.specs.declared.state.Phase.{Phase}
use Rattle.plants.specs.declared.state.Phase.TheVariants.{Before, Done, Held, Ready}

pub phase_back : (p : Phase) → phase_of (phase_number p) ≡ p
phase_back Before = refl
phase_back Done = refl
phase_back Held = refl
phase_back Ready = refl

pub record_same : (p q : Phase) (a b c d e f : ℕ) → p ≡ q → a ≡ b → c ≡ d → e ≡ f → rec p a c e ≡ rec q b d f
record_same p q a b c d e f h i j k = cc

same_record_decides : (x y : Record) → Decides (same_record x y) (x ≡ y)
same_record_decides x y = (
  (λ h.
      let number : phase_number x.phase ≡ phase_number y.phase = grind (arith, nat_tests) in
      record_same x.phase y.phase x.since y.since x.run y.run x.waited y.waited
      (sym (phase_back x.phase) ∙ ap phase_of number ∙ phase_back y.phase) (grind (arith, nat_tests)) (grind (arith, nat_tests)) (grind (arith, nat_tests))),
  λ e. subst (λ z. same_record x z ≡ true) e (grind (arith, nat_tests)),
)

pub same_decides : (xs ys : List Record) → Decides (same_records xs ys) (xs ≡ ys)
same_decides xs ys = slice_eq-Decides same_record_decides xs ys (same_records xs ys) refl
