use Rattle.std.proofs.Common.{◌≡◌, ℕ, Some, refl, arith, inl, inr}
use Rattle.spv_type_forms.proofs.Worked.{no_last, lone_section, no_seven}
use Rattle.spv_conditions.proofs.laws.variable_examples.Goals as goal

same_number : (x y : ℕ) → Some x ≡ Some y → x ≡ y
same_number x y e = cc

pub returns : goal.returns
returns c = record {
  class = refl;
  no_class = λ e. (let same = same_number 5 4 e in absurd (omega (arith, same)));
  constant = inl refl;
  initializer = λ h. elim h [
    | inl a ↦ a
    | inr b ↦ no_seven b.place b.defined
  ];
  place = inl (lone_section, λ e. cc, λ e. cc);
  no_place = λ h. elim h [
    | inl a ↦ a.1 refl
    | inr b ↦ no_last 0 b.0 b.1.begun
  ];
}
