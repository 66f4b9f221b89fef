use Rattle.std.proofs.Common.{◌≡◌, ℕ, [], ◌∷◌, Some, refl, arith, inl, inr}
use Rattle.spv_type_forms.specs.declared.form.Form.TheVariants as form
use Rattle.spv_type_forms.specs.declared.form.Sort.TheVariants as sort
use Rattle.spv_conditions.specs.declared.asked.Asked.{Asked}
use Rattle.spv_conditions.specs.declared.asked.Asked.TheVariants as asked
use Rattle.spv_type_kinds.specs.declared.kinds.Kind.TheVariants.{Int}
use Rattle.spv_conditions.specs.declared.seat.Seat.TheVariants as seat
use Rattle.spv_type_forms.specs.declared.form.Scalar.TheVariants as scalar
use Rattle.spv_type_forms.proofs.Twins.{structs_match}
use Rattle.spv_conditions.proofs.laws.condition_examples.Goals as goal

int_width : (v w : ℕ) → scalar.Int v ≡ scalar.Int w → v ≡ w
int_width v w e = cc

same_class : (a b p q : ℕ) → Some (form.Pointer a p) ≡ Some (form.Pointer b q) → a ≡ b
same_class a b p q e = cc

no_float : (w : ℕ) → Some (form.Scalar (scalar.Float 32)) ≡ Some (form.Scalar (scalar.Int w)) → ⊥
no_float w e = cc

other_lists : (a b c : Asked) → a ∷ b ∷ [] ≡ c ∷ [] → ⊥
other_lists a b c e = cc

pub returns : goal.returns
returns c = record {
  kind = refl;
  no_kind = λ e. (let no : sort.Float ≡ sort.Int = e in cc);
  count = refl;
  no_count = λ e. (let same : ◌≡◌ {A = ℕ} 1 4 = e in absurd (omega (arith, same)));
  width = λ e. (let same = int_width 32 64 e in absurd (omega (arith, same)));
  no_width = λ h. h refl;
  class = (5, 2, 6, refl, refl);
  no_class = λ h. (
      let a = same_class 5 h.0 2 h.1 h.3 in
      let b = same_class 8 h.0 2 h.2 h.4 in
      absurd (omega (arith, a, b)));
  matches = (λ e. (let never_so : ◌≡◌ {A = ℕ} 2 3 = e in cc), structs_match);
  itself = λ h. h.0 refl;
  named = inr (inl refl);
  generic = λ h. elim h [
    | inl a ↦ (let same : ◌≡◌ {A = ℕ} 8 4 = a in absurd (omega (arith, same)))
    | inr b ↦ elim b [
      | inl a ↦ (let same : ◌≡◌ {A = ℕ} 8 5 = a in absurd (omega (arith, same)))
      | inr a ↦ (let same : ◌≡◌ {A = ℕ} 8 7 = a in absurd (omega (arith, same)))
    ]
  ];
  first = record {
    before = asked.Kind Int (seat.Value 0) ∷ [];
    after = [];
    all = refl;
    hold = ((32, refl), tt);
    fails = λ h. no_float h.0 h.1;
  };
  not_first = λ f. f.fails (32, refl);
  each = refl;
  indexes = refl;
  no_indexes = λ e. (let no : [] ≡ asked.Kind Int (seat.Value 1) ∷ [] = e in cc);
}
