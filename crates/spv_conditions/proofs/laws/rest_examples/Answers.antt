use Rattle.std.proofs.Common.{◌≡◌, ◌<◌, ℕ, Some, inl, inr, refl, arith}
use Rattle.spv_type_forms.specs.declared.form.Form.TheVariants as form
use Rattle.spv_type_forms.specs.Example.{small}
use Rattle.spv_type_kinds.specs.declared.kinds.Relation.TheVariants.{SameComponent}
use Rattle.spv_conditions.specs.Condition.{Agrees}
use Rattle.spv_conditions.specs.Rest.{IsComponent, IsShare}
use Rattle.spv_conditions.proofs.laws.rest_examples.Goals as goal

no_literal : IsComponent 4 4 → ⊥
no_literal (inl l) = absurd (let m : ◌<◌ 4 4 = l in omega (arith, m))
no_literal (inr e) = let same : ◌≡◌ {A = ℕ} 4 4294967295 = e in absurd (omega (arith, same))

no_share : IsShare small 2 3 → ⊥
no_share (inl e) = let same : ◌≡◌ {A = ℕ} 3 2 = e in absurd (omega (arith, same))
no_share (inr (n, e)) =
    let same : Some (form.Vector 1 4) ≡ Some (form.Vector 2 n) = e in
    let one : ◌≡◌ {A = ℕ} 1 2 = cc in
    absurd (omega (arith, one))

no_component : Agrees small SameComponent 3 13 → ⊥
no_component (c, m, n, e, f) =
    let first : Some (form.Vector 1 4) ≡ Some (form.Vector c m) = e in
    let second : Some (form.Vector 12 4) ≡ Some (form.Vector c n) = f in
    let one : ◌≡◌ {A = ℕ} 1 12 = cc in
    absurd (omega (arith, one))

pub returns : goal.returns
returns c = record {
  literal = inl (omega arith);
  no_literal = no_literal;
  share = inr (4, refl);
  no_share = no_share;
  composite = tt;
  no_composite = λ h. h;
  component = (1, 4, 2, refl, refl);
  no_component = no_component;
}
