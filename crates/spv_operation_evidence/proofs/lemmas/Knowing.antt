-- What is known where Y5 is broken.
use Rattle.std.proofs.Common.{◌≡◌, ◌∙◌, ℕ, List, Option, Some, None, refl, sym, subst, option_and_then}
use Rattle.std.specs.Prelude.{slice_get, IsSome, IsSomeAnd}
use Rattle.spv_table.specs.Table.{Table}
use Rattle.spv_module.specs.Operand.{PlainInst, type_in}
use Rattle.spv_module.specs.Operand as operand
use Rattle.spv_module.specs.Width.{definition_of, type_of}
use Rattle.spv_module.specs.declared.fault.Rule.TheVariants.{Y5}
use Rattle.spv_layout.specs.declared.form.Form.{Form}
use Rattle.spv_layout.specs.declared.form.Form.TheVariants as form
use Rattle.spv_layout.specs.declared.form.Role.TheVariants as role
use Rattle.spv_layout.specs.declared.place.Place.{Place}
use Rattle.spv_layout.specs.Shape.{HasForms, FitsShape, IsUse}
use Rattle.spv_ids.specs.Definition.{IsUsedAt}
use Rattle.spv_type_rules.specs.roles.Outcome.{AreInRole}
use Rattle.spv_type_rules.specs.roles.inner.Role.{IsValue}
use Rattle.spv_ops.specs.Typed.{IsTyped}
use Rattle.spv_evidence.specs.declared.evidence.Evidence.{Evidence}
use Rattle.spv_operation_evidence.specs.Broken.{IsBroken}
use Rattle.spv_operation_evidence.specs.Evidence.{IsEvidence, Shows}
use Rattle.spv_operation_evidence.specs.inner.Values.{IsTypeable}

-- a value is declared with a type
value_declared : (o : Option PlainInst) → IsSomeAnd o IsValue
    → (u : ℕ) × (option_and_then (λ i. type_in i.operands) o ≡ Some u)
value_declared None h = absurd h
value_declared (Some d) h = of (type_in d.operands) h.0 where
  of : (p : Option ℕ) → IsSome p → (u : ℕ) × (p ≡ Some u)
  of None k = cc
  of (Some u) k = (u, refl)

declared : (G : Table) (is : List PlainInst) (n : ℕ) (i : PlainInst) (gs : List Form) → AreInRole G is
    → slice_get is n ≡ Some i → HasForms G i gs
    → (k x : ℕ) → slice_get gs k ≡ Some (form.Id role.Value) → slice_get i.operands k ≡ Some (operand.Id x)
    → (u : ℕ) × (type_of is x ≡ Some u)
declared G is n i gs roles at has k x g o =
    let asked : IsUse G i k x role.Value = record {
      forms = gs;
      has = has;
      form = form.Id role.Value;
      operand = operand.Id x;
      form_at = g;
      operand_at = o;
      role = refl;
      id = refl;
    } in
    let used : IsUsedAt G is n k x role.Value = record { inst = i; there = at; used = asked } in
    value_declared (definition_of is x) (roles.each n k x role.Value used)

typeable : (G : Table) (is : List PlainInst) (n : ℕ) (i : PlainInst) → FitsShape G i → AreInRole G is
    → slice_get is n ≡ Some i → IsTypeable G is i
typeable G is n i fits roles at =
    record { forms = fits.forms; has = fits.has; each = declared G is n i fits.forms roles at fits.has }

-- The instruction that is looked at, by a list that is the same.
pub record Known (G : Table) (is : List PlainInst) (n : ℕ) (i : PlainInst) : Type 0 where
  pub fits : FitsShape G i
  pub typeable : IsTypeable G is i
  pub never : ¬ (IsTyped G is n i)

pub known_of : (G : Table) (is js : List PlainInst) (places : List Place) (n : ℕ) (i : PlainInst) → js ≡ is
    → slice_get js n ≡ Some i → IsBroken G is places n → Known G js n i
known_of G is js places n i e at b =
    subst (λ ks. Known G ks n i) (sym e) (here (subst (λ ks. slice_get ks n ≡ Some i) e at)) where
      here : slice_get is n ≡ Some i → Known G is n i
      here there =
          let same : i ≡ b.inst = let f : Some i ≡ Some b.inst = sym there ∙ b.there in cc in
          let fits = b.plan.fits n i there in
          record {
            fits = fits;
            typeable = typeable G is n i fits b.roles there;
            never = λ h. b.broken (subst (IsTyped G is n) same h);
          }

pub is_evidence : (G : Table) (is js : List PlainInst) (n : ℕ) (i : PlainInst) (e : Evidence) → js ≡ is
    → slice_get js n ≡ Some i → Shows G js n i Y5 e → IsEvidence G is Y5 n e
is_evidence G is js n i e same at s =
    subst (λ ks. IsEvidence G ks Y5 n e) same (record { inst = i; there = at; shows = s })
