-- O13, at single instructions.
use Rattle.std.proofs.Common.{◌≡◌, ◌↔◌, inl, inr, Bool, true, false, not, refl, List, Some, IsTrue}
use Rattle.spv_table.specs.Table.{Table}
use Rattle.spv_module.specs.declared.opcode.TheConstants as opcode
use Rattle.spv_module.specs.Operand.{PlainInst}
use Rattle.spv_type_forms.specs.declared.form.Form.TheVariants as form
use Rattle.spv_type_forms.specs.declared.form.Scalar.TheVariants as scalar
use Rattle.spv_type_forms.specs.Form.{form_in}
use Rattle.spv_declarations.specs.Declarations.{HasBytes, NeedsAnother}

pub needs_tells : (G : Table) (is : List PlainInst) (i : PlainInst) (b d : Bool)
    → (i.opcode ≡ opcode.MEMORY_MODEL → ⊥) → (IsTrue d ↔ (form_in i ≡ Some (form.Scalar (scalar.Int 8))))
    → d ≡ true → (IsTrue b ↔ HasBytes G is) → IsTrue (not b) ↔ NeedsAnother G is i
needs_tells G is i true d o t e h = (
  λ y. let no : false ≡ true = y in absurd (cc),
  λ n. elim n [
    | inl k ↦ absurd (k.1 (h.0 refl))
    | inr k ↦ absurd (o k.0)
  ],
)
needs_tells G is i false d o t e h =
    (λ y. inl (t.0 e, λ p. let no : false ≡ true = h.1 p in cc), λ n. refl)
