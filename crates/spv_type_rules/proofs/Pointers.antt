-- Whether an id is defined after an instruction as a pointer, by its one definition.
use Rattle.std.proofs.Common.{◌≡◌, ◌<◌, ◌↔◌, ℕ, List, Option, Some, None, sym, ◌∙◌, subst}
use Rattle.std.specs.Prelude.{slice_get, IsTrue, false}
use Rattle.spv_module.specs.Operand.{PlainInst}
use Rattle.spv_ids.specs.Outcome.{IsDefinitionOf, IsOnly}
use Rattle.spv_type_forms.specs.Form.{form_in}
use Rattle.spv_type_forms.specs.Types.{class_in}
use Rattle.spv_type_rules.specs.Declaration.{IsPointerAfter}

pub pointer_told : (is : List PlainInst) (n t class m : ℕ) (i : PlainInst) → IsOnly is t m → slice_get is m ≡ Some i
    → ((n < m) × (class_in (form_in i) ≡ Some class)) ↔ IsPointerAfter is n t class
pointer_told is n t class m i one at = (
  λ two.
      let same : i ≡ one.there.inst = let e : Some i ≡ Some one.there.inst = sym at ∙ one.there.there in cc in
      record { place = m; after = two.0; defined = one.there; pointer = rw (← same) two.1 },
  λ p.
      let e : p.place ≡ m = one.only p.place p.defined in
      let there : slice_get is m ≡ Some p.defined.inst = rw (← e) p.defined.there in
      let same : i ≡ p.defined.inst = let f : Some i ≡ Some p.defined.inst = sym at ∙ there in cc in
      (rw (← e) p.after, rw same p.pointer),
)

pub no_pointer : (is : List PlainInst) (n t class : ℕ) (o : Option ℕ) → IsDefinitionOf is t o → o ≡ None
    → IsPointerAfter is n t class → ⊥
no_pointer is n t class o one e p = let never : IsDefinitionOf is t None = subst (IsDefinitionOf is t) e one in
    never p.place p.defined

pub never_true : IsTrue false → ⊥
never_true e = cc
