-- An id that declares some form is that of a type declaration.
use Rattle.std.proofs.Common.{◌≡◌, ◌≤◌, ℕ, List, Option, Some, None, Bool, true, false, nat_eq, if◌then◌else◌, refl}
use Rattle.std.proofs.Common.{lit≤, inl, inr, ◌⊎◌}
use Rattle.std.specs.Prelude.{IsSome, IsSomeAnd, option_and_then, option_map}
use Rattle.std.proofs.lemmas.Bool.{eqb-true}
use Rattle.spv_module.specs.declared.opcode.TheConstants as opcode
use Rattle.spv_module.specs.Operand.{PlainInst}
use Rattle.spv_module.specs.Width.{definition_of}
use Rattle.spv_type_forms.specs.declared.form.Form.{Form}
use Rattle.spv_type_forms.specs.declared.form.Form.TheVariants as form
use Rattle.spv_type_kinds.specs.declared.kinds.Object.{Object}
use Rattle.spv_type_forms.specs.Form.{form_in, form_of, object_of}
use Rattle.spv_type_rules.specs.roles.inner.Role.{IsTypeDeclaration}

abbrev IsTypeOpcode : ℕ → Type 0
IsTypeOpcode n = ((opcode.TYPE_VOID ≤ n) × (n ≤ opcode.TYPE_PIPE))
    ⊎ (n ≡ opcode.TYPE_PIPE_STORAGE) ⊎ (n ≡ opcode.TYPE_NAMED_BARRIER)

one_more : {A : Type 0} (n a : ℕ) (x y : Option A) (b : Bool) → nat_eq n a ≡ b → IsTypeOpcode a
    → (IsSome y → IsTypeOpcode n) → IsSome (if b then x else y) → IsTypeOpcode n
one_more n a x y true e within rest h = let same : n ≡ a = eqb-true n a e in rw same within
one_more n a x y false e within rest h = rest h

objects : (n : ℕ) → IsSome (object_of n) → IsTypeOpcode n
objects n h =
    one_more n opcode.TYPE_IMAGE _ _ (nat_eq n opcode.TYPE_IMAGE) refl (inl (lit≤ tt, lit≤ tt)) (λ h1.
    one_more n opcode.TYPE_SAMPLER _ _ (nat_eq n opcode.TYPE_SAMPLER) refl (inl (lit≤ tt, lit≤ tt)) (λ h2.
    one_more n opcode.TYPE_EVENT _ _ (nat_eq n opcode.TYPE_EVENT) refl (inl (lit≤ tt, lit≤ tt)) (λ h3.
    one_more n opcode.TYPE_DEVICE_EVENT _ _ (nat_eq n opcode.TYPE_DEVICE_EVENT) refl (inl (lit≤ tt, lit≤ tt)) (λ h4.
    one_more n opcode.TYPE_RESERVE_ID _ _ (nat_eq n opcode.TYPE_RESERVE_ID) refl (inl (lit≤ tt, lit≤ tt)) (λ h5.
    one_more n opcode.TYPE_QUEUE _ _ (nat_eq n opcode.TYPE_QUEUE) refl (inl (lit≤ tt, lit≤ tt)) (λ h6.
    one_more n opcode.TYPE_PIPE _ _ (nat_eq n opcode.TYPE_PIPE) refl (inl (lit≤ tt, lit≤ tt)) (λ h7.
    one_more n opcode.TYPE_PIPE_STORAGE _ _ (nat_eq n opcode.TYPE_PIPE_STORAGE) refl (inr (inl refl)) (λ h8.
    one_more n opcode.TYPE_NAMED_BARRIER _ _ (nat_eq n opcode.TYPE_NAMED_BARRIER) refl (inr (inr refl))
    (λ h9. absurd (let no : false ≡ true = h9 in cc)) h8) h7) h6) h5) h4) h3) h2) h1) h

object_told : (o : Option Object) → IsSome (option_map (λ x. form.Object x) o) → IsSome o
object_told None h = h
object_told (Some x) h = refl

is_type_opcode : (i : PlainInst) → IsSome (form_in i) → IsTypeDeclaration i
is_type_opcode i h =
    let n = i.opcode in
    one_more n opcode.TYPE_VOID _ _ (nat_eq n opcode.TYPE_VOID) refl (inl (lit≤ tt, lit≤ tt)) (λ h1.
    one_more n opcode.TYPE_BOOL _ _ (nat_eq n opcode.TYPE_BOOL) refl (inl (lit≤ tt, lit≤ tt)) (λ h2.
    one_more n opcode.TYPE_INT _ _ (nat_eq n opcode.TYPE_INT) refl (inl (lit≤ tt, lit≤ tt)) (λ h3.
    one_more n opcode.TYPE_FLOAT _ _ (nat_eq n opcode.TYPE_FLOAT) refl (inl (lit≤ tt, lit≤ tt)) (λ h4.
    one_more n opcode.TYPE_VECTOR _ _ (nat_eq n opcode.TYPE_VECTOR) refl (inl (lit≤ tt, lit≤ tt)) (λ h5.
    one_more n opcode.TYPE_ARRAY _ _ (nat_eq n opcode.TYPE_ARRAY) refl (inl (lit≤ tt, lit≤ tt)) (λ h6.
    one_more n opcode.TYPE_STRUCT _ _ (nat_eq n opcode.TYPE_STRUCT) refl (inl (lit≤ tt, lit≤ tt)) (λ h7.
    one_more n opcode.TYPE_OPAQUE _ _ (nat_eq n opcode.TYPE_OPAQUE) refl (inl (lit≤ tt, lit≤ tt)) (λ h8.
    one_more n opcode.TYPE_POINTER _ _ (nat_eq n opcode.TYPE_POINTER) refl (inl (lit≤ tt, lit≤ tt)) (λ h9.
    one_more n opcode.TYPE_FUNCTION _ _ (nat_eq n opcode.TYPE_FUNCTION) refl (inl (lit≤ tt, lit≤ tt)) (λ h10.
    one_more n opcode.TYPE_SAMPLED_IMAGE _ _ (nat_eq n opcode.TYPE_SAMPLED_IMAGE) refl (inl (lit≤ tt, lit≤ tt))
    (λ h11. objects n (object_told (object_of n) h11)) h10) h9) h8) h7) h6) h5) h4) h3) h2) h1) h

declared_in : (o : Option PlainInst) → IsSome (option_and_then form_in o) → IsSomeAnd o IsTypeDeclaration
declared_in None h = absurd (let no : false ≡ true = h in cc)
declared_in (Some i) h = is_type_opcode i h

pub type_declared : (is : List PlainInst) (x : ℕ) → IsSome (form_of is x)
    → IsSomeAnd (definition_of is x) IsTypeDeclaration
type_declared is x h = declared_in (definition_of is x) h
