-- The worked example: memory models.
use Rattle.std.proofs.Common.{◌≡◌, ◌∙◌, ℕ, List, ◌∷◌, [], Some, refl, sym, subst, inl, inr, arith}
use Rattle.std.specs.Prelude.{slice_get}
use Rattle.spv_table.specs.Table.{Table}
use Rattle.spv_module.specs.Operand.{Value, PlainInst}
use Rattle.spv_module.specs.declared.fault.Rule.{Rule}
use Rattle.spv_module.specs.declared.fault.Rule.TheVariants.{M1, Y1}
use Rattle.spv_module.specs.declared.opcode.TheConstants as opcode
use Rattle.spv_type_forms.specs.Example.{inst}
use Rattle.spv_type_rules.specs.roles.Broken as roles
use Rattle.spv_capabilities.specs.Keeps as capabilities
use Rattle.spv_ops.specs.Typed.{IsTyped}
use Rattle.spv_type_rules.specs.Keeps as types
use Rattle.spv_check.specs.types.Broken.{Broken}
use Rattle.spv_check.specs.types.Example.{logical, physical}

pub logical_broken : (G : Table) → Broken G logical M1 0
logical_broken G =
    Broken.of_capabilities M1 0 (inst opcode.MEMORY_MODEL (Value 3 0 ∷ Value 4 2 ∷ [])) refl
    (λ k. elim ((k refl).0) [ inl e ↦ absurd (omega (arith, e)) | inr e ↦ absurd (omega (arith, e)) ])

of_roles_alone : (G : Table) (is : List PlainInst) (r : Rule) (n : ℕ) → roles.Broken G is r n → r ≡ Y1
of_roles_alone G is _ _ (roles.Broken.miscast n k x q u never) = refl

its_inst : (n : ℕ) (i : PlainInst) → n ≡ 0 → slice_get physical n ≡ Some i
    → inst opcode.MEMORY_MODEL (Value 3 2 ∷ Value 4 2 ∷ []) ≡ i
its_inst n i e at = let there : slice_get physical 0 ≡ Some i = subst (λ (m : ℕ). slice_get physical m ≡ Some i) e at in
    cc

kept : (G : Table) (n : ℕ) (i : PlainInst) → inst opcode.MEMORY_MODEL (Value 3 2 ∷ Value 4 2 ∷ []) ≡ i
    → capabilities.Keeps G physical M1 n i
kept G n i e = subst (λ (j : PlainInst). capabilities.Keeps G physical M1 n j) e (λ h. (inr refl, refl))

physical_at : (G : Table) (r : Rule) (n : ℕ) → r ≡ M1 → n ≡ 0 → Broken G physical r n → ⊥
physical_at G _ _ e f (Broken.of_roles r n b) = let y : r ≡ Y1 = of_roles_alone G physical r n b in
    let no : M1 ≡ Y1 = sym e ∙ y in cc
physical_at G _ _ e f (Broken.of_capabilities r n i at never) =
    never (subst (λ (q : Rule). capabilities.Keeps G physical q n i) (sym e) (kept G n i (its_inst n i f at)))
physical_at G _ _ e f (Broken.of_types r n i at never) =
    never (subst (λ (q : Rule). types.Keeps (IsTyped G physical) physical q n i) (sym e) tt)

pub physical_unbroken : (G : Table) → ¬ (Broken G physical M1 0)
physical_unbroken G = physical_at G M1 0 refl refl
