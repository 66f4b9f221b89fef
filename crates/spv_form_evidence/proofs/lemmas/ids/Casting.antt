-- Uses that are not in their role.
use Rattle.std.proofs.Common.{◌≡◌, ◌<◌, ℕ, List, Bool, true, false, Some, sym, subst, refl, length, ◌∙◌}
use Rattle.std.specs.Prelude.{slice_get, IsTrue}
use Rattle.std.proofs.lemmas.Option.{slice_get_within}
use Rattle.spv_table.specs.Table.{Table}
use Rattle.spv_module.specs.Operand.{PlainInst}
use Rattle.spv_module.specs.declared.fault.Rule.TheVariants.{Y1, D3}
use Rattle.spv_module.specs.declared.fault.Rule.{Rule}
use Rattle.spv_layout.specs.declared.form.Role.{Role}
use Rattle.spv_layout.specs.First.{IsUnbroken}
use Rattle.spv_layout.specs.Shape.{IsUse}
use Rattle.spv_layout.specs.Stage.{of_ids}
use Rattle.spv_ids.specs.Broken as ids
use Rattle.spv_ids.specs.Outcome.{IsOnly}
use Rattle.spv_type_rules.specs.roles.Broken.{Broken}
use Rattle.spv_type_rules.specs.roles.Role.{Plays}
use Rattle.spv_evidence.specs.declared.evidence.Evidence.TheVariants.{Miscast}
use Rattle.spv_form_evidence.specs.ids.Roles.{IsEvidence}
use Rattle.spv_form_evidence.specs.ids.inner.Uses.{HasUse}
use Rattle.spv_form_evidence.specs.ids.inner.Casts.{IsMiscast}
use Rattle.spv_form_evidence.proofs.lemmas.ids.Using.{same_inst, used_within}

pub miscast : (G : Table) (is : List PlainInst) (n : ℕ) (i : PlainInst) (k x m : ℕ) (r : Role) (b : Bool)
    → slice_get is n ≡ Some i → IsUse G i k x r → (Plays is r x → IsTrue b) → b ≡ false → IsOnly is x m
    → IsEvidence G is Y1 n (Miscast k r m)
miscast G is n i k x m r b t u p e d =
    IsEvidence.miscast n k x m r (record { inst = i; there = t; used = u })
    (λ q. let h = p q in let w : false ≡ true = sym e ∙ h in cc) d.there

pub within : (G : Table) (is : List PlainInst) (r : Rule) (n : ℕ) → Broken G is r n → n < length is
within G is _ _ (Broken.miscast n k x r u never) = slice_get_within is n u.inst u.there

-- where each id that is used has a definition, some operand of the instruction is not in its role
pub some_miscast : (G : Table) (bound : ℕ) (is : List PlainInst) (r : Rule) (n : ℕ) (i : PlainInst)
    → slice_get is n ≡ Some i → IsUnbroken (ids.Broken G bound is) of_ids → Broken G is r n
    → ((k : ℕ) → k < length i.operands → ¬ (HasUse G i (IsMiscast is) k)) → ⊥
some_miscast G bound is _ _ i t u (Broken.miscast n k x r w never) none =
    let e : w.inst ≡ i = same_inst is n w.inst i w.there t in
    let v : IsUse G i k x r = subst (λ j. IsUse G j k x r) e w.used in
    u D3 n refl (ids.Broken.undefined n k x r w
    (λ m d. none k (used_within G i k x r v)
    (record { id = x; role = r; used = v; holds = record { definition = m; defined = d; not = never } })))
