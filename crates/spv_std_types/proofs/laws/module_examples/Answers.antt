use Rattle.std.proofs.Common.{◌≡◌, [], ◌∷◌, refl}
use Rattle.spv_module.specs.declared.opcode.TheConstants as opcode
use Rattle.spv_type_forms.specs.Example.{inst}
use Rattle.spv_extended.specs.declared.set.Set.TheVariants.{OpenClStd, OpenClDebugInfo}
use Rattle.spv_std_types.specs.Example.{call, of, small, value}
use Rattle.spv_std_types.specs.Table.{lines}
use Rattle.spv_std_types.proofs.Worked.{kept, none_first, not_called, unlike_mistyped}
use Rattle.spv_std_types.proofs.laws.module_examples.Goals as goal

pub returns-clause-other_set : goal.returns-clause-other_set
returns-clause-other_set c = λ a m. (let no : OpenClDebugInfo ≡ OpenClStd = m.0 in cc)

pub returns-clause-no_number : goal.returns-clause-no_number
unfolding lines
returns-clause-no_number c = kept small 5 99 1 111 (of 5 ∷ []) tt

pub returns-clause-mistyped : goal.returns-clause-mistyped
returns-clause-mistyped c = unlike_mistyped

pub returns-clause-no_call : goal.returns-clause-no_call
returns-clause-no_call c = λ a b. not_called (value 8 ∷ inst opcode.F_NEGATE (call 9 0 (of 8 ∷ [])) ∷ []) 1 a
    (inst opcode.F_NEGATE (call 9 0 (of 8 ∷ []))) refl refl b

pub returns-clause-none : goal.returns-clause-none
returns-clause-none c = none_first

pub returns-clause-not_first : goal.returns-clause-not_first
returns-clause-not_first c = λ h. none_first 0 h.0
