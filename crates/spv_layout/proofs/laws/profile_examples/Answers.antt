use Rattle.std.proofs.Common.{◌≡◌, List, [], ◌∷◌, refl, true, None}
use Rattle.spv_module.specs.Example.{small}
use Rattle.spv_module.specs.Operand.{PlainInst}
use Rattle.spv_module.specs.declared.opcode.TheConstants as opcode
use Rattle.spv_module.specs.declared.profile.Profile.{Profile}
use Rattle.spv_module.specs.declared.profile.Profile.TheVariants.{Own, OpenCl}
use Rattle.spv_module.specs.declared.fault.Rule.TheVariants.{P1, L1}
use Rattle.spv_layout.specs.declared.state.State.TheVariants as at
use Rattle.spv_layout.specs.declared.class.Class.TheVariants.{ExecutionMode, Decoration}
use Rattle.spv_layout.specs.Rows.{rows, row_of, class_of}
use Rattle.spv_layout.specs.Profile.{has_row, FitsProfile}
use Rattle.spv_layout.specs.Layout.{IsLayout, seen_classes}
use Rattle.spv_layout.specs.DeadPlace.{IsDeadPlace}
use Rattle.spv_layout.specs.Broken.{Broken}
use Rattle.spv_layout.specs.Example.{bare, image_read, extended_between, extended_within}
use Rattle.spv_layout.specs.inner.Pass.{Leads}
use Rattle.spv_layout.proofs.Layouts.{leads_end}
use Rattle.spv_layout.proofs.Dead.{after_inst, dead_inst}
use Rattle.spv_layout.proofs.Tested.{tested_fits}
use Rattle.spv_layout.proofs.Worked.{leads_by}
use Rattle.spv_layout.proofs.laws.profile_examples.Goals as goal

reads : FitsProfile OpenCl small image_read
unfolding rows
reads = record { known = refl; shape = tested_fits small image_read refl }

not_known : has_row Own (row_of opcode.IMAGE_READ) ≡ true → ⊥
unfolding rows
not_known h = cc

not_own : Broken Own small (image_read ∷ []) P1 0
not_own = Broken.misfit image_read 0 refl (λ f. not_known f.known)

between : IsLayout (seen_classes OpenCl extended_between)
unfolding rows
between = leads_end (seen_classes OpenCl extended_between) at.Declared refl (leads_by (seen_classes OpenCl extended_between) at.Declared refl)

-- an OpMemoryModel and a declaration, and the first two of these
abbrev declared : List PlainInst
declared = bare opcode.MEMORY_MODEL ∷ bare opcode.FUNCTION ∷ bare opcode.FUNCTION_END ∷ []

abbrev begun : List PlainInst
begun = bare opcode.MEMORY_MODEL ∷ bare opcode.FUNCTION ∷ []

not_between : IsDeadPlace Own extended_between L1 3
unfolding rows
not_between = dead_inst Own declared [] (bare opcode.EXT_INST) at.Declared refl (leads_by (seen_classes Own declared) at.Declared refl)

begun_leads : (p : Profile) → Leads (seen_classes p begun) at.Function
unfolding rows
begun_leads Own = leads_by (seen_classes Own begun) at.Function refl
begun_leads OpenCl = leads_by (seen_classes OpenCl begun) at.Function refl

no_state : (p : Profile) → after_inst p at.Function (bare opcode.EXT_INST) ≡ None
unfolding rows
no_state Own = refl
no_state OpenCl = refl

not_within : (p : Profile) → IsDeadPlace p extended_within L1 2
not_within p = dead_inst p begun (bare opcode.FUNCTION_END ∷ []) (bare opcode.EXT_INST) at.Function (no_state p) (begun_leads p)

mode_class : class_of opcode.EXECUTION_MODE_ID ≡ ExecutionMode
unfolding rows
mode_class = refl

string_class : class_of opcode.DECORATE_STRING ≡ Decoration
unfolding rows
string_class = refl

pub returns : goal.returns
returns c = record { read = reads; not_own = not_own; mode = mode_class; string = string_class; between = between; not_between = not_between; within = not_within }
