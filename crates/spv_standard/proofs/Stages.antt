-- Each rule of which this crate speaks is of stage O.
use Rattle.std.proofs.Common.{◌≡◌, ℕ, List, refl}
use Rattle.spv_table.specs.Table.{Table}
use Rattle.spv_module.specs.Operand.{PlainInst}
use Rattle.spv_module.specs.declared.fault.Rule.{Rule}
use Rattle.spv_extended.specs.declared.reach.Reach.{Reach}
use Rattle.spv_extended.specs.declared.reach.Reach.TheVariants.{Profile, Extended, OpenCl}
use Rattle.spv_layout.specs.First.{stage_of}
use Rattle.spv_layout.specs.Stage.{of_standard}
use Rattle.spv_block_order.specs.Broken as order
use Rattle.spv_interfaces.specs.Broken as interfaces
use Rattle.spv_declarations.specs.Broken as declarations
use Rattle.spv_kernel_operands.specs.Broken as operands
use Rattle.spv_kernel_operands.specs.Broken.{IsBrokenBy}
use Rattle.spv_versions.specs.Broken as versions
use Rattle.spv_limits.specs.Broken as limits
use Rattle.spv_standard.specs.Broken.{Broken, KernelBroken}

of_order : (G : Table) (is : List PlainInst) (r : Rule) (n : ℕ) → order.Broken G is r n → stage_of r ≡ of_standard
of_order G is _ _ (order.early_block n b) = refl
of_order G is _ _ (order.early_use n u) = refl

of_interfaces : (G : Table) (minor : ℕ) (is : List PlainInst) (r : Rule) (n : ℕ) → interfaces.Broken G minor is r n
    → stage_of r ≡ of_standard
of_interfaces G minor is _ _ (interfaces.misfaced n h) = refl

of_declarations : (G : Table) (is : List PlainInst) (r : Rule) (n : ℕ) → declarations.Broken G is r n
    → stage_of r ≡ of_standard
of_declarations G is _ _ (declarations.repeated n h) = refl
of_declarations G is _ _ (declarations.takes_id n h) = refl
of_declarations G is _ _ (declarations.of_no_member n h) = refl
of_declarations G is _ _ (declarations.misplaced n h) = refl
of_declarations G is _ _ (declarations.second n h) = refl
of_declarations G is _ _ (declarations.linked_entry n h) = refl
of_declarations G is _ _ (declarations.initialized n h) = refl
of_declarations G is _ _ (declarations.half_built_in n h) = refl
of_declarations G is _ _ (declarations.forward_elsewhere n h) = refl
of_declarations G is _ _ (declarations.incapable n h) = refl

by_inst : (G : Table) (is : List PlainInst) (i : PlainInst) (r : Rule) → IsBrokenBy G is i r
    → stage_of r ≡ of_standard
by_inst G is i _ (IsBrokenBy.scopes h) = refl
by_inst G is i _ (IsBrokenBy.atomic h) = refl
by_inst G is i _ (IsBrokenBy.written h) = refl
by_inst G is i _ (IsBrokenBy.empty h) = refl
by_inst G is i _ (IsBrokenBy.control h) = refl
by_inst G is i _ (IsBrokenBy.switch h) = refl
by_inst G is i _ (IsBrokenBy.void h) = refl

pub of_operands : (G : Table) (is : List PlainInst) (r : Rule) (n : ℕ) → operands.Broken G is r n
    → stage_of r ≡ of_standard
of_operands G is _ _ (operands.operands r n i at b) = by_inst G is i r b
of_operands G is _ _ (operands.elsewhere n h) = refl

of_versions : (G : Table) (minor : ℕ) (is : List PlainInst) (r : Rule) (n : ℕ) → versions.Broken G minor is r n
    → stage_of r ≡ of_standard
of_versions G minor is _ _ (versions.late n h) = refl

of_limits : (is : List PlainInst) (r : Rule) (n : ℕ) → limits.Broken is r n → stage_of r ≡ of_standard
of_limits is _ _ (limits.past n h) = refl

pub kernel_stage : (G : Table) (minor : ℕ) (is : List PlainInst) (r : Rule) (n : ℕ) → KernelBroken G minor is r n
    → stage_of r ≡ of_standard
kernel_stage G minor is _ _ (KernelBroken.of_order r n b) = of_order G is r n b
kernel_stage G minor is _ _ (KernelBroken.of_interfaces r n b) = of_interfaces G minor is r n b
kernel_stage G minor is _ _ (KernelBroken.of_declarations r n b) = of_declarations G is r n b
kernel_stage G minor is _ _ (KernelBroken.of_operands r n b) = of_operands G is r n b
kernel_stage G minor is _ _ (KernelBroken.of_versions r n b) = of_versions G minor is r n b
kernel_stage G minor is _ _ (KernelBroken.of_limits r n b) = of_limits is r n b

pub standard_stage : (G : Table) (reach : Reach) (is : List PlainInst) (r : Rule) (n : ℕ) → Broken G reach is r n
    → stage_of r ≡ of_standard
standard_stage G Profile is r n b = absurd b
standard_stage G Extended is r n b = absurd b
standard_stage G (OpenCl minor) is r n b = kernel_stage G minor is r n b
