-- Of the rules of stage O, O5 is one on declarations.
use Rattle.std.proofs.Common.{◌≡◌, ℕ, List, subst}
use Rattle.spv_table.specs.Table.{Table}
use Rattle.spv_module.specs.Operand.{PlainInst}
use Rattle.spv_module.specs.declared.fault.Rule.{Rule}
use Rattle.spv_module.specs.declared.fault.Rule.TheVariants.{O5}
use Rattle.spv_block_order.specs.Broken as order
use Rattle.spv_interfaces.specs.Broken as interfaces
use Rattle.spv_declarations.specs.Broken as declarations
use Rattle.spv_kernel_operands.specs.Broken as operands
use Rattle.spv_kernel_operands.specs.Broken.{IsBrokenBy}
use Rattle.spv_versions.specs.Broken as versions
use Rattle.spv_limits.specs.Broken as limits
use Rattle.spv_standard.specs.Broken.{KernelBroken}

not_order : (G : Table) (is : List PlainInst) (r : Rule) (n : ℕ) → order.Broken G is r n → r ≡ O5 → ⊥
not_order G is _ _ (order.early_block n b) e = cc
not_order G is _ _ (order.early_use n u) e = cc

not_interfaces : (G : Table) (minor : ℕ) (is : List PlainInst) (r : Rule) (n : ℕ) → interfaces.Broken G minor is r n
    → r ≡ O5 → ⊥
not_interfaces G minor is _ _ (interfaces.misfaced n h) e = cc

not_by : (G : Table) (is : List PlainInst) (i : PlainInst) (r : Rule) → IsBrokenBy G is i r → r ≡ O5 → ⊥
not_by G is i _ (IsBrokenBy.scopes h) e = cc
not_by G is i _ (IsBrokenBy.atomic h) e = cc
not_by G is i _ (IsBrokenBy.written h) e = cc
not_by G is i _ (IsBrokenBy.empty h) e = cc
not_by G is i _ (IsBrokenBy.control h) e = cc
not_by G is i _ (IsBrokenBy.switch h) e = cc
not_by G is i _ (IsBrokenBy.void h) e = cc

not_operands : (G : Table) (is : List PlainInst) (r : Rule) (n : ℕ) → operands.Broken G is r n → r ≡ O5 → ⊥
not_operands G is _ _ (operands.operands r n i at b) e = not_by G is i r b e
not_operands G is _ _ (operands.elsewhere n h) e = cc

not_versions : (G : Table) (minor : ℕ) (is : List PlainInst) (r : Rule) (n : ℕ) → versions.Broken G minor is r n
    → r ≡ O5 → ⊥
not_versions G minor is _ _ (versions.late n h) e = cc

not_limits : (is : List PlainInst) (r : Rule) (n : ℕ) → limits.Broken is r n → r ≡ O5 → ⊥
not_limits is _ _ (limits.past n h) e = cc

pub by_declarations : (G : Table) (minor : ℕ) (is : List PlainInst) (r : Rule) (n : ℕ) → KernelBroken G minor is r n
    → r ≡ O5 → declarations.Broken G is O5 n
by_declarations G minor is _ _ (KernelBroken.of_order r n b) e = absurd (not_order G is r n b e)
by_declarations G minor is _ _ (KernelBroken.of_interfaces r n b) e = absurd (not_interfaces G minor is r n b e)
by_declarations G minor is _ _ (KernelBroken.of_declarations r n b) e =
    subst (λ (q : Rule). declarations.Broken G is q n) e b
by_declarations G minor is _ _ (KernelBroken.of_operands r n b) e = absurd (not_operands G is r n b e)
by_declarations G minor is _ _ (KernelBroken.of_versions r n b) e = absurd (not_versions G minor is r n b e)
by_declarations G minor is _ _ (KernelBroken.of_limits r n b) e = absurd (not_limits is r n b e)
