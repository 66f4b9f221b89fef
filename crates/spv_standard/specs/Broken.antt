-- Stage O: what the standard asks of a kernel of OpenCL besides; and what a refusal by it says. [2.4, 2.16, 2.17, 3]
use Rattle.std.specs.Prelude.{◌≡◌, ℕ, List}
use Rattle.spv_table.specs.Table.{Table}
use Rattle.spv_module.specs.Operand.{PlainInst}
use Rattle.spv_module.specs.declared.fault.Rule.{Rule}
use Rattle.spv_module.specs.declared.fault.Stop.{Stop}
use Rattle.spv_module.specs.declared.fault.Stop.TheVariants.{Fault, Memory}
use Rattle.spv_extended.specs.declared.reach.Reach.{Reach}
use Rattle.spv_extended.specs.declared.reach.Reach.TheVariants.{Profile, Extended, OpenCl}
use Rattle.spv_layout.specs.First.{IsFirst}
use Rattle.spv_layout.specs.Place.{first_word_of}
use Rattle.spv_layout.specs.Stage.{of_standard}
use Rattle.spv_block_order.specs.Broken as order
use Rattle.spv_interfaces.specs.Broken as interfaces
use Rattle.spv_declarations.specs.Broken as declarations
use Rattle.spv_kernel_operands.specs.Broken as operands
use Rattle.spv_versions.specs.Broken as versions
use Rattle.spv_limits.specs.Broken as limits

-- In a kernel of version 1.minor the rule is broken at the instruction of that number: a rule on the order of blocks,
-- or of instructions in them; on the interfaces of entry points; on entry points, names, decorations and types; on the
-- operands of single instructions; on what the version has; or on the universal limits. [own]
pub data KernelBroken (G : Table) (minor : ℕ) (is : List PlainInst) : Rule → ℕ → Type 0 where
  -- O1 and O2
  of_order : (r : Rule) (n : ℕ) → order.Broken G is r n → KernelBroken G minor is r n
  -- O4
  of_interfaces : (r : Rule) (n : ℕ) → interfaces.Broken G minor is r n → KernelBroken G minor is r n
  -- O3 and O5 to O13
  of_declarations : (r : Rule) (n : ℕ) → declarations.Broken G is r n → KernelBroken G minor is r n
  -- O14 to O20, and O23
  of_operands : (r : Rule) (n : ℕ) → operands.Broken G is r n → KernelBroken G minor is r n
  -- O21
  of_versions : (r : Rule) (n : ℕ) → versions.Broken G minor is r n → KernelBroken G minor is r n
  -- O22
  of_limits : (r : Rule) (n : ℕ) → limits.Broken is r n → KernelBroken G minor is r n

-- It is broken as far as the list is looked at: these rules are asked of kernels of OpenCL alone. [own]
abbrev pub Broken : Table → Reach → List PlainInst → Rule → ℕ → Type 0
Broken G Profile is r n = ⊥
Broken G Extended is r n = ⊥
Broken G (OpenCl minor) is r n = KernelBroken G minor is r n

-- What a refusal says: out of memory, or the first broken of these rules and the first word of its instruction. [own]
abbrev pub IsRefusal : Table → Reach → List PlainInst → Stop → Type 0
IsRefusal G reach is Memory = Unit {0}
IsRefusal G reach is (Fault f) =
    IsFirst (Broken G reach is) of_standard f.rule f.inst × (f.word ≡ first_word_of is f.inst)
