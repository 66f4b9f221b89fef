-- Which of the rules on operands is broken, and where. [2.16.1, 3]
use Rattle.std.specs.Prelude.{◌≡◌, ℕ, List, Some, slice_get}
use Rattle.spv_table.specs.Table.{Table}
use Rattle.spv_module.specs.Operand.{PlainInst}
use Rattle.spv_module.specs.declared.fault.Rule.{Rule}
use Rattle.spv_module.specs.declared.fault.Rule.TheVariants.{O14, O15, O16, O17, O18, O19, O20, O23}
use Rattle.spv_kernel_operands.specs.Scopes.{IsMisscoped}
use Rattle.spv_kernel_operands.specs.Pointers.{IsMisatomic, IsMiswritten, IsEmptyCopy}
use Rattle.spv_kernel_operands.specs.Control.{IsMiscontrolled}
use Rattle.spv_kernel_operands.specs.Switch.{IsMisswitched}
use Rattle.spv_kernel_operands.specs.Objects.{IsVoidReturn, IsMadeElsewhere}

-- The rule is broken by instruction i, whatever its number; and at the instruction of that number.
pub data IsBrokenBy (G : Table) (is : List PlainInst) (i : PlainInst) : Rule → Type 0 where
  scopes : IsMisscoped is i → IsBrokenBy G is i O14
  atomic : IsMisatomic G is i → IsBrokenBy G is i O15
  written : IsMiswritten is i → IsBrokenBy G is i O16
  empty : IsEmptyCopy is i → IsBrokenBy G is i O17
  control : IsMiscontrolled i → IsBrokenBy G is i O18
  switch : IsMisswitched is i → IsBrokenBy G is i O19
  void : IsVoidReturn is i → IsBrokenBy G is i O20

pub data Broken (G : Table) (is : List PlainInst) : Rule → ℕ → Type 0 where
  operands : (r : Rule) (n : ℕ) (i : PlainInst) → slice_get is n ≡ Some i → IsBrokenBy G is i r → Broken G is r n
  elsewhere : (n : ℕ) → IsMadeElsewhere is n → Broken G is O23 n
