-- The first condition that does not hold, or none. (For the code alone.)
use Rattle.std.specs.Prelude.{◌≡◌, List, Option, MatchOption}
use Rattle.std.specs.List.{AllByRecursion}
use Rattle.spv_module.specs.Operand.{PlainInst}
use Rattle.spv_module.specs.declared.opcode.TheConstants.{EXT_INST}
use Rattle.spv_std_types.specs.declared.condition.Condition.{Condition}
use Rattle.spv_std_types.specs.Condition.{FailsFirst}
use Rattle.spv_std_types.specs.Mistyped.{Mistypes}

-- all hold, or this is the first that does not
abbrev pub IsFirstIn : (Condition → Type 0) → List Condition → Option Condition → Type 0
IsFirstIn P qs o = MatchOption o (AllByRecursion P qs) (FailsFirst P qs)

-- there is none of which it is so, or this is one
abbrev pub IsFound : (Condition → Type 0) → Option Condition → Type 0
IsFound P o = MatchOption o ((a : Condition) → ¬ (P a)) P

-- an instruction breaks a condition
abbrev pub BreaksBy : List PlainInst → PlainInst → Condition → Type 0
BreaksBy is i a = (i.opcode ≡ EXT_INST) × Mistypes is i.operands a
