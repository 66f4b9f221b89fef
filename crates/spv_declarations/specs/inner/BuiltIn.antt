-- The members that are built in. (For the code alone.)
use Rattle.std.specs.Prelude.{if◌then◌else◌, ◌↔◌, ℕ, List, ◌∷◌, Option, Some, None, nat_eq}
use Rattle.spv_module.specs.declared.opcode.TheConstants as opcode
use Rattle.spv_module.specs.Operand.{Plain, Result, PlainInst}
use Rattle.spv_declarations.specs.Decorated.{IsBuiltIn, HasBuiltIn}
use Rattle.spv_declarations.specs.declared.built_in.BuiltIns.{BuiltIns}
use Rattle.spv_declarations.specs.inner.Sets.{IsIn, HasBoth}

-- The structs are those of the members.
abbrev pub AreTheirs : BuiltIns → Type 0
AreTheirs b = (t : ℕ) → IsIn b.structs t ↔ ((k : ℕ) × HasBoth b.members t k)

-- These are the members that have BuiltIn, and the structs that have such a member.
pub record AreBuiltIn (is : List PlainInst) (b : BuiltIns) : Type 0 where
  pub members : (t k : ℕ) → HasBoth b.members t k ↔ IsBuiltIn is t k
  pub structs : (t : ℕ) → IsIn b.structs t ↔ HasBuiltIn is t

-- the struct that %t = OpTypeStruct .. declares
abbrev pub struct_in : List Plain → Option ℕ
struct_in (Result t ∷ os) = Some t
struct_in _ = None

abbrev pub struct_by : PlainInst → Option ℕ
struct_by i = if nat_eq i.opcode opcode.TYPE_STRUCT then struct_in i.operands else None
