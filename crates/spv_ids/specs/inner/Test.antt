-- Tests of the code, on numbers alone. (For the code alone.)
use Rattle.std.specs.Prelude.{ℕ, Option, Some, None, Bool, false, not, ◌&&◌, ◌||◌, nat_eq, nat_lt}
use Rattle.std.specs.Prelude.{if◌then◌else◌, slice_get}
use Rattle.std.specs.Option.{is_some}
use Rattle.spv_module.specs.Operand.{Plain, PlainInst, Id}
use Rattle.spv_module.specs.declared.opcode.TheConstants as opcode

-- whether a definition is lower
abbrev pub lower_test : Option ℕ → ℕ → Bool
lower_test None n = false
lower_test (Some m) n = nat_lt m n

-- whether a use in a section, by an instruction of an opcode, may come before its definition
abbrev pub early_test : ℕ → ℕ → Option ℕ → Bool
early_test s op announced =
    nat_eq s 11 && (nat_eq op opcode.TYPE_FORWARD_POINTER || (nat_eq op opcode.TYPE_STRUCT && is_some announced))

abbrev pub home_test : Option ℕ → ℕ → Bool
home_test None f = false
home_test (Some g) f = nat_eq g f

-- whether the function of a use is that of a definition, or no definition has one
abbrev pub scope_test : Option ℕ → Option ℕ → Option ℕ → Bool
scope_test None a b = not (is_some a || is_some b)
scope_test (Some f) a b = home_test a f || home_test b f || not (is_some a || is_some b)

-- the id that an OpTypeForwardPointer names
abbrev pub id_in : Option Plain → Option ℕ
id_in (Some (Id x)) = Some x
id_in o = None

abbrev pub announced_id : PlainInst → Option ℕ
announced_id i = if nat_eq i.opcode opcode.TYPE_FORWARD_POINTER then id_in (slice_get i.operands 0) else None
