-- What of a module stands before its functions. (For the code alone.)
use Rattle.std.specs.Prelude.{◌≡◌, ◌<◌, ℕ, List, Some, Bool, true, nat_eq, ◌||◌, slice_get}
use Rattle.spv_module.specs.declared.opcode.TheConstants as opcode
use Rattle.spv_module.specs.Operand.{PlainInst}
use Rattle.spv_layout.specs.Place.{IsOfSection}
use Rattle.spv_declarations.specs.Given.{is_decorate, is_of_member}

-- the opcodes of OpGroupDecorate and OpGroupMemberDecorate; of these and those of members; of all that say something of
-- ids or members; and all at which a rule may be broken, but OpVariable
abbrev pub is_grouping : ℕ → Bool
is_grouping n = nat_eq n opcode.GROUP_DECORATE || nat_eq n opcode.GROUP_MEMBER_DECORATE

abbrev pub is_of_parts : ℕ → Bool
is_of_parts n = is_of_member n || is_grouping n

abbrev pub is_saying : ℕ → Bool
is_saying n = is_decorate n || is_of_parts n

abbrev pub is_early : ℕ → Bool
is_early n = is_saying n || (nat_eq n opcode.ENTRY_POINT || (nat_eq n opcode.EXECUTION_MODE
    || (nat_eq n opcode.MEMORY_MODEL || (nat_eq n opcode.TYPE_INT
    || (nat_eq n opcode.TYPE_STRUCT || nat_eq n opcode.TYPE_FORWARD_POINTER)))))

-- Each instruction of such an opcode, and each of section 9, is among the first `count`.
pub record AreEarly (is : List PlainInst) (count : ℕ) : Type 0 where
  pub each : (n : ℕ) (i : PlainInst) → slice_get is n ≡ Some i → is_early i.opcode ≡ true → n < count
  pub globals : (n : ℕ) → IsOfSection is n 11 → n < count
