-- The uses of an instruction that fits its row, by its operands alone. (For the code alone.)
use Rattle.std.specs.Prelude.{◌≡◌, ◌<◌, ℕ, List, [], Option, Some, None, nat_eq, if◌then◌else◌, take, drop}
use Rattle.std.specs.Prelude.{slice_get}
use Rattle.spv_module.specs.Operand.{Plain, PlainInst, OfType, Result, Id, Argument, Mention, result_in}
use Rattle.spv_module.specs.declared.opcode.TheConstants as opcode

-- the operands whose ids are uses: of an OpExtInst those up to its number, of any other instruction all
abbrev pub seen : PlainInst → List Plain
seen i = if nat_eq i.opcode opcode.EXT_INST then take 4 i.operands else i.operands

-- the operands behind the number of an OpExtInst; of any other instruction none
abbrev pub behind : PlainInst → List Plain
behind i = if nat_eq i.opcode opcode.EXT_INST then drop 4 i.operands else []

-- the id that an operand uses, if it is not behind the number of an OpExtInst
abbrev pub used_id : Plain → Option ℕ
used_id (OfType x) = Some x
used_id (Id x) = Some x
used_id o = None

-- the id that an operand is, other than a result: up to that number each is a use
abbrev pub seen_id : Plain → Option ℕ
seen_id (OfType x) = Some x
seen_id (Id x) = Some x
seen_id (Argument x) = Some x
seen_id (Mention x) = Some x
seen_id o = None

-- the id that an operand behind that number uses, and the one that it mentions
abbrev pub argument_id : Plain → Option ℕ
argument_id (Argument x) = Some x
argument_id o = None

abbrev pub mention_id : Plain → Option ℕ
mention_id (Mention x) = Some x
mention_id o = None

-- either of the two
abbrev pub id_behind : Plain → Option ℕ
id_behind (Argument x) = Some x
id_behind (Mention x) = Some x
id_behind o = None

-- the result that an operand is, if it is one
abbrev pub result_at : Option Plain → Option ℕ
result_at (Some (Result x)) = Some x
result_at o = None

abbrev pub or_next : Option ℕ → Option ℕ → Option ℕ
or_next (Some x) next = Some x
or_next None next = next

-- the first or second operand, if it is a result
abbrev pub early_result : List Plain → Option ℕ
early_result os = or_next (result_at (slice_get os 0)) (result_at (slice_get os 1))

-- The result of each instruction is its first or second operand.
pub record AreEarly (is : List PlainInst) : Type 0 where
  pub result : (n : ℕ) (i : PlainInst) → slice_get is n ≡ Some i
      → result_in i.operands ≡ early_result i.operands

-- A use of the id by instruction n, among the first of its operands whose ids are uses.
pub record IsUsedBefore (is : List PlainInst) (n to x : ℕ) : Type 0 where
  pub inst : PlainInst
  pub there : slice_get is n ≡ Some inst
  pub place : ℕ
  pub below : place < to
  pub operand : Plain
  pub operand_at : slice_get (seen inst) place ≡ Some operand
  pub used : seen_id operand ≡ Some x

-- These are the operands of instruction n whose ids are uses.
pub record AreSeen (is : List PlainInst) (n : ℕ) (operands : List Plain) : Type 0 where
  pub inst : PlainInst
  pub there : slice_get is n ≡ Some inst
  pub same : operands ≡ seen inst

-- These are the operands of instruction n behind the number of an OpExtInst.
pub record AreBehind (is : List PlainInst) (n : ℕ) (operands : List Plain) : Type 0 where
  pub inst : PlainInst
  pub there : slice_get is n ≡ Some inst
  pub same : operands ≡ behind inst
