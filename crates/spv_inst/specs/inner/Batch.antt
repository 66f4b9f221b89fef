-- The instructions of a batch. (For the code alone.)
use Rattle.std.specs.Prelude.{◌≤◌, ◌+◌, ℕ, List, map, take, drop, length}
use Rattle.std.specs.List.{AllByRecursion}
use Rattle.spv_inst.specs.declared.batch.Head.{Head}
use Rattle.spv_inst.specs.declared.batch.Batch.{Batch}
use Rattle.spv_module.specs.declared.operand.Operand.{Operand}
use Rattle.spv_module.specs.Module.{plain_operands}
use Rattle.spv_module.specs.Operand.{PlainInst}

-- the instruction whose operands lie in the list where the head tells
abbrev pub head_inst : List Operand → Head → PlainInst
head_inst os h = record { opcode = h.opcode; operands = plain_operands (take h.count (drop h.first os)) }

-- the instructions of a batch
abbrev pub batch_insts : Batch → List PlainInst
batch_insts b = map (head_inst b.operands.items) b.heads.items

-- the operands of each lie within so many
abbrev pub AreWithin : ℕ → List Head → Type 0
AreWithin n hs = AllByRecursion (λ h. h.first + h.count ≤ n) hs

-- the operands of each lie within the list
abbrev pub IsTidy : Batch → Type 0
IsTidy b = AreWithin (length b.operands.items) b.heads.items
