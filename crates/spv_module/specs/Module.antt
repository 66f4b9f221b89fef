-- Operands and instructions of the code, without where they lie in memory.
use Rattle.std.specs.Prelude.{List, map}
use Rattle.spv_module.specs.Operand.{Plain, PlainInst}
use Rattle.spv_module.specs.Operand as plain
use Rattle.spv_module.specs.declared.operand.Operand.{Operand}
use Rattle.spv_module.specs.declared.operand.Operand.TheVariants as code
use Rattle.spv_module.specs.declared.module.Inst.{Inst}
use Rattle.spv_module.specs.declared.module.Module.{Module}

-- an operand of an instruction [own]
abbrev pub plain_operand : Operand → Plain
plain_operand (code.OfType x) = plain.OfType x
plain_operand (code.Result x) = plain.Result x
plain_operand (code.Id x) = plain.Id x
plain_operand (code.Word x) = plain.Word x
plain_operand (code.Argument x) = plain.Argument x
plain_operand (code.Mention x) = plain.Mention x
plain_operand (code.Number low high words) = plain.Number low high words
plain_operand (code.Text s) = plain.Text s.now
plain_operand (code.Value kind value) = plain.Value kind value
plain_operand (code.Mask kind value) = plain.Mask kind value

-- the operands of an instruction [own]
abbrev pub plain_operands : List Operand → List Plain
plain_operands os = map plain_operand os

-- an instruction of a module [own]
abbrev pub plain_inst : Inst → PlainInst
plain_inst i = record { opcode = i.opcode; operands = plain_operands i.operands }

-- the instructions of a module [own]
abbrev pub plain_insts : Module → List PlainInst
plain_insts m = map plain_inst m.insts.items
