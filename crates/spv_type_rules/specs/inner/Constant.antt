-- Y4 at an instruction, by a name of its own. (For the code alone.)
use Rattle.std.specs.Prelude.{List, MatchOption, IsSomeAnd}
use Rattle.spv_module.specs.Operand.{PlainInst, type_in}
use Rattle.spv_type_kinds.specs.Operands.{after_head}
use Rattle.spv_type_rules.specs.Constant.{constant_of, Constitutes}

-- Y4 is unbroken. [3.49.7]
abbrev pub IsSoundConstant : List PlainInst → PlainInst → Type 0
IsSoundConstant is i =
    MatchOption (constant_of i.opcode) (Unit {0})
    (λ c. IsSomeAnd (type_in i.operands) (λ r. Constitutes is c r (after_head i.operands)))
