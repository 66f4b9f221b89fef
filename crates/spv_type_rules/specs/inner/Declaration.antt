-- Y2 at an instruction, by a name of its own. (For the code alone.)
use Rattle.std.specs.Prelude.{ℕ, List, MatchOption}
use Rattle.spv_module.specs.Operand.{PlainInst}
use Rattle.spv_type_rules.specs.Declaration.{declaration_of, DeclaresSoundly}

-- Y2 is unbroken at instruction n. [3.49.6]
abbrev pub IsSoundDeclaration : List PlainInst → ℕ → PlainInst → Type 0
IsSoundDeclaration is n i = MatchOption (declaration_of i.opcode) (Unit {0}) (λ d. DeclaresSoundly is n d i.operands)
