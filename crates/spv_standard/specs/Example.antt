-- A small module.
use Rattle.std.specs.Prelude.{List}
use Rattle.spv_module.specs.Operand.{PlainInst}
use Rattle.spv_declarations.specs.Example as declarations

-- two entry points of one execution model and one name
abbrev pub entries : List PlainInst
entries = declarations.entries
