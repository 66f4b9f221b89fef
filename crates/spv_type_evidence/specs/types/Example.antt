-- Small modules.
use Rattle.std.specs.Prelude.{List, [], ◌∷◌, ◌++◌}
use Rattle.spv_module.specs.Operand.{OfType, Result, Id, PlainInst}
use Rattle.spv_module.specs.declared.opcode.TheConstants as opcode
use Rattle.spv_type_forms.specs.Example.{inst}
use Rattle.spv_type_rules.specs.Example.{small, again, short_call}
use Rattle.spv_readings.specs.Example.{vector}

-- %9 = OpConstantComposite %3 %18 %18
abbrev pub composite : PlainInst
composite = inst opcode.CONSTANT_COMPOSITE (OfType 3 ∷ Result 9 ∷ Id 18 ∷ Id 18 ∷ [])

-- the small module of seven instructions, and one more
abbrev pub with_vector : List PlainInst
with_vector = small ++ (vector ∷ [])

abbrev pub with_again : List PlainInst
with_again = small ++ (again ∷ [])

abbrev pub with_short_call : List PlainInst
with_short_call = small ++ (short_call ∷ [])
