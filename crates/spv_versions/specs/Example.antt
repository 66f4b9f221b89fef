-- Small modules.
use Rattle.std.specs.Prelude.{List, [], ◌∷◌, codes}
use Rattle.spv_module.specs.declared.opcode.TheConstants as opcode
use Rattle.spv_module.specs.Operand.{Text, PlainInst}
use Rattle.spv_type_forms.specs.Example.{inst}

-- OpExtension "SPV_KHR_16bit_storage"
abbrev pub extended : List PlainInst
extended = inst opcode.EXTENSION (Text (codes "SPV_KHR_16bit_storage") ∷ []) ∷ []
