-- The smallest kernel, and a small grammar table under which it is a module.
use Rattle.std.specs.Prelude.{ℕ, List, [], ◌∷◌, codes}
use Rattle.spv_table.specs.declared.table.Category.TheVariants as category
use Rattle.spv_table.specs.declared.table.Quantifier.TheVariants as quantifier
use Rattle.spv_table.specs.declared.table.Item.{Item}
use Rattle.spv_table.specs.declared.table.Entry.{Entry}
use Rattle.spv_table.specs.declared.table.Enumerant.{Enumerant}
use Rattle.spv_table.specs.Table.{Sort, Table}
use Rattle.spv_module.specs.Operand.{OfType, Result, Id, Text, Value, Mask, PlainInst}
use Rattle.spv_module.specs.Example.{plain_kind}
use Rattle.spv_module.specs.declared.opcode.TheConstants as opcode
use Rattle.spv_capabilities.specs.Example.{enumerant, value_kind}
use Rattle.spv_type_forms.specs.Example.{inst}

abbrev pub capabilities : List Enumerant
capabilities = enumerant (codes "Addresses") 4 [] ∷ enumerant (codes "Kernel") 6 [] ∷ []

abbrev pub addressing_models : List Enumerant
addressing_models = enumerant (codes "Physical64") 2 (codes "Addresses" ∷ []) ∷ []

abbrev pub memory_models : List Enumerant
memory_models = enumerant (codes "OpenCL") 2 (codes "Kernel" ∷ []) ∷ []

abbrev pub execution_models : List Enumerant
execution_models = enumerant (codes "Kernel") 6 (codes "Kernel" ∷ []) ∷ []

abbrev pub controls : List Enumerant
controls = enumerant (codes "None") 0 [] ∷ []

-- numbered from 0
abbrev pub kinds : List Sort
kinds =
    value_kind (codes "Capability") capabilities ∷
    value_kind (codes "AddressingModel") addressing_models ∷
    value_kind (codes "MemoryModel") memory_models ∷
    value_kind (codes "ExecutionModel") execution_models ∷
    record {
      kind = record { name = codes "FunctionControl"; category = category.BitEnum; bases = [] };
      enumerants =
          controls;
    } ∷
    plain_kind (codes "IdResultType") category.Id ∷
    plain_kind (codes "IdResult") category.Id ∷
    plain_kind (codes "IdRef") category.Id ∷
    plain_kind (codes "LiteralString") category.Literal ∷
    []

abbrev pub operand : ℕ → Item
operand kind = record { kind = kind; quantifier = quantifier.One }

-- any number of operands of a kind
abbrev pub operands : ℕ → Item
operands kind = record { kind = kind; quantifier = quantifier.Many }

abbrev pub entry : List ℕ → List Item → Entry
entry name items = record { name = name; operands = items; capabilities = [] }

abbrev pub grammar : Table
grammar = record {
  kinds = kinds;
  entries =
      (17, entry (codes "OpCapability") (operand 0 ∷ [])) ∷
      (14, entry (codes "OpMemoryModel") (operand 1 ∷ operand 2 ∷ [])) ∷
      (15, entry (codes "OpEntryPoint") (operand 3 ∷ operand 7 ∷ operand 8 ∷ operands 7 ∷ [])) ∷
      (19, entry (codes "OpTypeVoid") (operand 6 ∷ [])) ∷
      (33, entry (codes "OpTypeFunction") (operand 6 ∷ operand 7 ∷ operands 7 ∷ [])) ∷
      (54, entry (codes "OpFunction") (operand 5 ∷ operand 6 ∷ operand 4 ∷ operand 7 ∷ [])) ∷
      (248, entry (codes "OpLabel") (operand 6 ∷ [])) ∷
      (253, entry (codes "OpReturn") []) ∷
      (56, entry (codes "OpFunctionEnd") []) ∷
      [];
}

-- OpCapability
abbrev pub capability : ℕ → PlainInst
capability value = inst opcode.CAPABILITY (Value 0 value ∷ [])

-- OpMemoryModel Physical64 OpenCL
abbrev pub model : PlainInst
model = inst opcode.MEMORY_MODEL (Value 1 2 ∷ Value 2 2 ∷ [])

-- OpEntryPoint Kernel %3 "k"
abbrev pub entry_point : PlainInst
entry_point = inst opcode.ENTRY_POINT (Value 3 6 ∷ Id 3 ∷ Text (codes "k") ∷ [])

-- %1 = OpTypeVoid
abbrev pub void : PlainInst
void = inst opcode.TYPE_VOID (Result 1 ∷ [])

-- %2 = OpTypeFunction %1
abbrev pub of_void : PlainInst
of_void = inst opcode.TYPE_FUNCTION (Result 2 ∷ Id 1 ∷ [])

-- %3 = OpFunction %1 None %2
abbrev pub function : PlainInst
function = inst opcode.FUNCTION (OfType 1 ∷ Result 3 ∷ Mask 4 0 ∷ Id 2 ∷ [])

-- %4 = OpLabel
abbrev pub label : PlainInst
label = inst opcode.LABEL (Result 4 ∷ [])

abbrev pub return_op : PlainInst
return_op = inst opcode.RETURN []

abbrev pub end : PlainInst
end = inst opcode.FUNCTION_END []

-- The bound of its ids is 5.
abbrev pub kernel : List PlainInst
kernel = capability 4 ∷ capability 6 ∷ model ∷ entry_point ∷ void ∷ of_void ∷ function ∷ label
    ∷ return_op ∷ end ∷ []
