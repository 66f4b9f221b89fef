-- A small table, and instructions under it.
use Rattle.std.specs.Prelude.{ℕ, List, [], ◌∷◌, codes}
use Rattle.spv_table.specs.declared.table.Category.{Category}
use Rattle.spv_table.specs.declared.table.Category.TheVariants.{Id, Literal, BitEnum, Composite}
use Rattle.spv_table.specs.declared.table.Quantifier.TheVariants.{One, Maybe, Many}
use Rattle.spv_table.specs.declared.table.Enumerant.{Enumerant}
use Rattle.spv_table.specs.declared.table.Entry.{Entry}
use Rattle.spv_table.specs.Table.{Sort, Table}
use Rattle.spv_module.specs.declared.opcode.TheConstants as opcode
use Rattle.spv_module.specs.Operand.{OfType, Result, Word, Number, Text, Mask, PlainInst}
use Rattle.spv_module.specs.Operand as operand

-- Volatile (bit 1) takes no parameters, Aligned (bit 2) a LiteralInteger
abbrev pub access : List Enumerant
access =
    record { name = codes "Volatile"; value = 1; parameters = []; capabilities = [] } ∷
    record { name = codes "Aligned"; value = 2; parameters = 4 ∷ []; capabilities = [] } ∷
    []

abbrev pub plain_kind : List ℕ → Category → Sort
plain_kind name category = record { kind = record { name = name; category = category; bases = [] }; enumerants = [] }

-- numbered from 0
abbrev pub small_kinds : List Sort
small_kinds =
    plain_kind (codes "IdResultType") Id ∷
    plain_kind (codes "IdResult") Id ∷
    plain_kind (codes "IdRef") Id ∷
    record { kind = record { name = codes "MemoryAccess"; category = BitEnum; bases = [] }; enumerants = access } ∷
    plain_kind (codes "LiteralInteger") Literal ∷
    plain_kind (codes "LiteralString") Literal ∷
    record {
      kind = record {
        name = codes "PairLiteralIntegerIdRef";
        category = Composite;
        bases =
            4 ∷ 2 ∷ [];
      };
      enumerants = [];
    } ∷
    []

abbrev pub load_entry : Entry
load_entry = record {
  name = codes "OpLoad";
  operands =
      record { kind = 0; quantifier = One } ∷ record { kind = 1; quantifier = One }
      ∷ record { kind = 2; quantifier = One } ∷ record { kind = 3; quantifier = Maybe } ∷ [];
  capabilities = [];
}

abbrev pub string_entry : Entry
string_entry =
    record {
      name = codes "OpString";
      operands =
          record { kind = 1; quantifier = One } ∷ record { kind = 5; quantifier = One } ∷ [];
      capabilities = [];
    }

abbrev pub int_entry : Entry
int_entry = record {
  name = codes "OpTypeInt";
  operands =
      record { kind = 1; quantifier = One } ∷ record { kind = 4; quantifier = One }
      ∷ record { kind = 4; quantifier = One } ∷ [];
  capabilities = [];
}

abbrev pub switch_entry : Entry
switch_entry = record {
  name = codes "OpSwitch";
  operands =
      record { kind = 2; quantifier = One } ∷ record { kind = 2; quantifier = One }
      ∷ record { kind = 6; quantifier = Many } ∷ [];
  capabilities = [];
}

abbrev pub small : Table
small = record {
  kinds = small_kinds;
  entries =
      (opcode.LOAD, load_entry) ∷ (opcode.STRING, string_entry) ∷ (opcode.TYPE_INT, int_entry)
      ∷ (opcode.SWITCH, switch_entry) ∷ [];
}

-- %9 = OpLoad %2 %8 Volatile|Aligned 4
abbrev pub load : PlainInst
load = record { opcode = opcode.LOAD; operands = OfType 2 ∷ Result 9 ∷ operand.Id 8 ∷ Mask 3 3 ∷ Word 4 ∷ [] }

-- %5 = OpString "abc"
abbrev pub string : PlainInst
string = record { opcode = opcode.STRING; operands = Result 5 ∷ Text (codes "abc") ∷ [] }

-- %1 = OpTypeInt 64 0, and %2 of this type
abbrev pub long_value : List PlainInst
long_value =
    record { opcode = opcode.TYPE_INT; operands = Result 1 ∷ Word 64 ∷ Word 0 ∷ [] } ∷ record {
      opcode = opcode.LOAD;
      operands =
          OfType 1 ∷ Result 2 ∷ operand.Id 8 ∷ [];
    } ∷ []

-- OpSwitch %2 %10 4294967303 %11
abbrev pub switch : PlainInst
switch = record { opcode = opcode.SWITCH; operands = operand.Id 2 ∷ operand.Id 10 ∷ Number 7 1 2 ∷ operand.Id 11 ∷ [] }

-- %1 = OpTypeInt 32 0, and %1 = OpTypeInt 64 0
abbrev pub declared_twice : List PlainInst
declared_twice =
    record { opcode = opcode.TYPE_INT; operands = Result 1 ∷ Word 32 ∷ Word 0 ∷ [] } ∷ record {
      opcode = opcode.TYPE_INT;
      operands =
          Result 1 ∷ Word 64 ∷ Word 0 ∷ [];
    } ∷ []
