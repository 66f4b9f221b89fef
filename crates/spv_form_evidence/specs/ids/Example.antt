-- Small examples.
use Rattle.std.specs.Prelude.{ℕ, List, [], ◌∷◌}
use Rattle.spv_module.specs.Operand.{OfType, Result, Id, Word, Mention, PlainInst}
use Rattle.spv_module.specs.declared.opcode.TheConstants as opcode
use Rattle.spv_ids.specs.Example.{void}

-- %x = OpUndef %t
abbrev pub undef : ℕ → ℕ → PlainInst
undef t x = record { opcode = opcode.UNDEF; operands = OfType t ∷ Result x ∷ [] }

-- %2 = OpUndef %1, and %3 = OpUndef %2: a value in the place of a type
abbrev pub value_as_type : List PlainInst
value_as_type = void 1 ∷ undef 1 2 ∷ undef 2 3 ∷ []

-- %2 = OpExtInst %1 %3 0 %x, of a set that alone knows what %x is
abbrev pub mentioning : ℕ → PlainInst
mentioning x = record {
  opcode = opcode.EXT_INST;
  operands = OfType 1 ∷ Result 2 ∷ Id 3 ∷ Word 0 ∷ Mention x ∷ [];
}
