-- Small examples.
use Rattle.std.specs.Prelude.{ℕ, List, [], ◌∷◌, codes}
use Rattle.spv_table.specs.declared.table.Category.TheVariants.{BitEnum}
use Rattle.spv_table.specs.Table.{Table}
use Rattle.spv_module.specs.declared.opcode.TheConstants as opcode
use Rattle.spv_module.specs.Operand.{Plain, OfType, Result, Id, Word, Mask, PlainInst}

-- %x = OpLabel
abbrev pub label : ℕ → PlainInst
label x = record { opcode = opcode.LABEL; operands = Result x ∷ [] }

-- OpBranch %x
abbrev pub branch : ℕ → PlainInst
branch x = record { opcode = opcode.BRANCH; operands = Id x ∷ [] }

-- OpBranchConditional %c %x %y
abbrev pub conditional : ℕ → ℕ → ℕ → PlainInst
conditional c x y = record { opcode = opcode.BRANCH_CONDITIONAL; operands = Id c ∷ Id x ∷ Id y ∷ [] }

-- OpLoopMerge %x %y None, and a table of the one kind that it has
abbrev pub loop_merge : ℕ → ℕ → PlainInst
loop_merge x y = record { opcode = opcode.LOOP_MERGE; operands = Id x ∷ Id y ∷ Mask 0 0 ∷ [] }

abbrev pub looped : Table
looped = record {
  kinds =
      record { kind = record { name = codes "LoopControl"; category = BitEnum; bases = [] }; enumerants = [] } ∷ [];
  entries = [];
}

-- OpFunction and OpReturn, of which the operands do not matter
abbrev pub function : PlainInst
function = record { opcode = opcode.FUNCTION; operands = [] }

abbrev pub return_void : PlainInst
return_void = record { opcode = opcode.RETURN; operands = [] }

-- %1 = OpLabel, OpBranch %2, %2 = OpLabel, OpReturn
abbrev pub two_blocks : List PlainInst
two_blocks = function ∷ label 1 ∷ branch 2 ∷ label 2 ∷ return_void ∷ []

-- %9 = OpPhi %20 %x %p, and with no pair
abbrev pub phi_of : ℕ → ℕ → PlainInst
phi_of x p = record { opcode = opcode.PHI; operands = OfType 20 ∷ Result 9 ∷ Id x ∷ Id p ∷ [] }

abbrev pub phi : ℕ → PlainInst
phi p = phi_of 5 p

abbrev pub bare_phi : PlainInst
bare_phi = record { opcode = opcode.PHI; operands = OfType 20 ∷ Result 9 ∷ [] }

-- %1 = OpLabel, OpBranch %2, %2 = OpLabel, and an OpPhi that pairs %x, or %5, with the block of %p, or names none
abbrev pub valued : ℕ → ℕ → List PlainInst
valued x p = function ∷ label 1 ∷ branch 2 ∷ label 2 ∷ phi_of x p ∷ []

abbrev pub paired : ℕ → List PlainInst
paired p = valued 5 p

abbrev pub unpaired : List PlainInst
unpaired = function ∷ label 1 ∷ branch 2 ∷ label 2 ∷ bare_phi ∷ []

-- %r = OpNot %20 %x
abbrev pub negation : ℕ → ℕ → PlainInst
negation r x = record { opcode = 200; operands = OfType 20 ∷ Result r ∷ Id x ∷ [] }

-- %1 = OpLabel, the instruction, %7 = OpNot %20 %6
abbrev pub before_7 : PlainInst → List PlainInst
before_7 i = function ∷ label 1 ∷ i ∷ negation 7 6 ∷ []

-- where that instruction is %6 = OpNot %20 %7
abbrev pub early : List PlainInst
early = before_7 (negation 6 7)

-- %6 = OpExtInst %20 %3 5, and behind its number the operand; and a function with it before %7
abbrev pub extended : Plain → PlainInst
extended o = record { opcode = opcode.EXT_INST; operands = OfType 20 ∷ Result 6 ∷ Id 3 ∷ Word 5 ∷ o ∷ [] }

abbrev pub extended_early : Plain → List PlainInst
extended_early o = before_7 (extended o)
