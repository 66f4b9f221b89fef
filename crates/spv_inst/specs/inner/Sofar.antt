-- What a decoder keeps from one operand to the next. (For the code alone.)
use Rattle.std.specs.Prelude.{◌+◌, ◌-◌, ℕ, List, ◌++◌, map}
use Rattle.spv_table.specs.Table.{Table, Item}
use Rattle.spv_module.specs.declared.operand.Operand.{Operand}
use Rattle.spv_module.specs.Module.{plain_operands}
use Rattle.spv_module.specs.Operand.{Plain, PlainInst, Context, after, start}
use Rattle.spv_module.specs.declared.fault.Rule.{Rule}
use Rattle.spv_inst.specs.Flat.{Due, due}
use Rattle.spv_inst.specs.inner.Flat.{Matches, Fails}
use Rattle.spv_inst.specs.inner.Reading.{between}

-- From the pattern and all the further words: the operands so far, what is due, the words left, and how many were
-- taken.
pub record Sofar (G : Table) (c : Context) (pattern : List Due) (words : List ℕ) (out : List Plain) (stack : List Due)
    (rest : List ℕ) (taken : ℕ) : Type 0 where
  pub matched : (ps : List Plain) → Matches G (after c out) stack ps rest → Matches G c pattern (out ++ ps) words
  pub failed : (a : Rule) (n : ℕ) → Fails G (after c out) stack rest a n → Fails G c pattern words a (taken + n)

-- The same of an instruction of an opcode after those before, whose further words are those of the module from one
-- place up to another, where the operands so far were read up to a place.
abbrev pub SofarAt : Table → List PlainInst → ℕ → List Item → List ℕ → ℕ → ℕ → List Operand → List Due → ℕ → Type 0
SofarAt G before opcode pattern image first end operands stack at =
    Sofar G (start before opcode) (map due pattern) (between image first end) (plain_operands operands) stack
    (between image at end) (at - first)
