-- Pairs that come any number of times. (For the code alone.)
use Rattle.std.specs.Prelude.{◌≡◌, ℕ, List, [], ◌∷◌, true}
use Rattle.spv_table.specs.Table.{Table}
use Rattle.spv_module.specs.declared.operand.Operand.{Operand}
use Rattle.spv_module.specs.Module.{plain_operands}
use Rattle.spv_module.specs.Operand.{PlainInst, Context}
use Rattle.spv_module.specs.Shape.{Slot, AsId, AsParts, shape_of}
use Rattle.spv_inst.specs.Flat.{Due, OneOf}
use Rattle.spv_inst.specs.inner.Items.{settled}

-- what is due next is a pair of two slots, the second of which asks for an id, and after it the same is due
pub record IsPair (G : Table) (ds : List Due) (first second : Slot) : Type 0 where
  pub slot : Slot
  pub repeated : settled true ds ≡ OneOf slot ∷ ds
  pub parts : (c : Context) → shape_of G c slot ≡ AsParts (first ∷ second ∷ [])
  pub id : (c : Context) → shape_of G c second ≡ AsId

-- the context within an instruction of an opcode
abbrev pub context_at : List PlainInst → ℕ → List Operand → Context
context_at before opcode operands = record { before = before; opcode = opcode; operands = plain_operands operands }
