-- Typed: the conditions that an opcode asks hold of the result type of an instruction, of the types of its value
-- operands and of its literals. [own: Y5]
use Rattle.std.specs.Prelude.{◌≡◌, ◌⊎◌, ℕ, List, Option, Some, length, slice_get}
use Rattle.std.specs.List.{AllByRecursion}
use Rattle.spv_table.specs.Table.{Table}
use Rattle.spv_module.specs.Operand.{PlainInst}
use Rattle.spv_type_kinds.specs.Operands.{result_type_in}
use Rattle.spv_type_forms.specs.Values.{AreValues, types_of}
use Rattle.spv_conditions.specs.Asks.{HoldsOf}
use Rattle.spv_ops.specs.declared.table.Places.TheVariants.{Free}
use Rattle.spv_ops.specs.Table.{places_of, conditions_of}

-- What the line of an opcode asks holds at the instruction i of number n: of its result type r, if it has one, and of
-- the types of its value operands in order. [own: Y5]
abbrev pub LineHolds : List PlainInst → ℕ → PlainInst → ℕ → Option ℕ → List ℕ → Type 0
LineHolds is n i opcode r types = AllByRecursion (HoldsOf is n i r types) (conditions_of opcode (length types))

-- Typed: what is asked of the instruction holds of these types of its value operands: the declared ones where a module
-- is checked, those that are bound where it is run. [own: Y5]
abbrev pub Typed : List PlainInst → ℕ → PlainInst → List ℕ → Type 0
Typed is n i types = LineHolds is n i i.opcode (result_type_in i.operands) types

-- Y5 is unbroken at an instruction: what is asked of it, if anything, holds of the declared types of its value
-- operands. [own: Y5]
abbrev pub IsTyped : Table → List PlainInst → ℕ → PlainInst → Type 0
IsTyped G is n i = (places_of i.opcode ≡ Free)
    ⊎ ((xs types : List ℕ) × AreValues G i xs × (types_of is xs ≡ Some types) × Typed is n i types)

-- Y5 is unbroken at instruction n. [own: Y5]
pub record IsTypedAt (G : Table) (is : List PlainInst) (n : ℕ) : Type 0 where
  pub inst : PlainInst
  pub there : slice_get is n ≡ Some inst
  pub typed : IsTyped G is n inst
