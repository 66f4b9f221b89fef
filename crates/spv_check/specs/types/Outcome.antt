-- What `type_check` answers of a module whose ids are numbered.
use Rattle.std.specs.Prelude.{◌≡◌, ◌⊎◌, ℕ, List, Option, Some, slice_get}
use Rattle.spv_table.specs.Table.{Table}
use Rattle.spv_module.specs.Operand.{PlainInst}
use Rattle.spv_module.specs.Width as width
use Rattle.spv_module.specs.declared.fault.Rule.{Rule}
use Rattle.spv_module.specs.declared.fault.Stop.{Stop}
use Rattle.spv_module.specs.declared.fault.Stop.TheVariants.{Fault, Memory}
use Rattle.spv_layout.specs.First.{IsFirst, IsUnbroken}
use Rattle.spv_layout.specs.Place.{first_word_of}
use Rattle.spv_layout.specs.Stage.{of_roles, of_types}
use Rattle.spv_type_rules.specs.roles.Outcome.{AreInRole}
use Rattle.spv_capabilities.specs.Keeps as capabilities
use Rattle.spv_ops.specs.Typed.{IsTyped}
use Rattle.spv_type_rules.specs.Keeps as rules
use Rattle.spv_check.specs.declared.types.Types.{Types}
use Rattle.spv_check.specs.types.Broken.{Broken}

-- the type that is told of an id
abbrev pub type_in : Types → ℕ → Option ℕ
type_in types x = width.type_of types.insts x

-- Each use is in its role, each instruction keeps what the rules C1 to E2 and Y2 to Y8 demand, and it is these
-- instructions, by that table, of which is told which types ids are declared with and which capabilities there are.
pub record AreTypes (G : Table) (is : List PlainInst) (types : Types) : Type 0 where
  pub roles : AreInRole G is
  pub capabilities : (r : Rule) (n : ℕ) (i : PlainInst) → slice_get is n ≡ Some i
      → capabilities.Keeps G is r n i
  pub rules : (r : Rule) (n : ℕ) (i : PlainInst) → slice_get is n ≡ Some i
      → rules.Keeps (IsTyped G is) is r n i
  pub same : types ≡ record { table = G; insts = is }

-- What a refusal says: out of memory; or the first use that is not in its role, or where all are, the first broken
-- rule of capabilities, entry points and types; with the first word of its instruction.
abbrev pub IsRefusal : Table → List PlainInst → Stop → Type 0
IsRefusal G is Memory = Unit {0}
IsRefusal G is (Fault f) =
    (IsFirst (Broken G is) of_roles f.rule f.inst
    ⊎ (IsUnbroken (Broken G is) of_roles × IsFirst (Broken G is) of_types f.rule f.inst))
    × (f.word ≡ first_word_of is f.inst)
