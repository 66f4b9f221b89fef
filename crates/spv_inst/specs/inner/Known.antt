-- What is kept of the instructions and operands before. (For the code alone.)
use Rattle.std.specs.Prelude.{◌≡◌, ℕ, List, Option, Some, None, nat_eq, option_map, slice_index_or}
use Rattle.std.specs.Ordering.{nat_cmp}
use Rattle.std.specs.BTreeMap.{get}
use Rattle.spv_ranks.specs.Rank.{at_rank}
use Rattle.spv_inst.specs.declared.definitions.Definition.{Definition}
use Rattle.spv_inst.specs.declared.definitions.Definitions.{Definitions}
use Rattle.spv_inst.specs.declared.reader.Known.{Known}
use Rattle.spv_module.specs.declared.opcode.TheConstants.{TYPE_FLOAT}
use Rattle.spv_module.specs.Operand.{PlainInst, Context, type_in}
use Rattle.spv_module.specs.Width.{definition_of, declared_width, first_id}

-- what is kept of a definition: its first result type, whether it is a float type (OpTypeFloat), and the
-- width that it declares
abbrev pub summary : PlainInst → Definition
summary i = record { type_id = type_in i.operands; is_float = nat_eq i.opcode TYPE_FLOAT; width = declared_width i }

-- what is kept of an id: what stands at its place in the list, or where nothing does, at its rank, or where nothing
-- does there either, what the map has
abbrev pub or_far : Option Definition → Option Definition → Option Definition
or_far (Some d) other = Some d
or_far None other = other

abbrev pub kept_far : Definitions → ℕ → Option Definition
kept_far d x = or_far (at_rank None d.ranked.items d.ranks x) (get nat_cmp d.far x)

abbrev pub kept : Definitions → ℕ → Option Definition
kept d x = or_far (slice_index_or d.near.items x None) (kept_far d x)

-- For every id, what is kept is the summary of its last definition among the instructions before.
pub record Knows (d : Definitions) (before : List PlainInst) : Type 0 where
  pub latest : (x : ℕ) → kept d x ≡ option_map summary (definition_of before x)

-- the definitions and what is known are those of a context
pub record IsNear (d : Definitions) (known : Known) (c : Context) : Type 0 where
  pub definitions : Knows d c.before
  pub opcode : known.opcode ≡ c.opcode
  pub type_id : known.type_id ≡ type_in c.operands
  pub first : known.first ≡ first_id c.operands
