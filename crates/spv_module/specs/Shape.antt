-- What a kind asks for at its place.
use Rattle.std.specs.Prelude.{ℕ, List, map, Option, Some, None, Bool, false, nat_eq, bytes_eq, codes, ◌&&◌}
use Rattle.std.specs.Prelude.{◌||◌, if◌then◌else◌}
use Rattle.spv_table.specs.declared.table.Enumerant.{Enumerant}
use Rattle.spv_table.specs.declared.table.Category.{Category}
use Rattle.spv_table.specs.declared.table.Category.TheVariants as category
use Rattle.spv_table.specs.Table.{Table, Sort, kind_of}
use Rattle.spv_module.specs.declared.opcode.TheConstants.{SWITCH}
use Rattle.spv_module.specs.Operand.{Context}
use Rattle.spv_module.specs.Width.{context_width, switch_width}

-- a kind that is due, and whether it is a base of PairLiteralIntegerIdRef; one that is no such base [own]
pub record Slot : Type 0 where
  pub kind : ℕ
  pub paired : Bool

abbrev pub alone : ℕ → Slot
alone k = record { kind = k; paired = false }

-- what is asked for: an id of one of three sorts, a word, a number of a width if that is known, a text,
-- a known value, a mask of known bits, the bases in order, or what nothing spells [own]
pub data Shape : Type 0 where
  AsType : Shape
  AsResult : Shape
  AsId : Shape
  AsWord : Shape
  AsNumber : Option ℕ → Shape
  AsText : Shape
  AsValue : List Enumerant → Shape
  AsMask : List Enumerant → Shape
  AsParts : List Slot → Shape
  AsNothing : Shape

-- by a kind's name: a LiteralInteger is a number inside a pair in OpSwitch, else a word; Ids; Literals [own]
abbrev pub integer_shape : Context → Bool → Shape
integer_shape c paired = if paired && nat_eq c.opcode SWITCH then AsNumber (switch_width c) else AsWord

abbrev pub id_shape : List ℕ → Shape
id_shape name = if bytes_eq name (codes "IdResultType") then AsType
    else (if bytes_eq name (codes "IdResult") then AsResult else AsId)

abbrev pub literal_shape : Context → Bool → List ℕ → Shape
literal_shape c paired name = if bytes_eq name (codes "LiteralInteger") then integer_shape c paired
    else (if bytes_eq name (codes "LiteralFloat") || bytes_eq name (codes "LiteralExtInstInteger") then AsWord
    else (if bytes_eq name (codes "LiteralString") then AsText
    else (if bytes_eq name (codes "LiteralContextDependentNumber") then AsNumber (context_width c)
    else AsNothing)))

-- what a slot asks for under a table and a context, by its kind's category and name; a Composite its bases [own]
abbrev pub bases : List ℕ → List ℕ → List Slot
bases name ks = map (λ k. record { kind = k; paired = bytes_eq name (codes "PairLiteralIntegerIdRef") }) ks

abbrev pub category_shape : Context → Bool → Sort → Category → Shape
category_shape c paired s category.Id = id_shape s.kind.name
category_shape c paired s category.Literal = literal_shape c paired s.kind.name
category_shape c paired s category.ValueEnum = AsValue s.enumerants
category_shape c paired s category.BitEnum = AsMask s.enumerants
category_shape c paired s category.Composite = AsParts (bases s.kind.name s.kind.bases)

abbrev pub kind_shape : Context → Bool → Option Sort → Shape
kind_shape c paired None = AsNothing
kind_shape c paired (Some s) = category_shape c paired s s.kind.category

unfoldable pub shape_of : Table → Context → Slot → Shape
shape_of G c s = kind_shape c s.paired (kind_of G s.kind)
