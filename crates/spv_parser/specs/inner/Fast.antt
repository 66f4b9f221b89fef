-- What the fast way through a line's operands keeps and answers. (For the code alone.)
use Rattle.std.specs.Prelude.{◌≡◌, ◌++◌, ◌∷◌, ℕ, List, Option, Some, None, true}
use Rattle.std.specs.Prelude.{map, Result, IfOk, IfSome}
use Rattle.std.specs.declared.alloc.AllocError.{AllocError}
use Rattle.spv_table.specs.declared.table.Item.{Item}
use Rattle.spv_table.specs.Table.{Table, kind_of}
use Rattle.spv_inst.specs.declared.definitions.Definitions.{Definitions}
use Rattle.spv_table.specs.declared.form.Leaf as declared
use Rattle.spv_table.specs.declared.form.Form.TheVariants.{Leaf}
use Rattle.spv_table.specs.inner.Form.{form_at}
use Rattle.spv_inst.specs.inner.Known.{Knows}
use Rattle.spv_inst.specs.inner.Pending.{settled, due_first, items_of}
use Rattle.spv_module.specs.Operand.{Plain, PlainInst, Context, result_in, type_in}
use Rattle.spv_module.specs.Shape.{Slot, alone}
use Rattle.spv_inst.specs.Flat.{Due, OneOf, due}
use Rattle.spv_lines.specs.inner.Narrow.{IsNarrow}
use Rattle.spv_parser.specs.declared.fast.Start.{Start}
use Rattle.spv_parser.specs.declared.fast.Taken.{Taken}
use Rattle.spv_parser.specs.declared.operands.Known.{Known}
use Rattle.spv_parser.specs.declared.operands.Line.{Line}
use Rattle.spv_parser.specs.inner.Reading.{IsStep, SoFar}

-- An operand was taken, whatever is due behind it: parameters of those kinds are due first.
abbrev pub IsFreeStep : Table → Option ℕ → Context → Slot → List ℕ → List ℕ → Known → List ℕ
    → List ℕ → List ℕ → Type 0
IsFreeStep G r c s t rest next kinds old new =
    (ds : List Due) → IsStep G r c s t rest next old new ds (map OneOf (map alone kinds) ++ ds)

-- Operands have the result and the result type that are kept.
pub record Has (line : Line) (os : List Plain) : Type 0 where
  pub result : result_in os ≡ line.result
  pub type_id : type_in os ≡ line.type_id

-- An operand that is neither a result nor a result type was taken.
pub record IsFastStep (G : Table) (line : Line) (c : Context) (s : Slot)
    (t rest kinds old new : List ℕ) : Type 0 where
  pub next : Known
  pub result : next.result ≡ line.result
  pub type_id : next.type_id ≡ line.type_id
  pub step : IsFreeStep G line.result c s t rest next kinds old new

-- What was taken for a kind, if anything was, is such an operand.
abbrev pub Took : Table → Line → Context → ℕ → List ℕ → Result (Option Taken) AllocError
    → List ℕ → List ℕ → Type 0
Took G line c kind t result old new =
    IfOk result (λ o. IfSome o (λ b. IsFastStep G line c (alone kind) t b.rest.now b.kinds.now old new))

-- So it is in each line.
abbrev pub TakesFast : Table → ℕ → List ℕ → Result (Option Taken) AllocError
    → List ℕ → List ℕ → Type 0
TakesFast G kind t result old new = (line : Line) (c : Context) → Has line c.operands
    → Took G line c kind t result old new

-- So it is in each line whose result type is such a type.
abbrev pub TakesNarrow : Table → ℕ → List ℕ → Result (Option Taken) AllocError
    → List ℕ → List ℕ → Type 0
TakesNarrow G kind t result old new = (line : Line) (c : Context) → Has line c.operands
    → IsNarrow c.before line.type_id → Took G line c kind t result old new

-- So it is in each line with that result type after the instructions that the definitions are of.
abbrev pub TakesTyped : Table → Definitions → Option ℕ → ℕ → List ℕ → Result (Option Taken) AllocError
    → List ℕ → List ℕ → Type 0
TakesTyped G d type_id kind t result old new = (line : Line) (c : Context) → Has line c.operands
    → line.type_id ≡ type_id → Knows d c.before → Took G line c kind t result old new

-- Some operands of a line were read, and they have what is kept of it.
pub record FastSoFar (G : Table) (line : Line) (before : List PlainInst) (number : ℕ) (pattern : List Due)
    (text : List ℕ) (ds : List Due) (t words : List ℕ) : Type 0 where
  pub known : Known
  pub opcode : line.opcode ≡ number
  pub result : known.result ≡ line.result
  pub type_id : known.type_id ≡ line.type_id
  pub width : line.width ≡ None
  pub so_far : SoFar G line.result before number pattern text known ds t words

-- Where something is left, what is due begins with a leaf.
pub record BeginsWith (G : Table) (leaf : declared.Leaf) (pattern ds : List Due) : Type 0 where
  pub kind : ℕ
  pub first : settled true pattern ≡ OneOf (alone kind) ∷ ds
  pub form : form_at (kind_of G kind) ≡ Leaf leaf

-- From the whole pattern and the whole line, the words bring the reader to the start.
abbrev pub IsStart : Table → ℕ → List Item → List ℕ → Start → List ℕ → Type 0
IsStart G opcode pattern text s words = (before : List PlainInst)
    → FastSoFar G s.line before opcode (map due (items_of pattern)) text
    (due_first s.kinds.now s.items.left.now) s.rest.now words
