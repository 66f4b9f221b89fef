-- Rows of the table of shapes. (Own.)
use Rattle.std.specs.Prelude.{ℕ, List, [], ◌∷◌, Bool, true, false, nat_le, ◌&&◌, if◌then◌else◌}
use Rattle.std.specs.Prelude.{Option, Some, None, codes}
use Rattle.spv_module.specs.declared.profile.Profile.{Profile}
use Rattle.spv_layout.specs.declared.class.Class.{Class}
use Rattle.spv_layout.specs.declared.form.Named.{Named}
use Rattle.spv_layout.specs.declared.form.Named.TheVariants as kind_of
use Rattle.spv_layout.specs.declared.form.Form.{Form}
use Rattle.spv_layout.specs.declared.form.After.{After}
use Rattle.spv_layout.specs.declared.form.After.TheVariants as after

-- what may come after the fixed operands of a row: nothing; one operand, or nothing; an OpString's id, or nothing, and
-- then a text, or nothing; these operands in turn, any number of times; any number of operands other than a result type
-- or a result; one operand and any number of such others, or nothing; one operand and any number of another, or nothing
-- [own]
pub data RowEnding : Type 0 where
  closed : RowEnding
  maybe : Form → RowEnding
  file_and_text : RowEnding
  repeated : List Form → RowEnding
  others : RowEnding
  maybe_others : Form → RowEnding
  maybe_repeated : Form → Form → RowEnding

-- a row: from an opcode to an opcode, the profile that it belongs to, their class in the layout, their operands, and
-- what may come after these [own]
pub record PlainRow : Type 0 where
  pub from : ℕ
  pub to : ℕ
  pub profile : Profile
  pub class : Class
  pub fixed : List Form
  pub ending : RowEnding

-- a line of the code's table, as src/rows.rt writes it: the first and the last opcode, the profile, the class, the
-- fixed operands, what may come after them, and the operands that this names; and its row [own]
abbrev pub Forms : Type 0
Forms = record { now : List Form }

abbrev pub Line : Type 0
Line = ℕ × ℕ × Profile × Class × Forms × After × Forms

abbrev pub ending_of : After → List Form → RowEnding
ending_of after.Maybe (f ∷ fs) = maybe f
ending_of after.FileAndText fs = file_and_text
ending_of after.Repeated fs = repeated fs
ending_of after.Others fs = others
ending_of after.MaybeOthers (f ∷ fs) = maybe_others f
ending_of after.MaybeRepeated (f ∷ g ∷ fs) = maybe_repeated f g
ending_of _ fs = closed

abbrev pub row_on : Line → PlainRow
row_on l =
    record { from = l.0; to = l.1; profile = l.2; class = l.3; fixed = l.4.now; ending = ending_of l.5 l.6.now }

-- the first row that has the opcode [own]
abbrev pub row_in : List PlainRow → ℕ → Option PlainRow
row_in [] n = None
row_in (r ∷ rs) n = if nat_le r.from n && nat_le n r.to then Some r else row_in rs n

-- the name of a kind, and whether its operands are masks [own]
abbrev pub name_of : Named → List ℕ
name_of kind_of.SourceLanguage = codes "SourceLanguage"
name_of kind_of.AddressingModel = codes "AddressingModel"
name_of kind_of.MemoryModel = codes "MemoryModel"
name_of kind_of.ExecutionModel = codes "ExecutionModel"
name_of kind_of.ExecutionMode = codes "ExecutionMode"
name_of kind_of.Capability = codes "Capability"
name_of kind_of.StorageClass = codes "StorageClass"
name_of kind_of.Decoration = codes "Decoration"
name_of kind_of.FunctionControl = codes "FunctionControl"
name_of kind_of.MemoryAccess = codes "MemoryAccess"
name_of kind_of.LoopControl = codes "LoopControl"
name_of kind_of.SelectionControl = codes "SelectionControl"
name_of kind_of.Dim = codes "Dim"
name_of kind_of.ImageFormat = codes "ImageFormat"
name_of kind_of.AccessQualifier = codes "AccessQualifier"
name_of kind_of.SamplerAddressingMode = codes "SamplerAddressingMode"
name_of kind_of.SamplerFilterMode = codes "SamplerFilterMode"
name_of kind_of.GroupOperation = codes "GroupOperation"
name_of kind_of.PackedVectorFormat = codes "PackedVectorFormat"
name_of kind_of.ImageOperands = codes "ImageOperands"

abbrev pub has_masks : Named → Bool
has_masks kind_of.FunctionControl = true
has_masks kind_of.MemoryAccess = true
has_masks kind_of.LoopControl = true
has_masks kind_of.SelectionControl = true
has_masks kind_of.ImageOperands = true
has_masks _ = false
