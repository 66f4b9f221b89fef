-- The operands that a row of the table of shapes asks for, in words. (Own.)
use Rattle.std.specs.Prelude.{◌++◌, ℕ, List, [], ◌∷◌, Bool, true, false, Option, Some, None, codes}
use Rattle.spv_layout.specs.Row.{PlainRow, RowEnding, closed, file_and_text, maybe, maybe_others, maybe_repeated}
use Rattle.spv_layout.specs.Row.{name_of, others, repeated}
use Rattle.spv_layout.specs.Rows.{row_of}
use Rattle.spv_layout.specs.declared.form.Form.{Form}
use Rattle.spv_layout.specs.declared.form.Form.TheVariants as form
use Rattle.spv_layout.specs.declared.form.Role.{Role}
use Rattle.spv_layout.specs.declared.form.Role.TheVariants as role

-- a role that an id is used in
abbrev pub role_text : Role → List ℕ
role_text role.OfType = codes "type"
role_text role.Value = codes "value"
role_text role.Function = codes "function"
role_text role.Text = codes "string"
role_text role.Set = codes "set"
role_text role.Label = codes "label"
role_text role.Global = codes "global"
role_text role.Any = codes "any"

-- what a row asks of an operand: a value or mask by the name of its kind, and an id by its role
abbrev pub form_text : Form → List ℕ
form_text form.OfType = codes "result type"
form_text form.Result = codes "result"
form_text form.Word = codes "word"
form_text form.Number = codes "number"
form_text form.Text = codes "string"
form_text (form.Id r) = role_text r
form_text form.Unseen = codes "id"
form_text (form.Kind k) = name_of k
form_text form.Other = codes "operand"

-- any operand but the first after a comma
abbrev pub comma : Bool → List ℕ
comma true = []
comma false = codes ", "

abbrev pub forms_text : Bool → List Form → List ℕ
forms_text first [] = []
forms_text first (f ∷ fs) = comma first ++ form_text f ++ forms_text false fs

-- where nothing may come after the fixed operands, and there are none of these
abbrev pub closed_text : Bool → List ℕ
closed_text true = codes "no operands"
closed_text false = []

-- what may come after the fixed operands, and whether that is the first that is told
abbrev pub ending_text : Bool → RowEnding → List ℕ
ending_text first closed = closed_text first
ending_text first (maybe f) = comma first ++ form_text f ++ codes " or nothing"
ending_text first file_and_text = comma first ++ codes "file or nothing, string or nothing"
ending_text first (repeated fs) = comma first ++ codes "any number of: " ++ forms_text true fs
ending_text first others = comma first ++ codes "any others"
ending_text first (maybe_others f) = comma first ++ form_text f ++ codes " or nothing, any others"
ending_text first (maybe_repeated f g) =
    comma first ++ form_text f ++ codes " or nothing, any number of: " ++ form_text g

-- has a row no fixed operands
abbrev pub has_none : List Form → Bool
has_none [] = true
has_none (f ∷ fs) = false

-- `result type, result, value, any number of: value`
abbrev pub row_words : Option PlainRow → List ℕ
row_words None = codes "none"
row_words (Some r) = forms_text true r.fixed ++ ending_text (has_none r.fixed) r.ending

-- the same of an opcode, if its row is known
abbrev pub row_text : ℕ → Bool → List ℕ
row_text opcode true = row_words (row_of opcode)
row_text opcode false = codes "none"
