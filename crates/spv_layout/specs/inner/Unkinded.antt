-- Rows that have no operand that is a value or a mask. (For the code alone.)
use Rattle.std.specs.Prelude.{List, [], ◌∷◌, Bool, true, false, ◌&&◌, Option, Some, None}
use Rattle.spv_module.specs.Operand.{Plain}
use Rattle.spv_module.specs.Operand as operand
use Rattle.spv_layout.specs.declared.form.Form.{Form}
use Rattle.spv_layout.specs.declared.form.Form.TheVariants as form
use Rattle.spv_layout.specs.Row.{PlainRow, RowEnding, closed, maybe, file_and_text, repeated, others, maybe_others}
use Rattle.spv_layout.specs.Row.{maybe_repeated}

-- The operand is neither a value nor a mask.
abbrev pub IsUnkinded : Plain → Type 0
IsUnkinded (operand.Value k x) = ⊥
IsUnkinded (operand.Mask k x) = ⊥
IsUnkinded o = Unit {0}

-- no operand of a form is a value or a mask, nor of any of some forms, nor of those of an ending, nor of those of the
-- row of an opcode, if it has one
abbrev pub is_unkinded : Form → Bool
is_unkinded (form.Kind name) = false
is_unkinded form.Other = false
is_unkinded f = true

abbrev pub are_unkinded : List Form → Bool
are_unkinded [] = true
are_unkinded (f ∷ fs) = is_unkinded f && are_unkinded fs

abbrev pub is_unkinded_ending : RowEnding → Bool
is_unkinded_ending closed = true
is_unkinded_ending (maybe f) = is_unkinded f
is_unkinded_ending file_and_text = true
is_unkinded_ending (repeated fs) = are_unkinded fs
is_unkinded_ending others = false
is_unkinded_ending (maybe_others f) = false
is_unkinded_ending (maybe_repeated f g) = is_unkinded f && is_unkinded g

abbrev pub is_unkinded_row : Option PlainRow → Bool
is_unkinded_row None = false
is_unkinded_row (Some r) = are_unkinded r.fixed && is_unkinded_ending r.ending
