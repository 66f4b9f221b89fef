-- Operands that break no rule by themselves, and rows that have no others. (For the code alone.)
use Rattle.std.specs.Prelude.{ℕ, suc, List, [], ◌∷◌, Bool, true, false, ◌&&◌, if◌then◌else◌}
use Rattle.spv_module.specs.Operand.{Plain}
use Rattle.spv_module.specs.Operand as operand
use Rattle.spv_layout.specs.declared.form.Form.{Form}
use Rattle.spv_layout.specs.declared.form.Form.TheVariants as form
use Rattle.spv_layout.specs.Row.{RowEnding, closed, maybe, file_and_text, repeated, others, maybe_others}
use Rattle.spv_layout.specs.Row.{maybe_repeated}

-- The operand is no text, no value and no mask.
abbrev pub IsSilent : Plain → Type 0
IsSilent (operand.Text t) = ⊥
IsSilent (operand.Value k v) = ⊥
IsSilent (operand.Mask k m) = ⊥
IsSilent o = Unit {0}

-- no operand of a form is one, nor of any of some forms, nor of those that an ending allows
abbrev pub is_silent : Form → Bool
is_silent form.Text = false
is_silent form.Other = false
is_silent (form.Kind name) = false
is_silent f = true

abbrev pub are_silent : List Form → Bool
are_silent [] = true
are_silent (f ∷ fs) = is_silent f && are_silent fs

-- of how many of the first forms no operand is one
abbrev pub silent_front : List Form → ℕ
silent_front [] = 0
silent_front (f ∷ fs) = if is_silent f then suc (silent_front fs) else 0

abbrev pub is_silent_ending : RowEnding → Bool
is_silent_ending closed = true
is_silent_ending (maybe f) = is_silent f
is_silent_ending file_and_text = false
is_silent_ending (repeated fs) = are_silent fs
is_silent_ending others = false
is_silent_ending (maybe_others f) = false
is_silent_ending (maybe_repeated f g) = is_silent f && is_silent g
