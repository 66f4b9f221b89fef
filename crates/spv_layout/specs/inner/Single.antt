-- What rows say of themselves besides: whether their operands, or the fixed ones, take one word each, and the section
-- of their class. (For the code alone.)
use Rattle.std.specs.Prelude.{◌≡◌, ◌≤◌, ◌+◌, ℕ, List, [], ◌∷◌, Bool, true, false, not, ◌&&◌}
use Rattle.std.specs.Prelude.{if◌then◌else◌, nat_eq, suc, Option, Some, None, length, drop, sum_by}
use Rattle.spv_module.specs.Operand.{Plain}
use Rattle.spv_layout.specs.declared.form.Form.{Form}
use Rattle.spv_layout.specs.declared.form.Form.TheVariants as form
use Rattle.spv_layout.specs.declared.form.Row as declared
use Rattle.spv_layout.specs.Place.{section_of, operand_words}
use Rattle.spv_layout.specs.Row.{PlainRow, RowEnding, closed, maybe, file_and_text, repeated, others, maybe_others}
use Rattle.spv_layout.specs.Row.{maybe_repeated}
use Rattle.spv_layout.specs.inner.Row.{plain_row}
use Rattle.spv_layout.specs.inner.Test.{are_row_sorts}

abbrev pub is_single : Form → Bool
is_single form.Number = false
is_single form.Text = false
is_single form.Other = false
is_single f = true

abbrev pub are_single : List Form → Bool
are_single [] = true
are_single (f ∷ fs) = is_single f && are_single fs

abbrev pub is_single_ending : RowEnding → Bool
is_single_ending closed = true
is_single_ending (maybe f) = is_single f
is_single_ending file_and_text = false
is_single_ending (repeated fs) = are_single fs
is_single_ending others = false
is_single_ending (maybe_others f) = false
is_single_ending (maybe_repeated f g) = is_single f && is_single g

abbrev pub is_single_row : PlainRow → Bool
is_single_row r = are_single r.fixed && is_single_ending r.ending

abbrev pub are_same : Bool → Bool → Bool
are_same true b = b
are_same false b = not b

abbrev pub are_same_sections : Option ℕ → Option ℕ → Bool
are_same_sections None None = true
are_same_sections None (Some n) = false
are_same_sections (Some m) None = false
are_same_sections (Some m) (Some n) = nat_eq m n

-- how many of a row's fixed operands are known to take one word each: those before the first that is not
abbrev pub front_of : List Form → ℕ
front_of [] = 0
front_of (f ∷ fs) = if is_single f then suc (front_of fs) else 0

-- So many of the first operands take one word each.
pub record IsFront (os : List Plain) (n : ℕ) : Type 0 where
  pub within : n ≤ length os
  pub words : sum_by operand_words os ≡ n + sum_by operand_words (drop n os)

-- a row of the code says whether it is such a row, how many of its fixed operands are such, the section of its class,
-- if that stands in one alone, and the sorts that its fixed operands ask for, or 0, or these and which one asks for a
-- kind
abbrev pub is_flagged : declared.Row → Bool
is_flagged r =
    are_same r.single (is_single_row (plain_row r))
    && (are_same_sections r.section (section_of r.class)
    && (nat_eq r.front (front_of r.fixed.now) && are_row_sorts r.sorts r.kind r.fixed.now))

abbrev pub are_flagged : List declared.Row → Bool
are_flagged [] = true
are_flagged (r ∷ rs) = is_flagged r && are_flagged rs
