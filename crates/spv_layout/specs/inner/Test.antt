-- Whether an instruction fits its row, as a test that goes from operand to operand. (For the code alone; `fits` says
-- what it means.)
use Rattle.std.specs.Prelude.{ℕ, ◌+◌, ◌*◌, ◌-◌, ◌%◌, nat_eq, nat_lt, if◌then◌else◌, slice_get}
use Rattle.std.specs.Prelude.{List, [], ◌∷◌, Bool, true, false, ◌&&◌, ◌||◌, Option, Some, None, length}
use Rattle.std.specs.Prelude.{take, drop, not, zero, suc, IsTrue, option_and_then}
use Rattle.spv_table.specs.Table.{Table}
use Rattle.spv_module.specs.Operand.{Plain, Text}
use Rattle.spv_module.specs.Operand as operand
use Rattle.spv_layout.specs.declared.form.Role.{Role}
use Rattle.spv_layout.specs.declared.form.Role.TheVariants as role
use Rattle.spv_layout.specs.declared.form.Kinded.{Kinded}
use Rattle.spv_layout.specs.declared.form.Form.{Form}
use Rattle.spv_layout.specs.declared.form.Form.TheVariants as form
use Rattle.spv_layout.specs.Row.{PlainRow, RowEnding, closed, maybe, file_and_text, repeated, others, maybe_others}
use Rattle.spv_layout.specs.Row.{maybe_repeated, has_masks}
use Rattle.spv_layout.specs.Shape.{is_of, role_of}

-- a number for each sort of operands
abbrev pub sort_of : Plain → ℕ
sort_of (operand.OfType x) = 0
sort_of (operand.Result x) = 1
sort_of (operand.Id x) = 2
sort_of (operand.Word x) = 3
sort_of (operand.Number low high words) = 4
sort_of (operand.Text t) = 5
sort_of (operand.Value k x) = 6
sort_of (operand.Mask k x) = 7
sort_of (operand.Argument x) = 8
sort_of (operand.Mention x) = 9

-- the sort that a form asks for, or 15 where it asks for more or less than that
abbrev pub sort_for : Form → ℕ
sort_for form.OfType = 0
sort_for form.Result = 1
sort_for form.Word = 3
sort_for form.Number = 4
sort_for form.Text = 5
sort_for (form.Id r) = 2
sort_for form.Unseen = 2
sort_for (form.Kind name) = 15
sort_for form.Other = 15

-- the same, where of a form that asks for a kind it is that of the kind's masks or values
abbrev pub row_sort : Form → ℕ
row_sort (form.Kind name) = if has_masks name then 7 else 6
row_sort f = sort_for f

-- the sorts of operands, and those that forms ask for, in four bits each from the lowest on, and after them a 9
abbrev pub sorts_of : List Plain → ℕ
sorts_of [] = 9
sorts_of (o ∷ os) = sort_of o + 16 * sorts_of os

abbrev pub sorts_asked : List Form → ℕ
sorts_asked [] = 9
sorts_asked (f ∷ fs) = row_sort f + 16 * sorts_asked fs

-- the form that asks for a kind is the one at that place, or there is none
abbrev pub is_kind : Form → Bool
is_kind (form.Kind name) = true
is_kind f = false

abbrev pub is_kind_at : Option ℕ → List Form → Bool
is_kind_at None [] = true
is_kind_at None (f ∷ fs) = not (is_kind f) && is_kind_at None fs
is_kind_at (Some n) [] = false
is_kind_at (Some zero) (f ∷ fs) = is_kind f && is_kind_at None fs
is_kind_at (Some (suc n)) (f ∷ fs) = not (is_kind f) && is_kind_at (Some n) fs

-- a number is that of the sorts that forms ask for, of which the one at that place asks for a kind, if one is given
abbrev pub are_sorts : ℕ → Option ℕ → List Form → Bool
are_sorts n k fs = nat_eq n (sorts_asked fs) && is_kind_at k fs

abbrev pub are_kinded : Option Kinded → List Form → Bool
are_kinded None fs = true
are_kinded (Some k) fs = are_sorts k.sorts (Some k.place) fs

-- what a row has of them: 0, or the sorts of forms that ask for no kind; and what it has if just one asks for a kind
abbrev pub are_row_sorts : ℕ → Option Kinded → List Form → Bool
are_row_sorts n k fs = (nat_eq n 0 || are_sorts n None fs) && are_kinded k fs

abbrev pub HasSorts : ℕ → Option Kinded → List Form → Type 0
HasSorts n k fs = IsTrue (are_row_sorts n k fs)

-- the operand at a place is of the form there, if a place is given
abbrev pub is_of_there : Table → Option Form → Option Plain → Bool
is_of_there G (Some f) (Some o) = is_of G f o
is_of_there G _ _ = false

abbrev pub is_of_at : Table → Option ℕ → List Form → List Plain → Bool
is_of_at G None fs os = true
is_of_at G (Some n) fs os = is_of_there G (slice_get fs n) (slice_get os n)

abbrev pub are_of : Table → List Form → List Plain → Bool
are_of G [] [] = true
are_of G [] (o ∷ os) = false
are_of G (f ∷ fs) [] = false
are_of G (f ∷ fs) (o ∷ os) = is_of G f o && are_of G fs os

abbrev pub are_others : Table → List Plain → Bool
are_others G [] = true
are_others G (o ∷ os) = is_of G form.Other o && are_others G os

abbrev pub is_text : Plain → Bool
is_text (Text t) = true
is_text o = false

abbrev pub is_empty : List Plain → Bool
is_empty [] = true
is_empty (o ∷ os) = false

-- what is left of a round of forms, and then whole rounds
abbrev pub are_rounds : Table → List Form → List Form → List Plain → Bool
are_rounds G fs [] [] = true
are_rounds G fs (f ∷ left) [] = false
are_rounds G [] [] (o ∷ os) = false
are_rounds G (f ∷ fs) [] (o ∷ os) = is_of G f o && are_rounds G (f ∷ fs) fs os
are_rounds G fs (f ∷ left) (o ∷ os) = is_of G f o && are_rounds G fs left os

abbrev pub is_kind_and_others : Table → Form → List Plain → Bool
is_kind_and_others G f [] = true
is_kind_and_others G f (o ∷ os) = is_of G f o && are_others G os

abbrev pub is_first_and_rounds : Table → Form → Form → List Plain → Bool
is_first_and_rounds G f g [] = true
is_first_and_rounds G f g (o ∷ os) = is_of G f o && are_rounds G (g ∷ []) [] os

abbrev pub fits_ending : Table → RowEnding → List Plain → Bool
fits_ending G closed os = is_empty os
fits_ending G (maybe f) os = is_empty os || are_of G (f ∷ []) os
fits_ending G file_and_text os =
    is_empty os || are_of G (form.Id role.Text ∷ []) os || are_of G (form.Text ∷ []) os || are_of G
    (form.Id role.Text ∷ form.Text ∷ []) os
fits_ending G (repeated fs) os = are_rounds G fs [] os
fits_ending G others os = are_others G os
fits_ending G (maybe_others f) os = is_kind_and_others G f os
fits_ending G (maybe_repeated f g) os = is_first_and_rounds G f g os

abbrev pub fits_row : Table → Option PlainRow → List Plain → Bool
fits_row G None os = false
fits_row G (Some r) os =
    are_of G r.fixed (take (length r.fixed) os) && fits_ending G r.ending (drop (length r.fixed) os)

-- the form of an operand at a place of an ending, if the operands fit it
abbrev pub form_in : RowEnding → Plain → ℕ → Option Form
form_in closed o n = None
form_in (maybe f) o n = Some f
form_in file_and_text o n = Some (if is_text o then form.Text else form.Id role.Text)
form_in (repeated fs) o n = slice_get fs (n % length fs)
form_in others o n = Some form.Other
form_in (maybe_others f) o n = Some (if nat_eq n 0 then f else form.Other)
form_in (maybe_repeated f g) o n = Some (if nat_eq n 0 then f else g)

abbrev pub form_at : PlainRow → Plain → ℕ → Option Form
form_at r o n = if nat_lt n (length r.fixed) then slice_get r.fixed n else form_in r.ending o (n - length r.fixed)

abbrev pub role_at : Option PlainRow → Option Plain → ℕ → Option Role
role_at None o n = None
role_at (Some r) None n = None
role_at (Some r) (Some o) n = option_and_then (λ f. role_of f o) (form_at r o n)
