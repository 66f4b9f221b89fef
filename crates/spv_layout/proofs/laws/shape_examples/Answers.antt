use Rattle.std.proofs.Common.{◌≡◌, ℕ, [], ◌∷◌, refl, Some, None, List}
use Rattle.std.specs.Prelude.{slice_get}
use Rattle.spv_module.specs.Example.{small, load, string}
use Rattle.spv_module.specs.Operand.{Id, Argument}
use Rattle.spv_module.specs.declared.opcode.TheConstants as opcode
use Rattle.spv_layout.specs.declared.form.Role.{Role}
use Rattle.spv_layout.specs.declared.form.Form.{Form}
use Rattle.spv_layout.specs.declared.form.Form.TheVariants as form
use Rattle.spv_layout.specs.declared.form.Role.TheVariants as role
use Rattle.spv_layout.specs.declared.form.Named.TheVariants as kind_of
use Rattle.spv_layout.specs.declared.class.Class.TheVariants.{Body, Extended}
use Rattle.spv_layout.specs.Row.{maybe_others, repeated}
use Rattle.spv_layout.specs.inner.Row.{row, v, kind, T, R, W}
use Rattle.spv_layout.specs.Rows.{rows}
use Rattle.spv_layout.specs.Shape.{Ends, HasForms, FitsShape, IsUse}
use Rattle.spv_layout.specs.Example.{load_of_word, extended, matrix}
use Rattle.spv_layout.proofs.Shapes.{forms_same}
use Rattle.spv_layout.proofs.Tested.{tested_are, tested_fits, fits_tested}
use Rattle.spv_layout.proofs.laws.shape_examples.Goals as goal

abbrev load_forms : List Form
load_forms = T ∷ R ∷ v ∷ kind kind_of.MemoryAccess ∷ form.Other ∷ []

load_has : HasForms small load load_forms
unfolding rows
load_has = record {
  row = row opcode.LOAD opcode.LOAD Body (T ∷ R ∷ v ∷ []) (maybe_others (kind kind_of.MemoryAccess));
  rest = kind kind_of.MemoryAccess ∷ form.Other ∷ [];
  known = refl;
  forms = refl;
  ending = Ends.kind (kind kind_of.MemoryAccess) (form.Other ∷ []) (Ends.other [] Ends.no_other);
  each = tested_are small load_forms load.operands refl;
}

pointer_used : IsUse small load 2 8 role.Value
pointer_used = record { forms = load_forms; has = load_has; form = v; operand = Id 8; form_at = refl; operand_at = refl; role = refl; id = refl }

result_unused : (x : ℕ) (r : Role) → ¬ (IsUse small load 1 x r)
result_unused x r u =
    let e = forms_same small load u.forms load_forms u.has load_has in
    let f : slice_get load_forms 1 ≡ Some u.form = rw e at u.form_at in
    let g : R ≡ u.form = (cc) in
    let h : None ≡ Some r = rw (← g) at u.role in
    cc

abbrev round : List Form
round = form.Unseen ∷ []

abbrev extended_forms : List Form
extended_forms = T ∷ R ∷ form.Id role.Set ∷ W ∷ form.Unseen ∷ form.Unseen ∷ []

extended_has : HasForms small extended extended_forms
unfolding rows
extended_has = record {
  row = row opcode.EXT_INST opcode.EXT_INST Extended (T ∷ R ∷ form.Id role.Set ∷ W ∷ []) (repeated round);
  rest = form.Unseen ∷ form.Unseen ∷ [];
  known = refl;
  forms = refl;
  ending = Ends.again round (form.Unseen ∷ []) (Ends.again round [] (Ends.done round));
  each = tested_are small extended_forms extended.operands refl;
}

argument_used : IsUse small extended 4 7 role.Value
argument_used = record { forms = extended_forms; has = extended_has; form = form.Unseen; operand = Argument 7; form_at = refl; operand_at = refl; role = refl; id = refl }

id_unseen : (x : ℕ) (r : Role) → ¬ (IsUse small extended 5 x r)
id_unseen x r u =
    let e = forms_same small extended u.forms extended_forms u.has extended_has in
    let f : slice_get extended_forms 5 ≡ Some u.form = rw e at u.form_at in
    let g : form.Unseen ≡ u.form = cc in
    let p = u.operand_at in
    let o : Id 8 ≡ u.operand = cc in
    let h : None ≡ Some r = rw (← g, ← o) at u.role in
    cc

text_fits : FitsShape small string
unfolding rows
text_fits = tested_fits small string refl

word_fits_not : ¬ (FitsShape small load_of_word)
unfolding rows
word_fits_not f = let h = fits_tested small load_of_word f in cc

matrix_fits_not : ¬ (FitsShape small matrix)
unfolding rows
matrix_fits_not f = let h = fits_tested small matrix f in cc

pub returns : goal.returns
returns c = record { load = record { forms = load_forms; has = load_has }; text = text_fits; word = word_fits_not; matrix = matrix_fits_not; used = pointer_used; unused = result_unused; argument = argument_used; unseen = id_unseen }
