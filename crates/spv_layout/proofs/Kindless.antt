-- An instruction whose row asks for no value and no mask has none.
use Rattle.std.proofs.Common.{◌≡◌, ◌++◌, List, [], ◌∷◌, refl, true, Some}
use Rattle.std.specs.List.{AllByRecursion}
use Rattle.spv_table.specs.Table.{Table}
use Rattle.spv_module.specs.Operand.{Plain, PlainInst}
use Rattle.spv_module.specs.Operand as operand
use Rattle.spv_layout.specs.declared.form.Form.{Form}
use Rattle.spv_layout.specs.declared.form.Form.TheVariants as form
use Rattle.spv_layout.specs.Row.{PlainRow, RowEnding}
use Rattle.spv_layout.specs.Rows.{row_of}
use Rattle.spv_layout.specs.Shape.{is_of, AreOf, Ends, FitsShape}
use Rattle.spv_layout.specs.inner.Unkinded.{IsUnkinded, is_unkinded, are_unkinded, is_unkinded_ending}
use Rattle.spv_layout.proofs.Derivatives.{both_hold, both_true}

one_unkinded : (G : Table) (f : Form) (o : Plain) → is_unkinded f ≡ true → is_of G f o ≡ true → IsUnkinded o
one_unkinded G (form.Kind name) o h k = cc
one_unkinded G form.Other o h k = cc
one_unkinded G f (operand.Value kind x) h k = cc
one_unkinded G f (operand.Mask kind x) h k = cc
one_unkinded G f o h k = tt

each_unkinded : (G : Table) (fs : List Form) (os : List Plain) → are_unkinded fs ≡ true → AreOf G fs os → AllByRecursion IsUnkinded os
each_unkinded G _ _ h AreOf.none = tt
each_unkinded G _ _ h (AreOf.more f o fs os k r) =
    let p = both_hold (is_unkinded f) (are_unkinded fs) h in
    (one_unkinded G f o p.0 k, each_unkinded G fs os p.1 r)

unkinded_joined : (fs gs : List Form) → are_unkinded fs ≡ true → are_unkinded gs ≡ true → are_unkinded (fs ++ gs) ≡ true
unkinded_joined [] gs h g = g
unkinded_joined (f ∷ fs) gs h g = let p = both_hold (is_unkinded f) (are_unkinded fs) h in both_true (is_unkinded f) (are_unkinded (fs ++ gs)) p.0 (unkinded_joined fs gs p.1 g)

unkinded_ends : (e : RowEnding) (fs : List Form) → Ends e fs → is_unkinded_ending e ≡ true → are_unkinded fs ≡ true
unkinded_ends _ _ Ends.nothing h = refl
unkinded_ends _ _ (Ends.absent f) h = refl
unkinded_ends _ _ (Ends.present f) h = both_true (is_unkinded f) true h refl
unkinded_ends _ _ Ends.no_file_or_text h = refl
unkinded_ends _ _ Ends.file h = refl
unkinded_ends _ _ Ends.text h = refl
unkinded_ends _ _ Ends.both h = refl
unkinded_ends _ _ (Ends.done fs) h = refl
unkinded_ends _ _ (Ends.again fs gs e) h = unkinded_joined fs gs h (unkinded_ends _ gs e h)
unkinded_ends _ _ Ends.no_other h = cc
unkinded_ends _ _ (Ends.other gs e) h = cc
unkinded_ends _ _ (Ends.no_kind f) h = cc
unkinded_ends _ _ (Ends.kind f gs e) h = cc
unkinded_ends _ _ (Ends.no_first f g) h = refl
unkinded_ends _ _ (Ends.first f g gs e) h =
    let p = both_hold (is_unkinded f) (is_unkinded g) h in
    both_true (is_unkinded f) (are_unkinded gs) p.0 (unkinded_ends _ gs e (both_true (is_unkinded g) true p.1 refl))

-- the operands of an instruction that fits such a row
pub unkinded_operands : (G : Table) (i : PlainInst) (r : PlainRow) → row_of i.opcode ≡ Some r → are_unkinded r.fixed ≡ true → is_unkinded_ending r.ending ≡ true → FitsShape G i → AllByRecursion IsUnkinded i.operands
unkinded_operands G i r k a b f =
    let x = f.has in
    let e : x.row ≡ r = (let known = x.known in cc) in
    let a' : are_unkinded x.row.fixed ≡ true = rw e a in
    let b' : is_unkinded_ending x.row.ending ≡ true = rw e b in
    let s = unkinded_joined x.row.fixed x.rest a' (unkinded_ends x.row.ending x.rest x.ending b') in
    let s' : are_unkinded f.forms ≡ true = rw x.forms s in
    each_unkinded G f.forms i.operands s' x.each
