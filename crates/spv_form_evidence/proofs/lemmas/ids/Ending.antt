-- An OpFunctionEnd has no result.
use Rattle.std.proofs.Common.{◌≡◌, ◌++◌, ◌∙◌, ℕ, List, [], ◌∷◌, Bool, true, false, ◌&&◌, ◌||◌, Some, refl, ap}
use Rattle.std.specs.Prelude.{slice_get, option_map, not}
use Rattle.std.proofs.lemmas.Option.{slice_get-map}
use Rattle.spv_table.specs.Table.{Table}
use Rattle.spv_module.specs.Operand.{Plain, PlainInst}
use Rattle.spv_layout.specs.declared.class.Class.TheVariants.{FunctionEnd}
use Rattle.spv_layout.specs.declared.form.Form.{Form}
use Rattle.spv_layout.specs.Class.{is_among}
use Rattle.spv_layout.specs.Layout.{classes}
use Rattle.spv_layout.specs.Row.{PlainRow, RowEnding, closed}
use Rattle.spv_layout.specs.Rows.{rows, class_of, class_in}
use Rattle.spv_layout.specs.Place.{IsAt}
use Rattle.spv_layout.specs.Shape.{AreOf, Ends, HasForms, FitsShape}
use Rattle.spv_ids.specs.Definition.{IsDefinedAt}
use Rattle.spv_type_forms.proofs.Opcodes.{both, all_pass, one_passes}

is_nil : List Form → Bool
is_nil [] = true
is_nil (f ∷ fs) = false

is_closed : RowEnding → Bool
is_closed closed = true
is_closed _ = false

-- whether a row is of another class, or has no operands
ends_at : ℕ → PlainRow → Bool
ends_at n r = not (is_among r.class (FunctionEnd ∷ [])) || (is_nil r.fixed && is_closed r.ending)

rows_end : all_pass ends_at rows ≡ true
unfolding rows ends_at is_nil is_closed
rows_end = refl

ends_closed : (e : RowEnding) (gs : List Form) → is_closed e ≡ true → Ends e gs → gs ≡ []
unfolding is_closed
ends_closed closed _ c Ends.nothing = refl
ends_closed _ _ c _ = cc

nil_tells : (fs : List Form) → is_nil fs ≡ true → fs ≡ []
unfolding is_nil
nil_tells [] h = refl
nil_tells (f ∷ fs) h = cc

none_of : (G : Table) (fs : List Form) (os : List Plain) → AreOf G fs os → fs ≡ [] → os ≡ []
none_of G _ _ AreOf.none h = refl
none_of G _ _ (AreOf.more f o fs os p r) h = cc

end_by : (b c : Bool) → not b || c ≡ true → b ≡ true → c ≡ true
end_by true c h g = h
end_by false c h g = cc

end_operands : (G : Table) (i : PlainInst) (fs : List Form) (h : HasForms G i fs)
    → is_among h.row.class (FunctionEnd ∷ []) ≡ true → i.operands ≡ []
unfolding ends_at
end_operands G i fs h c =
    let t = one_passes ends_at rows i.opcode h.row rows_end h.known in
    let e = end_by (is_among h.row.class (FunctionEnd ∷ [])) (is_nil h.row.fixed && is_closed h.row.ending) t c in
    let two = both (is_nil h.row.fixed) (is_closed h.row.ending) e in
    let a = nil_tells h.row.fixed two.0 in
    let b = ends_closed h.row.ending h.rest two.1 h.ending in
    let n : h.row.fixed ++ h.rest ≡ [] = rw (a, b) refl in
    none_of G fs i.operands h.each (h.forms ∙ n)

class_at : (is : List PlainInst) (n : ℕ) (i : PlainInst) → slice_get is n ≡ Some i
    → slice_get (classes is) n ≡ Some (class_of i.opcode)
class_at is n i h = slice_get-map (λ j. class_of j.opcode) is n ∙ ap (option_map (λ j. class_of j.opcode)) h

pub no_result_at_end : (G : Table) (is : List PlainInst) (n x : ℕ) (d : IsDefinedAt is x n) → FitsShape G d.inst
    → ¬ (IsAt is n (FunctionEnd ∷ []))
no_result_at_end G is n x d f a =
    let i = d.inst in
    let c = rw (class_at is n i d.there) at a in
    let k : class_of i.opcode ≡ f.has.row.class = ap class_in f.has.known in
    let c' = rw k at c in
    let o = end_operands G i f.forms f.has c' in
    let r = rw o at d.result in
    cc
