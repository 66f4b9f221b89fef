-- An OpFunctionEnd has no result, and an OpLabel no type.
use Rattle.std.proofs.Common.{◌≡◌, ◌∙◌, ◌≤◌, ◌++◌, ℕ, List, [], ◌∷◌, refl, sym, ap, Bool, true, false, cond, Some, None}
use Rattle.std.specs.Prelude.{slice_get, option_map, nat_le, not, ◌&&◌, ◌||◌}
use Rattle.std.proofs.lemmas.Bool.{leb-true}
use Rattle.std.proofs.lemmas.Option.{slice_get-map}
use Rattle.spv_module.specs.declared.opcode.TheConstants as opcode
use Rattle.spv_table.specs.Table.{Table}
use Rattle.spv_module.specs.Operand.{Plain, PlainInst, type_in}
use Rattle.spv_module.specs.Operand as operand
use Rattle.spv_layout.specs.declared.class.Class.TheVariants.{FunctionEnd}
use Rattle.spv_layout.specs.declared.form.Form.{Form}
use Rattle.spv_layout.specs.Class.{is_among}
use Rattle.spv_layout.specs.Row.{PlainRow, RowEnding, closed, row_in}
use Rattle.spv_layout.specs.inner.Row.{R}
use Rattle.spv_layout.specs.Rows.{rows, row_of, class_of, class_in}
use Rattle.spv_layout.specs.Layout.{classes}
use Rattle.spv_layout.specs.Place.{IsAt}
use Rattle.spv_layout.specs.Shape.{is_of, AreOf, Ends, HasForms, FitsShape}
use Rattle.spv_ids.specs.Definition.{IsDefinedAt}
use Rattle.spv_flow.proofs.lemmas.branches.Places.{label_row, label_known}

is_nil : List Form → Bool
is_nil [] = true
is_nil (f ∷ fs) = false

is_closed : RowEnding → Bool
is_closed closed = true
is_closed _ = false

row_ends : PlainRow → Bool
row_ends r = not (is_among r.class (FunctionEnd ∷ [])) || (is_nil r.fixed && is_closed r.ending)

unfoldable pub all_rows : (PlainRow → Bool) → List PlainRow → Bool
all_rows p [] = true
all_rows p (r ∷ rs) = p r && all_rows p rs

rows_end : all_rows row_ends rows ≡ true
unfolding rows all_rows row_ends is_nil is_closed
rows_end = refl

pub and_first : (a b : Bool) → a && b ≡ true → a ≡ true
and_first true b h = refl
and_first false b h = cc

pub and_second : (a b : Bool) → a && b ≡ true → b ≡ true
and_second true b h = h
and_second false b h = cc

-- a row that an opcode has
pub record HasRow (p : PlainRow → Bool) (n : ℕ) (r : PlainRow) : Type 0 where
  pub passes : p r ≡ true
  pub from : r.from ≤ n
  pub to : n ≤ r.to

row_by : (p : PlainRow → Bool) (s r : PlainRow) (rs : List PlainRow) (n : ℕ) (b : Bool)
    → nat_le s.from n && nat_le n s.to ≡ b → p s ≡ true → (row_in rs n ≡ Some r → HasRow p n r)
    → cond b (Some s) (row_in rs n) ≡ Some r → HasRow p n r
row_by p s r rs n true f y k g =
    let q : s ≡ r = cc in
    let l = leb-true s.from n (and_first (nat_le s.from n) (nat_le n s.to) f) in
    let m = leb-true n s.to (and_second (nat_le s.from n) (nat_le n s.to) f) in
    let t : HasRow p n s = record { passes = y; from = l; to = m } in
    rw q at t
row_by p s r rs n false f y k g = k g

pub row_tells : (p : PlainRow → Bool) (rs : List PlainRow) (n : ℕ) (r : PlainRow) → all_rows p rs ≡ true
    → row_in rs n ≡ Some r → HasRow p n r
unfolding all_rows
row_tells p [] n r a h = cc
row_tells p (s ∷ rs) n r a h =
    row_by p s r rs n (nat_le s.from n && nat_le n s.to) refl (and_first (p s) (all_rows p rs) a)
    (λ k. row_tells p rs n r (and_second (p s) (all_rows p rs) a) k) h

-- An OpFunctionEnd has no operands.

ends_closed : (e : RowEnding) (gs : List Form) → is_closed e ≡ true → Ends e gs → gs ≡ []
unfolding is_closed
ends_closed closed _ c Ends.nothing = refl
ends_closed _ _ c _ = cc

nil_tells : (fs : List Form) → is_nil fs ≡ true → fs ≡ []
unfolding is_nil
nil_tells [] h = refl
nil_tells (f ∷ fs) h = cc

none_of : (G : Table) (fs : List Form) (os : List Plain) → AreOf G fs os → fs ≡ [] → os ≡ []
none_of G _ _ AreOf.none h = refl
none_of G _ _ (AreOf.more f o fs os p r) h = cc

pub end_by : (b : Bool) (c : Bool) → not b || c ≡ true → b ≡ true → c ≡ true
end_by true c h g = h
end_by false c h g = cc

end_operands : (G : Table) (i : PlainInst) (fs : List Form) (h : HasForms G i fs)
    → is_among h.row.class (FunctionEnd ∷ []) ≡ true → i.operands ≡ []
unfolding row_ends
end_operands G i fs h c =
    let t = row_tells row_ends rows i.opcode h.row rows_end h.known in
    let e = end_by (is_among h.row.class (FunctionEnd ∷ []))
    (is_nil h.row.fixed && is_closed h.row.ending) t.passes c in
    let a = nil_tells h.row.fixed (and_first (is_nil h.row.fixed) (is_closed h.row.ending) e) in
    let b = ends_closed h.row.ending h.rest (and_second (is_nil h.row.fixed) (is_closed h.row.ending) e) h.ending in
    let n : h.row.fixed ++ h.rest ≡ [] = rw (a, b) refl in
    none_of G fs i.operands h.each (h.forms ∙ n)

pub class_at : (is : List PlainInst) (n : ℕ) (i : PlainInst) → slice_get is n ≡ Some i
    → slice_get (classes is) n ≡ Some (class_of i.opcode)
class_at is n i h = slice_get-map (λ j. class_of j.opcode) is n ∙ ap (option_map (λ j. class_of j.opcode)) h

pub no_result_at_end : (G : Table) (is : List PlainInst)
    → ((n : ℕ) (i : PlainInst) → slice_get is n ≡ Some i → FitsShape G i) → (n x : ℕ) → IsDefinedAt is x n
    → ¬ (IsAt is n (FunctionEnd ∷ []))
no_result_at_end G is f n x d a =
    let i = d.inst in
    let h = (f n i d.there).has in
    let c = rw (class_at is n i d.there) at a in
    let k : class_of i.opcode ≡ h.row.class = ap class_in h.known in
    let c' = rw k at c in
    let o = end_operands G i (f n i d.there).forms h c' in
    let r = rw o at d.result in
    cc

-- An OpLabel has its result alone.

no_type : (G : Table) (o : Plain) → is_of G R o ≡ true → type_in (o ∷ []) ≡ None
no_type G (operand.OfType x) h = cc
no_type G (operand.Result x) h = refl
no_type G (operand.Id x) h = refl
no_type G (operand.Word x) h = refl
no_type G (operand.Argument x) h = refl
no_type G (operand.Mention x) h = refl
no_type G (operand.Number a b d) h = refl
no_type G (operand.Text t) h = refl
no_type G (operand.Value k x) h = refl
no_type G (operand.Mask k x) h = refl

result_alone : (G : Table) (fs : List Form) (os : List Plain) → AreOf G fs os → fs ≡ R ∷ [] → type_in os ≡ None
result_alone G _ _ AreOf.none h = cc
result_alone G _ _ (AreOf.more f o fs os p r) h =
    let e : f ≡ R = cc in
    let n : fs ≡ [] = cc in
    let m : os ≡ [] = none_of G fs os r n in
    rw m (no_type G o (rw e at p))

pub label_forms : (G : Table) (i : PlainInst) (fs : List Form) (h : HasForms G i fs) → i.opcode ≡ opcode.LABEL
    → fs ≡ R ∷ []
unfolding is_closed
label_forms G i fs h e =
    let s : Some h.row ≡ Some label_row = sym h.known ∙ ap row_of e ∙ label_known in
    let r : h.row ≡ label_row = cc in
    let b : h.rest ≡ [] = ends_closed h.row.ending h.rest (ap (λ (q : PlainRow). is_closed q.ending) r) h.ending in
    let n : h.row.fixed ++ h.rest ≡ R ∷ [] = rw (r, b) refl in
    h.forms ∙ n

pub label_typeless : (G : Table) (i : PlainInst) → FitsShape G i → i.opcode ≡ opcode.LABEL → type_in i.operands ≡ None
label_typeless G i f e = result_alone G f.forms i.operands f.has.each (label_forms G i f.forms f.has e)
