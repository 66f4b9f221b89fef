-- Classes that one opcode alone has.
use Rattle.std.proofs.Common.{◌≡◌, ◌∙◌, ℕ, List, [], ◌∷◌, refl, ap, Bool, true, false, Option, Some, None, nat_eq}
use Rattle.std.proofs.Common.{eq-eqb, arith}
use Rattle.std.specs.Prelude.{slice_get, option_map, not, ◌&&◌, ◌||◌}
use Rattle.std.proofs.lemmas.Bool.{eqb-true}
use Rattle.std.proofs.lemmas.Option.{slice_get-map}
use Rattle.spv_module.specs.declared.opcode.TheConstants as opcode
use Rattle.spv_module.specs.Operand.{PlainInst}
use Rattle.spv_layout.specs.declared.class.Class.{Class}
use Rattle.spv_layout.specs.declared.class.Class.TheVariants.{Function, FunctionEnd}
use Rattle.spv_layout.specs.Class.{is_among}
use Rattle.spv_layout.specs.Row.{PlainRow, row_in}
use Rattle.spv_layout.specs.Rows.{rows, row_of, class_of, class_in}
use Rattle.spv_layout.specs.Layout.{classes}
use Rattle.spv_layout.specs.Place.{IsAt}
use Rattle.spv_flow.specs.branches.Target.{IsOp}
use Rattle.spv_flow.specs.branches.inner.Target.{is_function}
use Rattle.spv_flow.proofs.lemmas.branches.Labelled.{op_holds}
use Rattle.spv_flow.proofs.lemmas.walks.Ended.{all_rows, HasRow, row_tells, and_first, and_second, end_by, class_at}

alone : Class → ℕ → PlainRow → Bool
alone c k r = not (is_among r.class (c ∷ [])) || (nat_eq r.from k && nat_eq r.to k)

function_alone : all_rows (alone Function opcode.FUNCTION) rows ≡ true
unfolding rows all_rows alone
function_alone = refl

end_alone : all_rows (alone FunctionEnd opcode.FUNCTION_END) rows ≡ true
unfolding rows all_rows alone
end_alone = refl

by_row : (c : Class) (k n : ℕ) (r : PlainRow) → HasRow (alone c k) n r → is_among r.class (c ∷ []) ≡ true → n ≡ k
unfolding alone
by_row c k n r h a =
    let two = end_by (is_among r.class (c ∷ [])) (nat_eq r.from k && nat_eq r.to k) h.passes a in
    let f : r.from ≡ k = eqb-true r.from k (and_first (nat_eq r.from k) (nat_eq r.to k) two) in
    let t : r.to ≡ k = eqb-true r.to k (and_second (nat_eq r.from k) (nat_eq r.to k) two) in
    let l = h.from in
    let m = h.to in
    omega (arith, f, t, l, m)

one_opcode : (c : Class) (k n : ℕ) (o : Option PlainRow) → all_rows (alone c k) rows ≡ true
    → is_among (class_in None) (c ∷ []) ≡ false → row_in rows n ≡ o → is_among (class_in o) (c ∷ []) ≡ true → n ≡ k
one_opcode c k n None all none e a = cc
one_opcode c k n (Some r) all none e a = by_row c k n r (row_tells (alone c k) rows n r all e) a

-- the opcode of an OpFunction, and of an OpFunctionEnd
pub function_opcode : (is : List PlainInst) (n : ℕ) (i : PlainInst) → slice_get is n ≡ Some i
    → IsAt is n (Function ∷ []) → i.opcode ≡ opcode.FUNCTION
function_opcode is n i h a = let c = rw (class_at is n i h) at a in
    one_opcode Function opcode.FUNCTION i.opcode (row_of i.opcode) function_alone refl refl c

pub end_opcode : (is : List PlainInst) (n : ℕ) (i : PlainInst) → slice_get is n ≡ Some i → IsAt is n (FunctionEnd ∷ [])
    → i.opcode ≡ opcode.FUNCTION_END
end_opcode is n i h a = let c = rw (class_at is n i h) at a in
    one_opcode FunctionEnd opcode.FUNCTION_END i.opcode (row_of i.opcode) end_alone refl refl c

pub function_op : (is : List PlainInst) (n : ℕ) → IsAt is n (Function ∷ []) → IsOp is n is_function
function_op is n a = by_inst (slice_get is n) refl
  where
    by_inst : (o : Option PlainInst) → slice_get is n ≡ o → IsOp is n is_function
    by_inst None e = (
        let none : slice_get (classes is) n ≡ None = slice_get-map (λ j. class_of j.opcode) is n
        ∙ ap (option_map (λ j. class_of j.opcode)) e in
        absurd (rw none at a))
    by_inst (Some i) e = op_holds is n i is_function e (eq-eqb i.opcode opcode.FUNCTION (function_opcode is n i e a))
