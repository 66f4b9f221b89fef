-- The function of a parameter and of a return.
use Rattle.std.proofs.Common.{◌≡◌, ◌<◌, ℕ, zero, suc, List, [], ◌∷◌, Some, refl, length, arith, inl, inr}
use Rattle.std.specs.Prelude.{slice_get}
use Rattle.std.proofs.lemmas.Option.{slice_get_within}
use Rattle.std.proofs.lemmas.Bool.{cases_order}
use Rattle.spv_table.specs.Table.{Table}
use Rattle.spv_module.specs.Operand.{PlainInst}
use Rattle.spv_module.specs.declared.opcode.TheConstants as opcode
use Rattle.spv_layout.specs.Place.{IsOfFunction}
use Rattle.spv_type_rules.proofs.Counting.{function_opcode}
use Rattle.spv_type_evidence.specs.types.inner.Known.{IsKnown, HasFunction, IsTypedParameter}
use Rattle.spv_type_evidence.proofs.lemmas.types.Shaped.{function_shape, parameter_shape}
use Rattle.spv_type_evidence.proofs.lemmas.types.Standing.{parameter_standing, return_standing, value_standing}

some_inst : (is : List PlainInst) (n : ℕ) → n < length is → (i : PlainInst) × (slice_get is n ≡ Some i)
some_inst [] n h = absurd (omega (arith, h))
some_inst (j ∷ is) zero h = (j, refl)
some_inst (j ∷ is) (suc n) h = some_inst is n (omega (arith, h))

has_function : (G : Table) (is : List PlainInst) (n f : ℕ) → IsKnown G is → IsOfFunction is n f → HasFunction is n
has_function G is n f known o =
    let w = o.begun.within in
    let u = o.begun.up_to in
    let d = some_inst is f (omega arith) in
    record {
      number = f;
      inst = d.0;
      of = record { of = o; there = d.1 };
      shape = function_shape G is f d.0 known d.1 (function_opcode is f d.0 d.1 o.begun.there);
    }

pub return_function : (G : Table) (is : List PlainInst) (n : ℕ) (i : PlainInst) → IsKnown G is → slice_get is n ≡ Some i
    → i.opcode ≡ opcode.RETURN → HasFunction is n
return_function G is n i known at o = let f = return_standing is known.laid n i at o in
    has_function G is n f.0 known f.1

pub value_function : (G : Table) (is : List PlainInst) (n : ℕ) (i : PlainInst) → IsKnown G is → slice_get is n ≡ Some i
    → i.opcode ≡ opcode.RETURN_VALUE → HasFunction is n
value_function G is n i known at o = let f = value_standing is known.laid n i at o in has_function G is n f.0 known f.1

pub parameter_function : (G : Table) (is : List PlainInst) (n : ℕ) (i : PlainInst) → IsKnown G is
    → slice_get is n ≡ Some i → i.opcode ≡ opcode.FUNCTION_PARAMETER → IsTypedParameter is n i
parameter_function G is n i known at o =
    let f = parameter_standing is known.laid n i at o in
    let h = has_function G is n f.0 known f.1 in
    let t = parameter_shape G is n i known at o in
    let up = h.of.of.begun.up_to in
    record {
      function = h;
      later = elim (cases_order h.number n) [
        | inl e ↦ (let k : i.opcode ≡ opcode.FUNCTION = function_opcode is n i at (rw (← e) h.of.of.begun.there) in
            absurd (omega arith))
        | inr r ↦ omega arith
      ];
      within = slice_get_within is n i at;
      found = t.0;
      typed = t.1;
    }
