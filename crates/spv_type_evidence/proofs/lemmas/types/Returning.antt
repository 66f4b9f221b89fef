-- A return, by the type that its function returns.
use Rattle.std.proofs.Common.{◌≡◌, ◌∙◌, ℕ, List, [], ◌∷◌, Some, None, refl, ap, take}
use Rattle.std.specs.Prelude.{IsSomeAnd}
use Rattle.spv_table.specs.Table.{Table}
use Rattle.spv_module.specs.Operand.{PlainInst}
use Rattle.spv_module.specs.declared.fault.Rule.TheVariants.{Y7}
use Rattle.spv_module.specs.declared.opcode.TheConstants as opcode
use Rattle.spv_type_kinds.specs.Operands.{ids_in}
use Rattle.spv_type_forms.specs.Values.{types_of}
use Rattle.spv_type_rules.specs.Function.{ReturnsNothing, ReturnsTyped}
use Rattle.spv_type_rules.specs.inner.Function.{IsSoundReturn, IsSoundReturnValue}
use Rattle.spv_evidence.specs.declared.evidence.Evidence.TheVariants as evidence
use Rattle.spv_evidence.specs.declared.evidence.Side.TheVariants as side
use Rattle.spv_type_evidence.specs.types.Function.{ReturnsFrom}
use Rattle.spv_type_evidence.specs.types.Evidence.{Shows}
use Rattle.spv_type_evidence.specs.types.inner.Known.{ReturnsOne}

pub return_shows : (G : Table) (is : List PlainInst) (n r : ℕ) (i : PlainInst) → ReturnsFrom is n r
    → ¬ (IsSoundReturn is n) → i.opcode ≡ opcode.RETURN
    → Shows G is n i Y7 (evidence.Mismatch side.Return (Some r) None None)
return_shows G is n r i f never o = Shows.nothing r o f (λ e.
    let nothing : ReturnsNothing is f.function = rw f.returned e in
    never (f.number, f.of.of, rw f.of.there nothing))

pub value_shows : (G : Table) (is : List PlainInst) (n r : ℕ) (i : PlainInst) (v : ReturnsOne is i) → ReturnsFrom is n r
    → ¬ (IsSoundReturnValue is n i) → i.opcode ≡ opcode.RETURN_VALUE
    → Shows G is n i Y7 (evidence.Mismatch side.Return (Some r) (Some v.found) None)
value_shows G is n r i v f never o =
    let types : types_of is (take 1 (ids_in i.operands)) ≡ Some (v.found ∷ []) = rw (v.operands, v.typed) refl in
    Shows.value r v.found o f types (λ e.
    let same : ReturnsTyped f.function (v.found ∷ []) = f.returned ∙ ap Some e in
    let sound : IsSomeAnd (types_of is (take 1 (ids_in i.operands))) (ReturnsTyped f.function) = rw types same in
    never (f.number, f.of.of, rw f.of.there sound))
