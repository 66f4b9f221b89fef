-- What an OpTypeForwardPointer names is a pointer type, where Y2 is kept.
use Rattle.std.proofs.Common.{◌≡◌, ℕ, List, [], ◌∷◌, Some, subst}
use Rattle.std.specs.Prelude.{slice_get}
use Rattle.spv_table.specs.Table.{Table}
use Rattle.spv_module.specs.Operand.{Plain, PlainInst, Id, Value}
use Rattle.spv_module.specs.declared.fault.Rule.{Rule}
use Rattle.spv_module.specs.declared.fault.Rule.TheVariants.{Y2}
use Rattle.spv_ops.specs.Typed.{IsTyped}
use Rattle.spv_type_rules.specs.Declaration.{DeclaresSoundly, IsPointerAfter}
use Rattle.spv_type_rules.specs.declared.declaration.Declaration.TheVariants.{Forward}
use Rattle.spv_type_rules.specs.Keeps.{Keeps}
use Rattle.spv_standard.proofs.Lower.{AreForwards, IsPointerType}

pointed : (is : List PlainInst) (n x : ℕ) (os : List Plain) → DeclaresSoundly is n Forward os
    → slice_get os 0 ≡ Some (Id x) → IsPointerType is x
pointed is n x (Id p ∷ Value k class ∷ []) h at =
    let e : p ≡ x = cc in
    let h' : IsPointerAfter is n x class = subst (λ (y : ℕ). IsPointerAfter is n y class) e h in
    record { place = h'.place; defined = h'.defined; class = class; pointer = h'.pointer }
pointed is n x _ h at = absurd h

pub are_forwards : (G : Table) (is : List PlainInst)
    → ((r : Rule) (n : ℕ) (i : PlainInst) → slice_get is n ≡ Some i → Keeps (IsTyped G is) is r n i) → AreForwards is
are_forwards G is rules n x a =
    let h = rules Y2 n a.inst a.there in
    let d : DeclaresSoundly is n Forward a.inst.operands = rw a.opcode at h in
    pointed is n x a.inst.operands d a.named
