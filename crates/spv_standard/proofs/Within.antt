-- Where a rule of stage O is broken an instruction stands.
use Rattle.std.proofs.Common.{◌≡◌, ◌<◌, ℕ, List, Option, Some, None, inl, inr, length, refl, sym, subst}
use Rattle.std.specs.Prelude.{slice_get, IsSomeAnd}
use Rattle.std.proofs.lemmas.Option.{slice_get_within}
use Rattle.spv_table.specs.Table.{Table}
use Rattle.spv_module.specs.Operand.{PlainInst}
use Rattle.spv_module.specs.declared.fault.Rule.{Rule}
use Rattle.spv_flow.specs.branches.Target.{is_label, IsOp}
use Rattle.spv_block_order.specs.Broken as order
use Rattle.spv_interfaces.specs.Broken as interfaces
use Rattle.spv_declarations.specs.Broken as declarations
use Rattle.spv_declarations.specs.Decorated.{Has, HasOnMember, IsHalfBuiltIn, IsMisplaced, IsSecond}
use Rattle.spv_declarations.specs.Given.{At}
use Rattle.spv_kernel_operands.proofs.Firsts.{broken_there}
use Rattle.spv_versions.specs.Broken as versions
use Rattle.spv_limits.specs.Broken as limits
use Rattle.spv_standard.specs.Broken.{KernelBroken}

some_get : (is : List PlainInst) (n : ℕ) (o : Option PlainInst) (P : PlainInst → Type 0) → slice_get is n ≡ o
    → IsSomeAnd o P → n < length is
some_get is n None P e h = absurd h
some_get is n (Some i) P e h = slice_get_within is n i e

op_within : (is : List PlainInst) (n : ℕ) → IsOp is n is_label → n < length is
op_within is n op = some_get is n (slice_get is n) _ refl op

order_within : (G : Table) (is : List PlainInst) (r : Rule) (n : ℕ) → order.Broken G is r n → n < length is
order_within G is _ _ (order.early_block n b) = op_within is n b.1.label
order_within G is _ _ (order.early_use n u) = u.of.begun.within

interfaces_within : (G : Table) (minor : ℕ) (is : List PlainInst) (r : Rule) (n : ℕ) → interfaces.Broken G minor is r n
    → n < length is
interfaces_within G minor is _ _ (interfaces.misfaced n h) = slice_get_within is n h.inst h.there

at_within : (is : List PlainInst) (P : PlainInst → Type 0) (n : ℕ) → At is P n → n < length is
at_within is P n a = slice_get_within is n a.0 a.1

has_within : (is : List PlainInst) (Says : PlainInst → ℕ → Type 0) (x n : ℕ) → Has is Says x n → n < length is
has_within is Says x n (Has.own i at s never) = slice_get_within is n i at
has_within is Says x n (Has.by_group i j g m at t other s) = slice_get_within is n i at

member_within : (is : List PlainInst) (t k d n : ℕ) → HasOnMember is t k d n → n < length is
member_within is t k d n (HasOnMember.own i at e) = slice_get_within is n i at
member_within is t k d n (HasOnMember.by_group i j g m at e other s) = slice_get_within is n i at

misplaced_within : (is : List PlainInst) (n : ℕ) → IsMisplaced is n → n < length is
misplaced_within is n (IsMisplaced.with_id i at o h) = slice_get_within is n i at
misplaced_within is n (IsMisplaced.on_id x d h never) = has_within is _ x n h
misplaced_within is n (IsMisplaced.on_member t k d h never) = member_within is t k d n h

second_within : (is : List PlainInst) (n : ℕ) → IsSecond is n → n < length is
second_within is n s = elim s.greater.2 [
  | inl e ↦ subst (λ (m : ℕ). m < length is) (sym e) (has_within is _ s.id s.restricted s.one.has)
  | inr e ↦ subst (λ (m : ℕ). m < length is) (sym e) (has_within is _ s.id s.aliased s.other.has)
]

half_within : (is : List PlainInst) (n : ℕ) → IsHalfBuiltIn is n → n < length is
half_within is n (IsHalfBuiltIn.in_part i t k j ms at o e b m never) = slice_get_within is n i at
half_within is n (IsHalfBuiltIn.within i t u ms at o e h b) = slice_get_within is n i at

declarations_within : (G : Table) (is : List PlainInst) (r : Rule) (n : ℕ) → declarations.Broken G is r n
    → n < length is
declarations_within G is _ _ (declarations.repeated n h) = slice_get_within is n h.inst h.there
declarations_within G is _ _ (declarations.takes_id n h) = at_within is _ n h
declarations_within G is _ _ (declarations.of_no_member n h) = at_within is _ n h
declarations_within G is _ _ (declarations.misplaced n h) = misplaced_within is n h
declarations_within G is _ _ (declarations.second n h) = second_within is n h
declarations_within G is _ _ (declarations.linked_entry n h) = has_within is _ h.0 n h.2
declarations_within G is _ _ (declarations.initialized n h) = slice_get_within is n h.inst h.there
declarations_within G is _ _ (declarations.half_built_in n h) = half_within is n h
declarations_within G is _ _ (declarations.forward_elsewhere n h) = at_within is _ n h
declarations_within G is _ _ (declarations.incapable n h) = at_within is _ n h

pub versions_within : (G : Table) (minor : ℕ) (is : List PlainInst) (r : Rule) (n : ℕ) → versions.Broken G minor is r n
    → n < length is
versions_within G minor is _ _ (versions.late n h) = slice_get_within is n h.0 h.1

pub limits_within : (is : List PlainInst) (r : Rule) (n : ℕ) → limits.Broken is r n → n < length is
limits_within is _ _ (limits.past n h) = slice_get_within is n h.0 h.1

pub kernel_within : (G : Table) (minor : ℕ) (is : List PlainInst) (r : Rule) (n : ℕ) → KernelBroken G minor is r n
    → n < length is
kernel_within G minor is _ _ (KernelBroken.of_order r n b) = order_within G is r n b
kernel_within G minor is _ _ (KernelBroken.of_interfaces r n b) = interfaces_within G minor is r n b
kernel_within G minor is _ _ (KernelBroken.of_declarations r n b) = declarations_within G is r n b
kernel_within G minor is _ _ (KernelBroken.of_operands r n b) = broken_there G is r n b
kernel_within G minor is _ _ (KernelBroken.of_versions r n b) = versions_within G minor is r n b
kernel_within G minor is _ _ (KernelBroken.of_limits r n b) = limits_within is r n b
