-- What opcodes ask that take any number of values. (For the code alone.)
use Rattle.std.specs.Prelude.{◌≡◌, ℕ, List, ◌∷◌, Bool, true, false, nat_eq, nat_le, IsSomeAnd}
use Rattle.std.specs.List.{AllByRecursion}
use Rattle.spv_module.specs.Operand.{Plain, PlainInst}
use Rattle.spv_module.specs.declared.opcode.TheConstants as opcode
use Rattle.spv_type_forms.specs.declared.form.Sort.{Sort}
use Rattle.spv_type_forms.specs.declared.form.Sort.TheVariants as sort
use Rattle.spv_type_forms.specs.Form.{form_of}
use Rattle.spv_type_forms.specs.Types.{IsData}
use Rattle.spv_type_kinds.specs.Operands.{ids_in}
use Rattle.spv_type_forms.specs.Values.{types_of, paired_ids_in}
use Rattle.spv_conditions.specs.Variable.{initializers_in}
use Rattle.spv_conditions.specs.declared.asked.Asks.{Asks}
use Rattle.spv_conditions.specs.declared.asked.Asks.TheVariants as asks
use Rattle.spv_conditions.specs.declared.asked.Asked.TheVariants as asked
use Rattle.spv_conditions.specs.declared.asked.Rest.TheVariants as beside
use Rattle.spv_ops.specs.declared.table.Places.{Places}
use Rattle.spv_ops.specs.declared.table.Places.TheVariants as places
use Rattle.spv_ops.specs.inner.Chain.{Chains, ChainsByElement}
use Rattle.spv_ops.specs.inner.Composite.{Constructs}
use Rattle.spv_ops.specs.inner.Declares.{DeclaresVariable}
use Rattle.spv_ops.specs.inner.Enqueue.{Enqueues}

-- the first condition says how many values there are: six at most
abbrev pub is_counted : List Asks → Bool
is_counted (asks.Once (asked.Operands result n) ∷ line) = nat_le n 6
is_counted (asks.Once (asked.Rest beside.Cluster) ∷ line) = true
is_counted (asks.Once (asked.Rest (beside.ImageMask k)) ∷ line) = true
is_counted line = false

-- the first opcode of the line of binary operations of a sort
abbrev pub binary_of : Sort → ℕ
binary_of sort.Int = opcode.I_ADD
binary_of sort.Float = opcode.F_ADD
binary_of sort.Bool = opcode.LOGICAL_EQUAL

-- values that stand there may be of any number
abbrev pub IsWidePlace : Places → Type 0
IsWidePlace places.Many = Unit {0}
IsWidePlace places.Pairs = Unit {0}
IsWidePlace places.Initializers = Unit {0}
IsWidePlace places.Enqueued = Unit {0}
IsWidePlace p = ⊥

-- r is a data type, and each value is of it [3.49.17 OpPhi]
abbrev pub AreSame : List PlainInst → ℕ → List ℕ → Type 0
AreSame is r types = IsData is r × AllByRecursion (λ t. t ≡ r) types

-- whether a line is that of OpPhi, OpVariable, OpAccessChain, OpPtrAccessChain or OpEnqueueKernel; else it is
-- OpCompositeConstruct's
abbrev pub IsWideBy : Bool → Bool → Bool → Bool → Bool → List PlainInst → ℕ → ℕ → List Plain → Type 0
IsWideBy true v c e q is n r os = IsSomeAnd (types_of is (paired_ids_in os)) (AreSame is r)
IsWideBy false true c e q is n r os = IsSomeAnd (types_of is (initializers_in os)) (DeclaresVariable is n r os)
IsWideBy false false true e q is n r os = IsSomeAnd (types_of is (ids_in os)) (λ types. Chains is r types (ids_in os))
IsWideBy false false false true q is n r os =
    IsSomeAnd (types_of is (ids_in os)) (λ types. ChainsByElement is r types (ids_in os))
IsWideBy false false false false true is n r os = Enqueues is r (ids_in os)
IsWideBy false false false false false is n r os =
    IsSomeAnd (types_of is (ids_in os)) (λ types. Constructs is r types (form_of is r))

-- the same by the first opcode of the line
abbrev pub IsWide : ℕ → List PlainInst → ℕ → ℕ → List Plain → Type 0
IsWide first is n r os = IsWideBy (nat_eq first opcode.PHI) (nat_eq first opcode.VARIABLE)
    (nat_eq first opcode.ACCESS_CHAIN) (nat_eq first opcode.PTR_ACCESS_CHAIN)
    (nat_eq first opcode.ENQUEUE_KERNEL) is n r os
