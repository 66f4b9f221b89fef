-- What stands beside a condition of Y5 that fails: operands and types. [own]
use Rattle.std.specs.Prelude.{◌+◌, ◌-◌, ◌++◌, ℕ, List, [], Option, Some, None, option_and_then}
use Rattle.std.specs.Prelude.{option_map, option_to_list, slice_get, unwrap_or, ◌∷◌, ◌||◌, Bool, true, false, not}
use Rattle.std.specs.Prelude.{if◌then◌else◌, nat_eq, nat_lt}
use Rattle.spv_module.specs.Operand.{Plain, PlainInst, Mask, Word}
use Rattle.spv_type_kinds.specs.Operands.{ids_in, after_head, words_in}
use Rattle.spv_type_forms.specs.Parts.{part_of}
use Rattle.spv_readings.specs.Reads.{inner_of, reads}
use Rattle.spv_evidence.specs.declared.condition.Condition.{Condition}
use Rattle.spv_evidence.specs.declared.condition.Condition.TheVariants as condition
use Rattle.spv_conditions.specs.declared.seat.Seat.{Seat}
use Rattle.spv_conditions.specs.declared.seat.Seat.TheVariants as seat
use Rattle.spv_conditions.specs.declared.asked.Rest.{Rest}
use Rattle.spv_conditions.specs.declared.asked.Rest.TheVariants as rest
use Rattle.spv_conditions.specs.declared.asked.Asked.{Asked}
use Rattle.spv_conditions.specs.declared.asked.Asked.TheVariants as asked
use Rattle.spv_readings.specs.declared.values.Value.{Value}
use Rattle.spv_conditions.specs.Chain.{first_index, led_by, led_to}
use Rattle.spv_readings.specs.Chain.{read_chosen, read_led}
use Rattle.spv_conditions.specs.Values.{type_at}
use Rattle.spv_readings.specs.Values.{types_in}
use Rattle.spv_conditions.specs.Path.{reached_by, stop_at}
use Rattle.spv_readings.specs.Path.{path_by}
use Rattle.spv_conditions.specs.Rest.{both_sizes}
use Rattle.spv_conditions.specs.Block.{after_block, function_type_of}

-- the condition of Y5 by its name
abbrev pub condition_of : Rest → Condition
condition_of rest.Weights = condition.Weights
condition_of rest.StorageClass = condition.StorageClass
condition_of rest.ClassHere = condition.ClassHere
condition_of rest.Initializer = condition.Initializer
condition_of rest.InitializerType = condition.InitializerType
condition_of (rest.Chosen element k) = condition.Chosen
condition_of (rest.Leads element) = condition.Leads
condition_of rest.Indexes = condition.Indexes
condition_of (rest.Within k) = condition.Within
condition_of (rest.Reached s k) = condition.Reached
condition_of rest.ComponentCount = condition.ComponentCount
condition_of rest.Component = condition.Component
condition_of rest.Several = condition.Several
condition_of (rest.Share k) = condition.Share
condition_of rest.Filled = condition.Filled
condition_of rest.Count = condition.Count
condition_of (rest.Part k) = condition.Part
condition_of rest.CastClass = condition.CastClass
condition_of rest.Scan = condition.Scan
condition_of rest.Cluster = condition.Cluster
condition_of rest.ClusterSize = condition.ClusterSize
condition_of (rest.Constant k) = condition.Constant
condition_of rest.Packed = condition.Packed
condition_of (rest.ImageMask k) = condition.ImageMask
condition_of rest.ImageSample = condition.ImageSample
condition_of (rest.ImageSign s) = condition.ImageSign
condition_of (rest.ImageOperands k) = condition.ImageOperands
condition_of rest.Extended = condition.Extended
condition_of rest.ModeIds = condition.ModeIds
condition_of rest.DecorationIds = condition.DecorationIds
condition_of rest.Texts = condition.Texts
condition_of rest.Group = condition.Group
condition_of rest.NoMoreGroups = condition.NoMoreGroups
condition_of rest.Members = condition.Members
condition_of (rest.Block k) = condition.Block
condition_of (rest.LocalSizes k) = condition.LocalSizes
condition_of (rest.Locals k) = condition.Locals

abbrev pub condition_in : Asked → Condition
condition_in (asked.Operands result values) = condition.Operands
condition_in (asked.Kind k s) = condition.Kind k
condition_in (asked.Relation q s t) = condition.Relation q
condition_in (asked.Rest q) = condition_of q

-- the number of the operand whose type is looked at
abbrev pub number_at : List Value → Seat → Option ℕ
number_at vs seat.Result = Some 0
number_at vs (seat.Value k) = option_map (λ v. v.operand) (slice_get vs k)

-- whether an operand is a literal that is the number of none of n components, nor 4294967295; the number of the first
-- that is, from j on [3.49.12 OpVectorShuffle]
abbrev pub is_odd : ℕ → Plain → Bool
is_odd n (Word k) = not (nat_lt k n || nat_eq k 4294967295)
is_odd n o = false

abbrev pub first_odd : ℕ → ℕ → List Plain → Option ℕ
first_odd n j [] = None
first_odd n j (o ∷ os) = if is_odd n o then Some j else first_odd n (j + 1) os

-- whether an operand is a mask; the number of the first that is, from j on [3.14]
abbrev pub is_mask_operand : Plain → Bool
is_mask_operand (Mask k m) = true
is_mask_operand o = false

abbrev pub first_mask : ℕ → List Plain → Option ℕ
first_mask j [] = None
first_mask j (o ∷ os) = if is_mask_operand o then Some j else first_mask (j + 1) os

-- the function of the block whose first value has that number: its operand is the one before the value's; its function
-- type [3.49.21 OpEnqueueKernel]
abbrev pub number_before : List Value → ℕ → Option ℕ
number_before vs k = option_map (λ n. n - 1) (number_at vs (seat.Value k))

abbrev pub function_type_at : List PlainInst → PlainInst → ℕ → Option ℕ
function_type_at is i k = option_and_then (function_type_of is) (slice_get (ids_in (after_head i.operands)) k)

-- the operand at which something else fails, where it is one
abbrev pub operand_of : List PlainInst → PlainInst → List Value → Rest → Option ℕ
operand_of is i vs rest.Weights = Some 3
operand_of is i vs rest.StorageClass = Some 2
operand_of is i vs rest.ClassHere = Some 2
operand_of is i vs rest.Initializer = Some 3
operand_of is i vs rest.InitializerType = Some 3
operand_of is i vs (rest.Chosen element k) = number_at vs (seat.Value (first_index element + k))
operand_of is i vs (rest.Leads element) = Some 0
operand_of is i vs rest.Indexes = None
operand_of is i vs (rest.Within k) = option_and_then (λ v. stop_at is 0 i.operands v.of) (slice_get vs k)
operand_of is i vs (rest.Reached s k) = number_at vs s
operand_of is i vs rest.ComponentCount = Some 0
operand_of is i vs rest.Component = first_odd (both_sizes is (types_in vs)) 0 i.operands
operand_of is i vs (rest.Share k) = number_at vs (seat.Value k)
operand_of is i vs (rest.Part k) = number_at vs (seat.Value k)
operand_of is i vs rest.Several = Some 0
operand_of is i vs rest.Filled = Some 0
operand_of is i vs rest.Count = Some 0
operand_of is i vs rest.CastClass = Some 3
operand_of is i vs rest.Scan = Some 3
operand_of is i vs rest.Cluster = Some 3
operand_of is i vs rest.ClusterSize = number_at vs (seat.Value 2)
operand_of is i vs (rest.Constant k) = number_at vs (seat.Value k)
operand_of is i vs rest.Packed = number_at vs (seat.Value 0)
operand_of is i vs (rest.ImageMask k) = first_mask 0 i.operands
operand_of is i vs rest.ImageSample = number_at vs (seat.Value 0)
operand_of is i vs (rest.ImageSign s) = number_at vs s
operand_of is i vs (rest.ImageOperands k) = first_mask 0 i.operands
operand_of is i vs rest.Extended = Some 2
operand_of is i vs rest.ModeIds = None
operand_of is i vs rest.DecorationIds = None
operand_of is i vs rest.Texts = None
operand_of is i vs rest.Group = Some 0
operand_of is i vs rest.NoMoreGroups = None
operand_of is i vs rest.Members = None
operand_of is i vs (rest.Block k) = number_before vs k
operand_of is i vs (rest.LocalSizes k) = None
operand_of is i vs (rest.Locals k) = number_before vs k

abbrev pub operand_in : List PlainInst → PlainInst → List Value → Asked → Option ℕ
operand_in is i vs (asked.Operands result values) = None
operand_in is i vs (asked.Kind k s) = number_at vs s
operand_in is i vs (asked.Relation q s t) = number_at vs s
operand_in is i vs (asked.Rest q) = operand_of is i vs q

-- the type that is found, and the one that is wanted, where the condition compares two
abbrev pub found_of : List PlainInst → PlainInst → Option ℕ → List ℕ → Rest → Option ℕ
found_of is i r types rest.StorageClass = r
found_of is i r types rest.InitializerType = slice_get types 0
found_of is i r types (rest.Chosen element k) = led_by is element (ids_in (after_head i.operands)) types k
found_of is i r types (rest.Leads element) = r
found_of is i r types (rest.Within k) = option_map (reached_by is (words_in i.operands)) (slice_get types k)
found_of is i r types (rest.Reached s k) = type_at r types s
found_of is i r types rest.ComponentCount = r
found_of is i r types (rest.Share k) = slice_get types k
found_of is i r types (rest.Part k) = slice_get types k
found_of is i r types rest.Several = r
found_of is i r types rest.Filled = r
found_of is i r types rest.Count = r
found_of is i r types rest.CastClass = r
found_of is i r types rest.ClusterSize = slice_get types 2
found_of is i r types rest.Packed = slice_get types 0
found_of is i r types rest.ImageSample = slice_get types 0
found_of is i r types (rest.ImageSign s) = type_at r types s
found_of is i r types rest.Extended = r
found_of is i r types _ = None

abbrev pub found_in : List PlainInst → PlainInst → Option ℕ → List ℕ → Asked → Option ℕ
found_in is i r types (asked.Operands result values) = None
found_in is i r types (asked.Kind k s) = type_at r types s
found_in is i r types (asked.Relation q s t) = type_at r types s
found_in is i r types (asked.Rest q) = found_of is i r types q

abbrev pub wanted_of : List PlainInst → PlainInst → Option ℕ → List ℕ → Rest → Option ℕ
wanted_of is i r types rest.InitializerType = inner_of is r
wanted_of is i r types (rest.Leads element) = led_to is element (ids_in (after_head i.operands)) types
wanted_of is i r types (rest.Reached s k) = option_map (reached_by is (words_in i.operands)) (slice_get types k)
wanted_of is i r types (rest.Share k) = inner_of is r
wanted_of is i r types (rest.Part k) = option_and_then (λ t. part_of is t k) r
wanted_of is i r types _ = None

abbrev pub wanted_in : List PlainInst → PlainInst → Option ℕ → List ℕ → Asked → Option ℕ
wanted_in is i r types (asked.Operands result values) = None
wanted_in is i r types (asked.Kind k s) = None
wanted_in is i r types (asked.Relation q s t) = type_at r types t
wanted_in is i r types (asked.Rest q) = wanted_of is i r types q

-- the types along the path of the indexes from the type of value k
abbrev pub path_from : List PlainInst → PlainInst → List ℕ → ℕ → List ℕ
path_from is i types k = unwrap_or (option_map (path_by is (words_in i.operands)) (slice_get types k)) []

-- the types that a condition reads: those that it looks at and the ones within them, or all, or those along a path
abbrev pub read_of : List PlainInst → PlainInst → Option ℕ → List ℕ → Rest → List ℕ
read_of is i r types rest.InitializerType = option_to_list r ++ reads is (inner_of is r) (slice_get types 0)
read_of is i r types (rest.Chosen element k) = read_chosen is element (ids_in (after_head i.operands)) types k
read_of is i r types (rest.Leads element) = read_led is element (ids_in (after_head i.operands)) r types
read_of is i r types (rest.Within k) = path_from is i types k
read_of is i r types (rest.Reached s k) = path_from is i types k ++ option_to_list (type_at r types s)
read_of is i r types rest.Component = option_to_list r ++ types
read_of is i r types rest.Filled = option_to_list r ++ types
read_of is i r types (rest.ImageOperands k) = option_to_list r ++ types
read_of is i r types rest.Packed = option_to_list r ++ reads is None (slice_get types 0)
read_of is i r types (rest.Share k) = option_to_list r ++ option_to_list (slice_get types k)
    ++ option_to_list (inner_of is r)
read_of is i r types (rest.Part k) = option_to_list r ++ option_to_list (slice_get types k)
    ++ option_to_list (option_and_then (λ t. part_of is t k) r)
read_of is i r types (rest.Block k) = option_to_list (function_type_at is i k) ++ option_to_list (slice_get types k)
read_of is i r types (rest.LocalSizes k) = after_block k types
read_of is i r types (rest.Locals k) = option_to_list (function_type_at is i k)
read_of is i r types q = reads is (wanted_of is i r types q) (found_of is i r types q)

abbrev pub read_in : List PlainInst → PlainInst → Option ℕ → List ℕ → Asked → List ℕ
read_in is i r types (asked.Rest q) = read_of is i r types q
read_in is i r types a = reads is (wanted_in is i r types a) (found_in is i r types a)
