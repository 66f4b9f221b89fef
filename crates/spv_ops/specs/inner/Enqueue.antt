-- What OpEnqueueKernel asks, as a whole, by its ids, of which the seventh is the function. (For the code alone, and for
-- laws.) [3.49.21 OpEnqueueKernel]
use Rattle.std.specs.Prelude.{◌-◌, ℕ, List, IsSomeAnd, length, drop, slice_get}
use Rattle.std.specs.List.{AllByRecursion}
use Rattle.spv_module.specs.Operand.{PlainInst}
use Rattle.spv_module.specs.Width.{type_of}
use Rattle.spv_type_kinds.specs.declared.kinds.Object.TheVariants as object
use Rattle.spv_type_kinds.specs.declared.kinds.Kind.{Kind}
use Rattle.spv_type_kinds.specs.declared.kinds.Kind.TheVariants as kind
use Rattle.spv_conditions.specs.Block.{IsLocalSize, Takes, TakesLocals, invoked_of}
use Rattle.spv_conditions.specs.Condition.{IsOf}

-- the id of that number is of a kind; ids are of types of sizes of local memory
abbrev pub IsOfKind : List PlainInst → List ℕ → Kind → ℕ → Type 0
IsOfKind is xs q k = IsSomeAnd (slice_get xs k) (λ x. IsSomeAnd (type_of is x) (IsOf is q))

abbrev pub IsOfLocalSize : List PlainInst → ℕ → Type 0
IsOfLocalSize is x = IsSomeAnd (type_of is x) (IsLocalSize is)

-- the function f is that of a block whose first value is x, and takes so many sizes of local memory
abbrev pub IsBlockOf : List PlainInst → ℕ → ℕ → ℕ → Type 0
IsBlockOf is f x count = IsSomeAnd (type_of is x)
    (λ t. IsSomeAnd (invoked_of is f) (λ s. Takes is t s × TakesLocals is count s))

abbrev pub IsBlockAt : List PlainInst → List ℕ → ℕ → Type 0
IsBlockAt is xs count = IsSomeAnd (slice_get xs 6) (λ f. IsSomeAnd (slice_get xs 7) (λ x. IsBlockOf is f x count))

-- what comes before the function, and what follows it
abbrev pub Awaits : List PlainInst → List ℕ → Type 0
Awaits is xs = IsOfKind is xs (kind.Object object.Queue) 0 × IsOfKind is xs kind.Int32 1
    × IsOfKind is xs kind.Range 2 × IsOfKind is xs kind.Int32 3
    × IsOfKind is xs (kind.ObjectPointer object.DeviceEvent) 4
    × IsOfKind is xs (kind.ObjectPointer object.DeviceEvent) 5

abbrev pub Invokes : List PlainInst → List ℕ → Type 0
Invokes is xs = IsOfKind is xs kind.Int8Pointer 7 × IsOfKind is xs kind.Int32 8 × IsOfKind is xs kind.Int32 9
    × IsBlockAt is xs (length xs - 10) × AllByRecursion (IsOfLocalSize is) (drop 10 xs)

abbrev pub Enqueues : List PlainInst → ℕ → List ℕ → Type 0
Enqueues is r xs = IsOf is kind.Int32 r × Awaits is xs × Invokes is xs
