-- The blocks that instructions of device enqueue name: a function, a pointer to its captured data, and the size and the
-- alignment of that. [3.49.21 OpEnqueueKernel; own: Y5]
use Rattle.std.specs.Prelude.{◌≡◌, ◌⊎◌, ◌+◌, ℕ, List, ◌∷◌, Option, Some, None, nat_eq, if◌then◌else◌}
use Rattle.std.specs.Prelude.{option_and_then, slice_get, length, drop, IsSomeAnd}
use Rattle.std.specs.List.{AllByRecursion}
use Rattle.spv_module.specs.declared.opcode.TheConstants as opcode
use Rattle.spv_module.specs.Operand.{Plain, Id, PlainInst}
use Rattle.spv_module.specs.Width.{definition_of}
use Rattle.spv_type_forms.specs.declared.form.Form.TheVariants as form
use Rattle.spv_type_forms.specs.Form.{form_of}
use Rattle.spv_type_kinds.specs.Operands.{function_type_in}
use Rattle.spv_type_forms.specs.Parts.{after_result}
use Rattle.spv_type_forms.specs.Types.{IsPointer, IsSomeInt, pointee_in}

-- What the function type of an id, that of an OpFunction, names: the type that it returns, and those of its parameters.
-- %f = OpFunction %r control %t; %t = OpTypeFunction %r %p .. [3.49.9, 3.49.6]
abbrev pub signature_in : PlainInst → Option (List Plain)
signature_in i = if nat_eq i.opcode opcode.TYPE_FUNCTION then Some (after_result i.operands) else None

abbrev pub function_type_of : List PlainInst → ℕ → Option ℕ
function_type_of is f = option_and_then function_type_in (definition_of is f)

abbrev pub invoked_of : List PlainInst → ℕ → Option (List Plain)
invoked_of is f = option_and_then (λ t. option_and_then signature_in (definition_of is t)) (function_type_of is f)

-- The block whose first value has that number: the id before it is the function. [3.49.21 OpEnqueueKernel]
abbrev pub invoked_at : List PlainInst → List ℕ → ℕ → Option (List Plain)
invoked_at is xs k = option_and_then (invoked_of is) (slice_get xs k)

-- The function returns void, and its first parameter has the type t of the captured data. [3.49.21 OpEnqueueKernel]
abbrev pub Takes : List PlainInst → ℕ → List Plain → Type 0
Takes is t (Id r ∷ Id p ∷ ps) = (form_of is r ≡ Some form.Void) × (p ≡ t)
Takes is t _ = ⊥

abbrev pub IsBlock : List PlainInst → List ℕ → ℕ → List ℕ → Type 0
IsBlock is xs k types =
    IsSomeAnd (slice_get types k) (λ t. IsSomeAnd (invoked_at is xs k) (Takes is t))

-- The size of local memory that a value gives for a parameter is an int, or what it points to is one; the parameter is
-- a pointer of the storage class Workgroup (4). There is one for each value after the block. [3.49.21 OpEnqueueKernel]
abbrev pub IsLocalSize : List PlainInst → ℕ → Type 0
IsLocalSize is t = IsSomeInt is t ⊎ IsSomeAnd (pointee_in (form_of is t)) (IsSomeInt is)

abbrev pub IsLocal : List PlainInst → Plain → Type 0
IsLocal is (Id t) = (p : ℕ) × IsPointer is t 4 p
IsLocal is o = ⊥

abbrev pub TakesLocals : List PlainInst → ℕ → List Plain → Type 0
TakesLocals is count (r ∷ p ∷ ps) = (length ps ≡ count) × AllByRecursion (IsLocal is) ps
TakesLocals is count _ = ⊥

abbrev pub after_block : ℕ → List ℕ → List ℕ
after_block k types = drop (k + 3) types

abbrev pub AreLocals : List PlainInst → List ℕ → ℕ → List ℕ → Type 0
AreLocals is xs k types = IsSomeAnd (invoked_at is xs k) (TakesLocals is (length (after_block k types)))
