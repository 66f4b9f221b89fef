-- The blocks that instructions of device enqueue name: decided.
use Rattle.std.proofs.Common.{ℕ, List, ◌∷◌, inr, length}
use Rattle.std.specs.Prelude.{IsSomeAnd, slice_get}
use Rattle.std.proofs.lemmas.Bool.{cases_eq}
use Rattle.spv_module.specs.Operand.{Plain, Id, PlainInst}
use Rattle.spv_type_forms.specs.Form.{form_of}
use Rattle.spv_type_forms.specs.Types.{IsSomeInt, pointee_in}
use Rattle.spv_conditions.specs.Block.{invoked_at, Takes, IsBlock, IsLocalSize, IsLocal, TakesLocals, AreLocals}
use Rattle.spv_conditions.specs.Block.{after_block}
use Rattle.spv_check.proofs.Decided.{Decided, both, either, some_and, all_or_not}
use Rattle.spv_check.proofs.Forms.{pointer_of_class, some_int, void_or_not}

takes_or_not : (is : List PlainInst) (t : ℕ) (os : List Plain) → Decided (Takes is t os)
takes_or_not is t (Id r ∷ Id p ∷ ps) = both (void_or_not (form_of is r)) (cases_eq p t)
takes_or_not is t _ = inr (λ h. h)

pub block_or_not : (is : List PlainInst) (xs : List ℕ) (k : ℕ) (types : List ℕ) → Decided (IsBlock is xs k types)
block_or_not is xs k types =
    some_and (slice_get types k) (λ t. IsSomeAnd (invoked_at is xs k) (Takes is t))
    (λ t. some_and (invoked_at is xs k) (Takes is t) (takes_or_not is t))

pub local_size : (is : List PlainInst) (t : ℕ) → Decided (IsLocalSize is t)
local_size is t = either (some_int is t) (some_and (pointee_in (form_of is t)) (IsSomeInt is) (some_int is))

local_or_not : (is : List PlainInst) (o : Plain) → Decided (IsLocal is o)
local_or_not is (Id t) = pointer_of_class (form_of is t) 4
local_or_not is _ = inr (λ h. h)

takes_locals : (is : List PlainInst) (count : ℕ) (os : List Plain) → Decided (TakesLocals is count os)
takes_locals is count (r ∷ p ∷ ps) = both (cases_eq (length ps) count) (all_or_not (IsLocal is) (local_or_not is) ps)
takes_locals is count _ = inr (λ h. h)

pub locals_or_not : (is : List PlainInst) (xs : List ℕ) (k : ℕ) (types : List ℕ) → Decided (AreLocals is xs k types)
locals_or_not is xs k types = some_and (invoked_at is xs k) (TakesLocals is (length (after_block k types)))
    (takes_locals is (length (after_block k types)))
