-- What is known of the operands after one more.
use Rattle.std.proofs.Common.{◌≡◌, ◌++◌, ◌∙◌, ℕ, List, [], ◌∷◌, Some, None, refl}
use Rattle.spv_inst.specs.declared.definitions.Definitions.{Definitions}
use Rattle.spv_inst.specs.declared.reader.Known.{Known}
use Rattle.spv_module.specs.Operand.{Plain, OfType, Context, and_then, type_in}
use Rattle.spv_module.specs.Width.{first_id}
use Rattle.spv_inst.specs.inner.Known.{IsNear}

pub type_kept : (os : List Plain) (o : Plain) (t : ℕ) → type_in os ≡ Some t → type_in (os ++ (o ∷ [])) ≡ Some t
type_kept [] o t e = cc
type_kept (OfType x ∷ os) o t e = e
type_kept (_ ∷ os) o t e = type_kept os o t e

pub type_found : (os : List Plain) (o : Plain) → type_in os ≡ None → type_in (os ++ (o ∷ [])) ≡ type_in (o ∷ [])
type_found [] o e = refl
type_found (OfType x ∷ os) o e = cc
type_found (_ ∷ os) o e = type_found os o e

pub first_kept : (p : Plain) (os : List Plain) (o : Plain) → first_id ((p ∷ os) ++ (o ∷ [])) ≡ first_id (p ∷ os)
first_kept (OfType x) os o = refl
first_kept _ os o = refl

-- what is known after one operand more is that of the context after it
pub near_after : (d : Definitions) (known next : Known) (c : Context) (o : Plain) → IsNear d known c
    → next.opcode ≡ known.opcode
    → (known.type_id ≡ type_in c.operands → next.type_id ≡ type_in (c.operands ++ (o ∷ [])))
    → (known.first ≡ first_id c.operands → next.first ≡ first_id (c.operands ++ (o ∷ [])))
    → IsNear d next (and_then c o)
near_after d known next c o n p t f =
    record { definitions = n.definitions; opcode = p ∙ n.opcode; type_id = t n.type_id; first = f n.first }
