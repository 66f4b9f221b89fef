-- Y6 to Y8: where the type of a function differs from what is found. [3.49.9, 3.49.17]
use Rattle.std.specs.Prelude.{◌≡◌, ◌≢◌, ℕ, List, ◌∷◌, Option, Some, None, length, slice_get}
use Rattle.spv_module.specs.Operand.{Plain, Id, PlainInst, type_in}
use Rattle.spv_module.specs.Width.{type_of, definition_of}
use Rattle.spv_layout.specs.Place.{IsOfFunction}
use Rattle.spv_type_kinds.specs.Operands.{ids_in, after_head}
use Rattle.spv_evidence.specs.declared.evidence.Side.{Side}
use Rattle.spv_evidence.specs.declared.evidence.Side.TheVariants as side
use Rattle.spv_type_rules.specs.Function.{function_type_in, signature_of, parameter_type_of, parameters_between}

-- The type of the OpFunction d differs there from a result type r and so many parameters or arguments: what is wanted,
-- and what is found.
pub data Differs (is : List PlainInst) (d : PlainInst) (r count : ℕ) : Side → Option ℕ → Option ℕ
    → Type 0 where
  -- the id that d names as its type declares no function type
  function : (t : ℕ) → function_type_in d ≡ Some t → signature_of is d ≡ None
      → Differs is d r count side.Function None (Some t)
  -- the function type returns another type
  returned : (t : ℕ) (ps : List Plain) → signature_of is d ≡ Some (Id t ∷ ps) → t ≢ r
      → Differs is d r count side.Return (Some t) (Some r)
  -- the function type has another number of parameters
  number : (o : Plain) (ps : List Plain) → signature_of is d ≡ Some (o ∷ ps) → length ps ≢ count
      → Differs is d r count side.Number (Some (length ps)) (Some count)

-- Instruction n is of the function whose OpFunction is d, of number f.
pub record IsOf (is : List PlainInst) (n f : ℕ) (d : PlainInst) : Type 0 where
  pub of : IsOfFunction is n f
  pub there : slice_get is f ≡ Some d

-- The instruction i of number n, an OpFunctionParameter, is the parameter k of its function, from 0: the function's
-- type has the type `due` there, if it has so many parameters, and the parameter is of the type t.
pub record IsParameter (is : List PlainInst) (n : ℕ) (i : PlainInst) (k : ℕ) (due : Option ℕ)
    (t : ℕ) : Type 0 where
  pub number : ℕ
  pub function : PlainInst
  pub of : IsOf is n number function
  pub place : parameters_between is number n ≡ k
  pub wanted : parameter_type_of is function k ≡ due
  pub found : type_in i.operands ≡ Some t

-- An instruction of a function whose result type is r.
pub record ReturnsFrom (is : List PlainInst) (n r : ℕ) : Type 0 where
  pub number : ℕ
  pub function : PlainInst
  pub of : IsOf is n number function
  pub returned : type_in function.operands ≡ Some r

-- The call i has the result type r, and calls the OpFunction d with the arguments xs.
pub record Calls (is : List PlainInst) (i d : PlainInst) (r : ℕ) (xs : List ℕ) : Type 0 where
  pub callee : ℕ
  pub rest : List Plain
  pub result : type_in i.operands ≡ Some r
  pub operands : after_head i.operands ≡ Id callee ∷ rest
  pub defined : definition_of is callee ≡ Some d
  pub arguments : ids_in rest ≡ xs

-- The function d takes the type t as the parameter k, and the argument k has the type u.
pub record IsArgument (is : List PlainInst) (d : PlainInst) (xs : List ℕ) (k t u : ℕ) : Type 0 where
  pub argument : ℕ
  pub taken : parameter_type_of is d k ≡ Some t
  pub there : slice_get xs k ≡ Some argument
  pub typed : type_of is argument ≡ Some u
