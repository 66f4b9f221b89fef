-- What is known of the instructions of a module where a rule of types is looked at. (For the code alone.)
use Rattle.std.specs.Prelude.{◌≡◌, ◌<◌, ℕ, List, [], ◌∷◌, Some, map, length}
use Rattle.std.specs.Prelude.{slice_get}
use Rattle.spv_table.specs.Table.{Table}
use Rattle.spv_module.specs.Operand.{Plain, OfType, Result, Id, PlainInst, type_in}
use Rattle.spv_module.specs.Width.{type_of, definition_of}
use Rattle.spv_layout.specs.Layout.{IsLayout, classes}
use Rattle.spv_layout.specs.Place.{IsShort, AreFew}
use Rattle.spv_layout.specs.Shape.{FitsShape}
use Rattle.spv_type_kinds.specs.Operands.{ids_in}
use Rattle.spv_type_forms.specs.Values.{types_of}
use Rattle.spv_type_rules.specs.roles.Outcome.{AreInRole}
use Rattle.spv_type_rules.specs.Function.{function_type_in, signature_of}
use Rattle.spv_type_evidence.specs.types.Function.{IsOf}

-- The instructions fit their rows and are laid out as a module, each id plays the role that it is used in, and they are
-- few.
pub record IsKnown (G : Table) (is : List PlainInst) : Type 0 where
  pub fits : (n : ℕ) (i : PlainInst) → slice_get is n ≡ Some i → FitsShape G i
  pub laid : IsLayout (classes is)
  pub roles : AreInRole G is
  pub words : IsShort is

-- A function type has a return type and parameter types: these ids, and not too many.
pub record IsSignature (os : List Plain) : Type 0 where
  pub returned : ℕ
  pub taken : List ℕ
  pub all : os ≡ map Id (returned ∷ taken)
  pub few : AreFew taken

-- An OpFunction has a result type, and names an id as its type. Where that is a function type, it has a signature.
pub record IsFunction (is : List PlainInst) (d : PlainInst) : Type 0 where
  pub result : ℕ
  pub has : type_in d.operands ≡ Some result
  pub id : ℕ
  pub names : function_type_in d ≡ Some id
  pub signature : (os : List Plain) → signature_of is d ≡ Some os → IsSignature os

-- Instruction n is of a function.
pub record HasFunction (is : List PlainInst) (n : ℕ) : Type 0 where
  pub number : ℕ
  pub inst : PlainInst
  pub of : IsOf is n number inst
  pub shape : IsFunction is inst

-- The operand of an OpReturnValue is an id that is declared with a type.
pub record ReturnsOne (is : List PlainInst) (i : PlainInst) : Type 0 where
  pub id : ℕ
  pub operands : i.operands ≡ Id id ∷ []
  pub found : ℕ
  pub typed : type_of is id ≡ Some found

-- The operands of an OpFunctionCall are a type, a result, an OpFunction and ids that are declared with types.
pub record CallsOne (is : List PlainInst) (i : PlainInst) : Type 0 where
  pub result_type : ℕ
  pub result : ℕ
  pub callee : ℕ
  pub rest : List Plain
  pub operands : i.operands ≡ OfType result_type ∷ Result result ∷ Id callee ∷ rest
  pub ids : rest ≡ map Id (ids_in rest)
  pub function : PlainInst
  pub defined : definition_of is callee ≡ Some function
  pub shape : IsFunction is function
  pub found : List ℕ
  pub typed : types_of is (ids_in rest) ≡ Some found
  pub few : AreFew (ids_in rest)

-- Operands are a type, a result, an id and others.
pub record AreOfCall (os : List Plain) : Type 0 where
  pub type : ℕ
  pub result : ℕ
  pub callee : ℕ
  pub rest : List Plain
  pub all : os ≡ OfType type ∷ Result result ∷ Id callee ∷ rest

-- Instruction n, an OpFunctionParameter, stands in a function after its OpFunction, and has a type.
pub record IsTypedParameter (is : List PlainInst) (n : ℕ) (i : PlainInst) : Type 0 where
  pub function : HasFunction is n
  pub later : function.number < n
  pub within : n < length is
  pub found : ℕ
  pub typed : type_in i.operands ≡ Some found
