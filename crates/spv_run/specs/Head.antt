-- Heads of functions: their parameters, and where their bodies begin. [2.4]
use Rattle.std.specs.Prelude.{◌≡◌, ℕ, suc, List, [], ◌∷◌, Some, None}
use Rattle.spv_module.specs.Operand.{PlainInst}
use Rattle.spv_run.specs.Act.{Function, Parameter, FunctionEnd, Label, Other}
use Rattle.spv_run.specs.At.{act_at, result_at, type_at}

-- an id and a type [own]
pub record Binding : Type 0 where
  pub id : ℕ
  pub tag : ℕ

-- From instruction n up to instruction e there are a function's parameters, with lines among them: their ids and types.
-- [own]
pub data Head (is : List PlainInst) (e : ℕ) : ℕ → List Binding → Type 0 where
  end : Head is e e []
  parameter : (n x t : ℕ) (bs : List Binding) → act_at is n ≡ Some Parameter → result_at is n ≡ Some x
      → type_at is n ≡ Some t
      → Head is e (suc n) bs → Head is e n (record { id = x; tag = t } ∷ bs)
  line : (n : ℕ) (bs : List Binding) → act_at is n ≡ Some Other → result_at is n ≡ None
      → Head is e (suc n) bs → Head is e n bs

-- The function has a body, which begins with the OpLabel e; or it is a declaration, which ends at e. [own]
pub record IsDefined (is : List PlainInst) (g e : ℕ) (parameters : List Binding) : Type 0 where
  pub function : act_at is g ≡ Some Function
  pub head : Head is e (suc g) parameters
  pub entry : act_at is e ≡ Some Label

-- The function is a declaration, which ends at e. [own]
pub record IsDeclared (is : List PlainInst) (g e : ℕ) (parameters : List Binding) : Type 0 where
  pub function : act_at is g ≡ Some Function
  pub head : Head is e (suc g) parameters
  pub over : act_at is e ≡ Some FunctionEnd
