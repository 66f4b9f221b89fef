-- Where instructions stand: functions, their heads, blocks, and local ids. [2.2.5, 2.4, 2.16.1]
use Rattle.std.specs.Prelude.{◌≡◌, ◌≢◌, ◌≤◌, ◌<◌, ℕ, List, Some, IsTrue}
use Rattle.spv_module.specs.Operand.{PlainInst}
use Rattle.spv_run.specs.Act.{Act, Function, FunctionEnd, Label}
use Rattle.spv_run.specs.At.{act_at, result_at}
use Rattle.spv_run.specs.inner.At.{goes_on}

-- Instruction n is of the function whose OpFunction is instruction f: from there to its OpFunctionEnd.
pub record IsOf (is : List PlainInst) (f n : ℕ) : Type 0 where
  pub function : act_at is f ≡ Some Function
  pub from : f ≤ n
  pub within : (k : ℕ) → f ≤ k → k < n → act_at is k ≢ Some FunctionEnd

-- Instruction n is of the block whose OpLabel is instruction b: from there to its terminator.
pub record IsIn (is : List PlainInst) (b n : ℕ) : Type 0 where
  pub label : act_at is b ≡ Some Label
  pub from : b ≤ n
  pub within : (k : ℕ) → b ≤ k → k < n → (a : Act) → act_at is k ≡ Some a → IsTrue (goes_on a)

-- The id is local to the function: the result of an instruction after its OpFunction and up to its OpFunctionEnd.
pub record IsLocalTo (is : List PlainInst) (f x : ℕ) : Type 0 where
  pub place : ℕ
  pub after : f < place
  pub inside : IsOf is f place
  pub result : result_at is place ≡ Some x

-- The id is local to a function.
abbrev pub IsLocal : List PlainInst → ℕ → Type 0
IsLocal is x = (f : ℕ) × IsLocalTo is f x

-- an OpFunction, an OpLabel with the id as its result
pub record IsFunction (is : List PlainInst) (g x : ℕ) : Type 0 where
  pub act : act_at is g ≡ Some Function
  pub result : result_at is g ≡ Some x

pub record IsLabel (is : List PlainInst) (m x : ℕ) : Type 0 where
  pub act : act_at is m ≡ Some Label
  pub result : result_at is m ≡ Some x
