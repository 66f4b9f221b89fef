-- Layout, as far as a run rests on it. [2.4]
use Rattle.std.specs.Prelude.{◌≡◌, ◌≢◌, ◌⊎◌, ℕ, suc, List, Some, None, false, IsTrue}
use Rattle.spv_module.specs.Operand.{PlainInst}
use Rattle.spv_run.specs.Act.{Act, Function, Label, Phi, Pair}
use Rattle.spv_run.specs.At.{act_at, result_at, type_at}
use Rattle.spv_run.specs.inner.At.{goes_on, in_block}
use Rattle.spv_run.specs.Head.{Binding, IsDefined, IsDeclared}
use Rattle.spv_run.proofs.Place.{IsOf, IsIn}

-- Layout, as far as functions and blocks go. [2.4]
pub record IsLaidOut (is : List PlainInst) : Type 0 where
  -- a function is a definition, with an entry block, or a declaration
  pub heads : (g : ℕ) → act_at is g ≡ Some Function
      → (e : ℕ) × (bs : List Binding) × (IsDefined is g e bs ⊎ IsDeclared is g e bs)
  -- no OpFunction is inside a function
  pub apart : (f g : ℕ) → IsOf is f g → act_at is g ≡ Some Function → f ≡ g
  -- an OpLabel has a result and no type, and is inside a function
  pub labels : (b : ℕ) → act_at is b ≡ Some Label
      → (f x : ℕ) × IsOf is f b × (result_at is b ≡ Some x) × (type_at is b ≡ None)
  -- a block goes on up to a terminator
  pub blocks : (b n : ℕ) (a : Act) → IsIn is b n → act_at is n ≡ Some a → IsTrue (goes_on a)
      → (c : Act) × (act_at is (suc n) ≡ Some c) × IsTrue (in_block c)
  -- a terminator has no result
  pub ends : (n : ℕ) (a : Act) → act_at is n ≡ Some a → goes_on a ≡ false → result_at is n ≡ None
  -- an entry block has no OpPhi
  pub phis : (g e n : ℕ) (bs : List Binding) (ps : List Pair) → IsDefined is g e bs → IsIn is e n
      → act_at is n ≢ Some (Phi ps)
