-- Where the blocks of a function begin. (For the code alone.)
use Rattle.std.specs.Prelude.{◌≡◌, ◌≤◌, ◌<◌, ◌-◌, ℕ, List, length, slice_index}
use Rattle.spv_module.specs.Operand.{PlainInst}
use Rattle.spv_layout.specs.Place.{IsOfFunction}
use Rattle.spv_flow.specs.branches.Target.{IsOp}
use Rattle.spv_flow.specs.branches.inner.Target.{is_function}
use Rattle.spv_flow.specs.walks.inner.Divided.{IsBegin, IsDivided}

-- The function whose OpFunction is f has the instructions from f to before `end`.
pub record IsExtent (is : List PlainInst) (f end : ℕ) : Type 0 where
  pub function : IsOp is f is_function
  pub some : f < end
  pub within : end ≤ length is
  pub of : (n : ℕ) → f ≤ n → n < end → IsOfFunction is n f
  pub all : (n : ℕ) → IsOfFunction is n f → (f ≤ n) × (n < end)

-- each number is greater than the one before
abbrev pub IsRising : List ℕ → Type 0
IsRising starts = (j k : ℕ) → j < k → k < length starts → slice_index starts j < slice_index starts k

-- the number of each of the first instructions
abbrev pub IsNumbered : List ℕ → List ℕ → ℕ → Type 0
IsNumbered starts numbers count = (k : ℕ) → k < count → slice_index numbers (slice_index starts k) ≡ k

-- The first instructions of blocks, of those before instruction n of the function.
pub record AreStarts (is : List PlainInst) (f n : ℕ) (starts numbers : List ℕ) : Type 0 where
  pub some : 0 < length starts
  pub first : slice_index starts 0 ≡ f
  pub rising : IsRising starts
  pub below : (k : ℕ) → k < length starts → slice_index starts k < n
  pub begun : (k : ℕ) → 0 < k → k < length starts → IsBegin is (slice_index starts k)
  pub found : (m : ℕ) → f < m → m < n → IsBegin is m → (k : ℕ) × (k < length starts)
      × (slice_index starts k ≡ m)
  pub numbered : IsNumbered starts numbers (length starts)

-- The function is divided, its first instructions are numbered, and it ends there.
pub record IsLaid (is : List PlainInst) (f end : ℕ) (starts numbers : List ℕ) : Type 0 where
  pub extent : IsExtent is f end
  pub divided : IsDivided is f starts
  pub numbered : IsNumbered starts numbers (length starts - 1)
  pub last : slice_index starts (length starts - 1) ≡ end
