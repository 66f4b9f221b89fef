-- What a call puts that makes a text. (Own.)
use Rattle.std.specs.Prelude.{◌≡◌, ℕ, List, Option, Some, None}
use Rattle.spv_extended.specs.declared.reach.Reach.{Reach}
use Rattle.spv_scope.specs.Scope.{reach_of, taken}
use Rattle.spv_scope.specs.declared.scope.Scope.{Scope}
use Rattle.spvk.specs.Flags.{asked_by}
use Rattle.spvk.specs.declared.text.Text.{Text}
use denote.RawPtr.{Ptr, block_ptr, null_ptr}

-- What is made is of this kind. The answer: status 0 and what is made; or status 1, out of memory, and what was there.
pub data Makes (IsMade : Text → Type 0) (old : Text) : Text → ℕ → Type 0 where
  done : (new : Text) → IsMade new → Makes IsMade old new 0
  memory : Makes IsMade old old 1

-- The same by the table behind a pointer: status 2, and what was there, where it is null.
abbrev pub MakesAt : Ptr → (Text → Type 0) → Text → Text → ℕ → Type 0
MakesAt null_ptr IsMade old new status = (status ≡ 2) × (new ≡ old)
MakesAt (block_ptr b o) IsMade old new status = Makes IsMade old new status

-- What is made of bytes, as far as they are looked at, is of this kind. The answer by what flags ask for: status 5, and
-- what was there, where they ask for nothing that there is.
abbrev pub MakesAsked : Option Scope → (Reach → List ℕ → Text → Type 0) → List ℕ → Text → Text → ℕ → Type 0
MakesAsked None IsMade bytes old new status = (status ≡ 5) × (new ≡ old)
MakesAsked (Some scope) IsMade bytes old new status =
    Makes (IsMade (reach_of scope bytes) (taken scope bytes)) old new status

-- The same by flags, and by the table behind a pointer: status 2, and what was there, where it is null.
abbrev pub MakesWith : Ptr → (Reach → List ℕ → Text → Type 0) → ℕ → List ℕ → Text → Text → ℕ → Type 0
MakesWith null_ptr IsMade flags bytes old new status = (status ≡ 2) × (new ≡ old)
MakesWith (block_ptr b o) IsMade flags bytes old new status = MakesAsked (asked_by flags) IsMade bytes old new status
