-- What became of a reader or a writer in a call. [own]
use Rattle.std.specs.Prelude.{◌≡◌, ◌≢◌, ℕ, List, Option, IfSome}

-- A call of it failed: its count of failures became another one. [own]
abbrev pub HasFailed : {T : Type 0} (failures : T → ℕ) (old new : T) → Type 0
HasFailed failures old new = failures new ≢ failures old

-- It is as it was, unless a call of it failed.
abbrev pub IsUntouched : {T : Type 0} (failures : T → ℕ) (old new : T) → Type 0
IsUntouched failures old new = failures new ≡ failures old → new ≡ old

-- Where it is known what the reader has left, and what the writer holds, this is so of them. [own]
abbrev pub OfKnown : Option (List ℕ) → Option (List ℕ) → (List ℕ → List ℕ → Type 0) → Type 0
OfKnown left held P = IfSome left (λ bytes. IfSome held (λ old. P bytes old))
