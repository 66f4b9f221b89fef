-- How far a writer is. (For the code alone.)
use Rattle.std.specs.Prelude.{◌≡◌, ◌↔◌, ◌++◌, ℕ, List, Option, Bool, IsTrue}
use Rattle.spv_commands.specs.Trouble.{Writes}

-- A writer that held the bytes `old`, where they are known, has got the text, or after a failed write a beginning of
-- it; whether none failed.
pub record HasGot (sound : Bool) (text : List ℕ) (old new : Option (List ℕ)) (before after : ℕ) : Type 0 where
  pub writes : Writes text old new before after
  pub steady : IsTrue sound ↔ (after ≡ before)

-- Whatever a writer has got, it gets one more text, or after a failed write a beginning of all that. `sound` tells
-- whether no write failed before, and `heard` whether none has then. It held `here` and then holds `there`, and its
-- counts of failures are `failed` and `fails`.
abbrev pub WritesOn : Bool → List ℕ → Bool → Option (List ℕ) → Option (List ℕ) → ℕ → ℕ → Type 0
WritesOn sound text heard here there failed fails =
    (so_far : List ℕ) (old : Option (List ℕ)) (before : ℕ) → HasGot sound so_far old here before failed
    → HasGot heard (so_far ++ text) old there before fails

-- the same of a writer before and after a call
abbrev pub Adds : {T : Type 0} → (T → Option (List ℕ)) → (T → ℕ) → T → T → Bool → List ℕ → Bool → Type 0
Adds contents failures old new sound text heard =
    WritesOn sound text heard (contents old) (contents new) (failures old) (failures new)
