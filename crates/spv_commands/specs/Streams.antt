-- What became of the streams of a command in a call. (Own.)
use Rattle.std.specs.Prelude.{◌⊎◌, ◌↔◌, ℕ, List, Option, Bool, Result, IfOk, IfSome, IsErr, IsErrOf}
use Rattle.spv_check.specs.Outcome.{HasFailed, IsUntouched, OfKnown}

-- A reader in a call: the bytes that it still gave, where they are known, and whether a read of it failed.
pub record Reading : Type 1 where
  pub left : Option (List ℕ)
  pub failed : Type 0

-- A writer in a call: what it held and what it then holds, where that is known, whether a write to it failed, and
-- whether it is as it was unless one did.
pub record Writing : Type 1 where
  pub held : Option (List ℕ)
  pub holds : Option (List ℕ)
  pub failed : Type 0
  pub untouched : Type 0

abbrev pub reading : {T : Type 0} → (T → Option (List ℕ)) → (T → ℕ) → T → T → Reading
reading remaining failures old new = record { left = remaining old; failed = HasFailed failures old new }

abbrev pub writing : {T : Type 0} → (T → Option (List ℕ)) → (T → ℕ) → T → T → Writing
writing contents failures old new = record {
  held = contents old;
  holds = contents new;
  failed = HasFailed failures old new;
  untouched = IsUntouched failures old new;
}

-- How a call ends that reads all the bytes of a reader and writes what they come to. `Whole` says of the bytes what the
-- writer held, what it then holds and what is answered, and `Begun` the same where a write failed.
pub record IsAnswered {E : Type 0} (Whole : List ℕ → List ℕ → Option (List ℕ) → Bool → Type 0)
    (Begun : List ℕ → List ℕ → Option (List ℕ) → Type 0) (failure : E) (file : Reading) (out : Writing)
    (result : Result Bool E) : Type 0 where
  -- the writer has got what the bytes come to
  pub whole : OfKnown file.left out.held (λ bytes old. IfOk result (Whole bytes old out.holds))
  -- the error is that of a failed call exactly where a read or a write failed
  pub count : (file.failed ⊎ out.failed) ↔ IsErrOf result failure
  -- with an error a writer that did not fail is as it was
  pub unwritten : IsErr result → out.untouched
  -- after a failed write it has got a beginning
  pub begun : out.failed → OfKnown file.left out.held (λ bytes old. Begun bytes old out.holds)

-- a read or a write failed
abbrev pub AnyFailed : Reading → Writing → Writing → Type 0
AnyFailed file out made = file.failed ⊎ out.failed ⊎ made.failed

-- How a call ends that writes to the standard output, or to a file that it makes. `Whole` says of the bytes what both
-- held, what they then hold and what is answered, and `Begun` the same where a write failed.
pub record IsDone {E : Type 0}
    (Whole : List ℕ → Option (List ℕ) → Option (List ℕ) → Option (List ℕ) → Option (List ℕ) → Bool → Type 0)
    (Begun : List ℕ → Option (List ℕ) → Option (List ℕ) → Option (List ℕ) → Option (List ℕ) → Type 0)
    (failure : E) (file : Reading) (out made : Writing) (result : Result Bool E) : Type 0 where
  -- they have got what the bytes come to
  pub whole : IfSome file.left (λ bytes. IfOk result (Whole bytes out.held out.holds made.held made.holds))
  -- the error is that of a failed call exactly where one failed
  pub failed : AnyFailed file out made ↔ IsErrOf result failure
  -- with an error a writer that did not fail is as it was
  pub unwritten : IsErr result → out.untouched
  pub unmade : IsErr result → made.untouched
  -- after a failed write a beginning was written
  pub begun : out.failed ⊎ made.failed
      → IfSome file.left (λ bytes. Begun bytes out.held out.holds made.held made.holds)
