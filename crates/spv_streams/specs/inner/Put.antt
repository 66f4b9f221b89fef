-- What is written of a reply. (For the code alone.)
use Rattle.std.specs.Prelude.{◌≡◌, ◌⊎◌, ◌↔◌, ℕ, List, [], Bool, Option, Some, Result, IfErr, IfOk}
use Rattle.std.specs.Prelude.{IfSome, IsErr, IsErrOf}
use Rattle.std.specs.Io.KnownBytes.{Appends}
use Rattle.spv_commands.specs.Output.{is_done, made_of, out_of}
use Rattle.spv_commands.specs.Streams.{Writing}
use Rattle.spv_commands.specs.Trouble.{BeginsWith}
use Rattle.spv_commands.specs.declared.replying.Reply.{Reply}
use Rattle.spv_commands.specs.declared.trouble.Trouble.{Trouble}
use Rattle.spv_commands.specs.declared.trouble.Trouble.TheVariants.{File}

-- A writer has got the text, or after a failed write a beginning of it; `done` is answered.
pub record IsPut (text : List ℕ) (done : Bool) (to : Writing) (result : Result Bool Trouble) : Type 0 where
  pub whole : IfOk result (λ answer. (answer ≡ done) × Appends to.held to.holds text)
  pub failed : to.failed ↔ IsErrOf result File
  pub only : IfErr result (λ t. t ≡ File)
  pub unwritten : IsErr result → to.untouched
  pub begun : IfSome to.held (λ xs. BeginsWith text xs to.holds)

-- The standard output has got what the reply has for it, and the file that is made its module; or after a failed write
-- a beginning of it.
pub record IsWritten (a : Reply) (out made : Writing) (result : Result Bool Trouble) : Type 0 where
  pub whole : IfOk result (λ answer. (answer ≡ is_done a) × Appends out.held out.holds (out_of a)
      × Appends made.held made.holds (made_of a))
  pub failed : (out.failed ⊎ made.failed) ↔ IsErrOf result File
  pub only : IfErr result (λ t. t ≡ File)
  pub unwritten : IsErr result → out.untouched
  pub unmade : IsErr result → made.untouched
  pub begun : IfSome out.held (λ xs. BeginsWith (out_of a) xs out.holds)
  pub made_begun : IfSome made.held (λ xs. BeginsWith (made_of a) xs made.holds)

-- of writers that held nothing, both get what the reply has for them
abbrev pub GivesBoth : (List ℕ → Option (List ℕ) → Option (List ℕ) → Option (List ℕ) → Option (List ℕ) → Bool → Type 0)
    → List ℕ → Reply → Type 0
GivesBoth Whole bytes a = Whole bytes (Some []) (Some (out_of a)) (Some []) (Some (made_of a)) (is_done a)
