-- What the words of a module are read as, with what shows a fault. (For the code alone.)
use Rattle.std.specs.Prelude.{◌-◌, ℕ, List, drop, slice_index}
use Rattle.spv_table.specs.Table.{Table}
use Rattle.spv_module.specs.Module.{plain_insts}
use Rattle.spv_module.specs.Instruction.{IsListing}
use Rattle.spv_module.specs.declared.fault.Fault as declared
use Rattle.spv_module.specs.declared.fault.Stop.TheVariants as stop
use Rattle.spv_module.specs.declared.module.Module.{Module}
use Rattle.spv_extended.specs.declared.reach.Reach.{Reach}
use Rattle.spv_extended.specs.Reach.{looked_at}
use Rattle.spv_inst.specs.Outcome.{IsDecodeFault, IsHeaderOf}
use Rattle.spv_evidence.specs.declared.evidence.Evidence.{Evidence}
use Rattle.spv_check.specs.Broken.{IsTold}
use Rattle.spv_check.specs.Checked.{IsChecked}
use Rattle.spv_explain.specs.declared.reading.Explained.{Explained}
use Rattle.spv_explain.specs.declared.reading.Explained.TheVariants.{Valid, Malformed, Broken}
use Rattle.spv_explain.specs.inner.Shown.{IsShownAt}
use Rattle.spv_form_evidence.specs.words.Evidence as instructions

-- The module is the one that the words spell, and this is its fault, as far as it is looked at.
pub record IsBrokenModule (G : Table) (reach : Reach) (words : List ℕ) (f : declared.Fault) (e : Evidence)
    (m : Module) : Type 0 where
  pub listing : IsListing G (plain_insts m) (drop 5 words)
  pub header : IsHeaderOf words m.header
  pub told : IsTold G reach (slice_index words 3) (looked_at reach (plain_insts m)) (stop.Fault f)
  pub shown : IsShownAt G reach (slice_index words 3) (looked_at reach (plain_insts m)) f e

-- The words are a valid module, or no list of instructions, or a module with a fault.
abbrev pub IsExplained : Table → Reach → List ℕ → Explained → Type 0
IsExplained G reach words (Valid c) = IsChecked G reach words c
IsExplained G reach words (Malformed f e) =
    IsDecodeFault G words (stop.Fault f) × instructions.IsEvidence G (drop 5 words) f.rule f.inst (f.word - 5) e
IsExplained G reach words (Broken f e m) = IsBrokenModule G reach words f e m
