-- What `explain` answers of an image. (Own.)
use Rattle.std.specs.Prelude.{◌≤◌, ◌-◌, ℕ, List, drop, slice_index}
use Rattle.spv_table.specs.Table.{Table}
use Rattle.spv_module.specs.Operand.{PlainInst}
use Rattle.spv_module.specs.Instruction.{IsListing}
use Rattle.spv_module.specs.declared.fault.Fault.{Fault}
use Rattle.spv_extended.specs.declared.reach.Reach.{Reach}
use Rattle.spv_extended.specs.Reach.{looked_at}
use Rattle.spv_layout.specs.First.{stage_of}
use Rattle.spv_evidence.specs.declared.evidence.Evidence.{Evidence}
use Rattle.spv_layout.specs.Stage as stages
use Rattle.spv_check.specs.declared.checked.Verdict.{Verdict}
use Rattle.spv_check.specs.declared.checked.Verdict.TheVariants as verdict
use Rattle.spv_explain.specs.declared.reading.Explained.{Explained}
use Rattle.spv_explain.specs.declared.reading.Explained.TheVariants.{Valid, Malformed, Broken}
use Rattle.spv_explain.specs.Evidence.{IsEvidence}
use Rattle.spv_explain.specs.Stream.{IsModuleOf}
use Rattle.spv_form_evidence.specs.words.Evidence as instructions

-- the verdict that is explained
abbrev pub verdict_in : Explained → Verdict
verdict_in (Valid c) = verdict.Valid c
verdict_in (Malformed f e) = verdict.Fault f
verdict_in (Broken f e m) = verdict.Fault f

-- A fault of the stages from P on, of words that spell a list of instructions, comes with evidence: of the list as far
-- as it is looked at.
abbrev pub IsShownBy : Table → Reach → List ℕ → Fault → Evidence → Type 0
IsShownBy G reach words f e =
    (is : List PlainInst) → IsListing G is (drop 5 words) → stages.of_profile ≤ stage_of f.rule
    → IsEvidence G reach (slice_index words 3) (looked_at reach is) f.rule f.inst e

abbrev pub IsShown : Table → Reach → List ℕ → Explained → Type 0
IsShown G reach words (Valid c) = Unit {0}
IsShown G reach words (Malformed f e) = IsShownBy G reach words f e
IsShown G reach words (Broken f e m) = IsShownBy G reach words f e

-- A fault of words that spell no list of instructions comes with evidence. Its word counts from the module's first.
abbrev pub IsShownDeadBy : Table → List ℕ → Fault → Evidence → Type 0
IsShownDeadBy G words f e =
    ((is : List PlainInst) → ¬ (IsListing G is (drop 5 words)))
    → instructions.IsEvidence G (drop 5 words) f.rule f.inst (f.word - 5) e

abbrev pub IsShownDead : Table → List ℕ → Explained → Type 0
IsShownDead G words (Valid c) = Unit {0}
IsShownDead G words (Malformed f e) = IsShownDeadBy G words f e
IsShownDead G words (Broken f e m) = IsShownDeadBy G words f e

-- A module with a fault is the one that the words spell, with their header.
abbrev pub IsSpelled : Table → List ℕ → Explained → Type 0
IsSpelled G words (Valid c) = Unit {0}
IsSpelled G words (Malformed f e) = Unit {0}
IsSpelled G words (Broken f e m) = IsModuleOf G words m
