-- What `check` answers of an image, and the parts that are lent of a checked module.
use Rattle.std.specs.Prelude.{◌≡◌, ◌≤◌, ◌-◌, ℕ, List, Result, Ok, IfOk, drop, slice_index}
use Rattle.spv_table.specs.Table.{Table}
use Rattle.spv_table.specs.declared.error.Memory.{Memory}
use Rattle.spv_module.specs.Operand.{PlainInst}
use Rattle.spv_module.specs.Malformed.{IsMalformedAt}
use Rattle.spv_module.specs.declared.fault.Fault as fault
use Rattle.spv_module.specs.declared.fault.Stop.{Stop}
use Rattle.spv_module.specs.declared.fault.Stop.TheVariants as stop
use Rattle.spv_extended.specs.declared.reach.Reach.{Reach}
use Rattle.spv_layout.specs.Place.{first_word_of}
use Rattle.spv_check.specs.Broken.{IsFirstOfAll}
use Rattle.spv_check.specs.Checked.{AreParts, IsChecked}
use Rattle.spv_check.specs.Program.{Program}
use Rattle.spv_check.specs.Reading.{IsReading}
use Rattle.spv_check.specs.declared.checked.Parts.{Parts}
use Rattle.spv_check.specs.declared.checked.Verdict.{Verdict}
use Rattle.spv_check.specs.declared.checked.Verdict.TheVariants.{Valid, Fault}

-- The fault is that of the words of a module: from word 5 on they are dead at an instruction, told by its rule, its
-- number and a word; or they spell a list, and this is the first rule that it breaks, as far as it is looked at, told
-- by the instruction and its first word. [own]
pub data IsFault (G : Table) (reach : Reach) (words : List ℕ) (f : fault.Fault) : Type 0 where
  dead : 5 ≤ f.word → IsMalformedAt G (drop 5 words) f.rule f.inst (f.word - 5) → IsFault G reach words f
  broken : (is : List PlainInst) → IsReading G reach is (drop 5 words)
      → IsFirstOfAll G reach (slice_index words 3) is f.rule f.inst → f.word ≡ first_word_of is f.inst
      → IsFault G reach words f

-- The verdict on the words of a module: the checked module, or its fault. [own]
abbrev pub IsAnswer : Table → Reach → List ℕ → Verdict → Type 0
IsAnswer G reach words (Valid c) = IsChecked G reach words c
IsAnswer G reach words (Fault f) = IsFault G reach words f

-- the verdict is no fault [own]
abbrev pub SaysValid : Verdict → Type 0
SaysValid (Valid c) = Unit {0}
SaysValid (Fault f) = ⊥

-- a fault is a verdict, and out of memory an error
abbrev pub StopsAs : Stop → Result Verdict Memory → Type 0
StopsAs (stop.Fault f) r = r ≡ Ok (Fault f)
StopsAs stop.Memory r = IfOk r (λ _. ⊥)

-- The parts are those of the checked module.
abbrev pub ArePartsOf : Table → Reach → Program → Parts → Type 0
ArePartsOf G reach p parts =
    AreParts G reach p parts.«module».now parts.plan.now parts.ids.now parts.flow.now
