-- What `judge` answers of a module, and how far a module came that breaks a rule. (Own.)
use Rattle.std.specs.Prelude.{◌≡◌, ℕ, List, Result, Ok, IfOk, drop, slice_index}
use Rattle.spv_table.specs.Table.{Table}
use Rattle.spv_table.specs.declared.error.Memory as table
use Rattle.spv_module.specs.Operand.{PlainInst}
use Rattle.spv_module.specs.Module.{plain_insts}
use Rattle.spv_module.specs.declared.fault.Fault as declared
use Rattle.spv_module.specs.declared.fault.Stop.{Stop}
use Rattle.spv_module.specs.declared.fault.Stop.TheVariants.{Fault, Memory}
use Rattle.spv_module.specs.declared.module.Module.{Module}
use Rattle.spv_extended.specs.declared.reach.Reach.{Reach}
use Rattle.spv_extended.specs.Reach.{profile_of}
use Rattle.spv_layout.specs.Plan as layout
use Rattle.spv_layout.specs.Plan.{IsPlan}
use Rattle.spv_ids.specs.Outcome as ids
use Rattle.spv_ids.specs.Outcome.{AreIds}
use Rattle.spv_standard.specs.Broken as standard
use Rattle.spv_check.specs.types.Outcome as types
use Rattle.spv_check.specs.extended.Outcome as extended
use Rattle.spv_check.specs.std_types.Outcome as std_types
use Rattle.spv_check.specs.flow.Outcome as flow
use Rattle.spv_check.specs.Broken.{IsSound, IsTold}
use Rattle.spv_check.specs.Checked.{IsKept}
use Rattle.spv_check.specs.Fork.{fork_of}
use Rattle.spv_check.specs.Program.{Program}
use Rattle.spv_check.specs.Reading.{IsReading}
use Rattle.spv_check.specs.declared.judged.Judged.{Judged}
use Rattle.spv_check.specs.declared.judged.Judged.TheVariants.{Valid, Broken}
use Rattle.spv_check.specs.declared.judged.Reached.{Reached}
use Rattle.spv_check.specs.declared.judged.Reached.TheVariants.{Decoded, Placed, Numbered, Typed, Sound, Called}
use Rattle.spv_check.specs.declared.judged.Reached.TheVariants.{Settled}

-- Words of the module: from word 5 on they spell its instructions, as far as these are looked at, and word 3 is its
-- bound.
pub record AreWordsOf (G : Table) (reach : Reach) (m : Module) (words : List ℕ) : Type 0 where
  pub reading : IsReading G reach (plain_insts m) (drop 5 words)
  pub bound : m.header.bound ≡ slice_index words 3

-- The stages that were passed made these of the module, and the next one refused it so.
abbrev pub IsRefusedAt : Table → Reach → ℕ → List PlainInst → Reached → Stop → Type 0
IsRefusedAt G reach bound is Decoded s = layout.IsRefusal (profile_of reach) G is s
IsRefusedAt G reach bound is (Placed places) s = IsPlan G is places × ids.IsRefusal G bound is s
IsRefusedAt G reach bound is (Numbered places numbers) s =
    IsPlan G is places × AreIds G bound is numbers × types.IsRefusal G is s
IsRefusedAt G reach bound is (Typed places numbers) s =
    IsPlan G is places × AreIds G bound is numbers × flow.IsRefusal (fork_of reach) G is s
IsRefusedAt G reach bound is Sound s = extended.IsRefusal reach is s
IsRefusedAt G reach bound is (Called places numbers) s =
    IsPlan G is places × AreIds G bound is numbers × std_types.IsRefusal reach is s
IsRefusedAt G reach bound is (Settled places numbers) s =
    IsPlan G is places × AreIds G bound is numbers × standard.IsRefusal G reach is s

-- The module, under the bound, is that of the list; its fault is the first broken rule of all; and a stage refused it
-- with that.
pub record IsRefused (G : Table) (reach : Reach) (bound : ℕ) (is : List PlainInst) (f : declared.Fault) (m : Module)
    (reached : Reached) : Type 0 where
  pub same_bound : m.header.bound ≡ bound
  pub same_insts : plain_insts m ≡ is
  pub told : IsTold G reach bound is (Fault f)
  pub refused : IsRefusedAt G reach bound is reached (Fault f)

-- A valid module keeps all that the layers demand, and has this bound and these instructions.
pub record IsCheckedOf (G : Table) (reach : Reach) (bound : ℕ) (is : List PlainInst) (p : Program) : Type 0 where
  pub whole : p ≡ record { bound = bound; insts = is }
  pub kept : IsKept G reach p
  pub sound : IsSound G reach bound is

-- The module breaks no rule, or this is its fault.
abbrev pub IsJudged : Table → Reach → ℕ → List PlainInst → Judged → Type 0
IsJudged G reach bound is (Valid c) = IsCheckedOf G reach bound is c
IsJudged G reach bound is (Broken f m reached) = IsRefused G reach bound is f m reached

-- a fault is a judgment, and out of memory an error
abbrev pub RefusesAs : Stop → Module → Reached → Result Judged table.Memory → Type 0
RefusesAs (Fault f) m reached r = r ≡ Ok (Broken f m reached)
RefusesAs Memory m reached r = IfOk r (λ _. ⊥)
