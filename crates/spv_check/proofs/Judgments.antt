-- What `judge` answers, by what the stages say.
use Rattle.std.proofs.Common.{ℕ, List, drop, refl}
use Rattle.std.specs.Prelude.{Result, Ok, Err, IfOk}
use Rattle.spv_table.specs.Table.{Table}
use Rattle.spv_table.specs.declared.error.Memory as table
use Rattle.spv_module.specs.Module.{plain_insts}
use Rattle.spv_module.specs.declared.fault.Fault as declared
use Rattle.spv_module.specs.declared.fault.Stop.{Stop}
use Rattle.spv_module.specs.declared.fault.Stop.TheVariants.{Fault, Memory}
use Rattle.spv_module.specs.declared.module.Module.{Module}
use Rattle.spv_extended.specs.declared.reach.Reach.{Reach}
use Rattle.spv_inst.specs.Outcome.{IsHeaderOf}
use Rattle.spv_check.specs.Answer.{IsFault}
use Rattle.spv_check.specs.Broken.{IsTold}
use Rattle.spv_check.specs.Checked.{IsChecked}
use Rattle.spv_check.specs.Program.{Program}
use Rattle.spv_check.specs.Reading.{IsReading}
use Rattle.spv_check.specs.Judged.{IsCheckedOf, IsJudged, IsRefused, IsRefusedAt, RefusesAs}
use Rattle.spv_check.specs.declared.judged.Judged.{Judged}
use Rattle.spv_check.specs.declared.judged.Reached.{Reached}
use Rattle.spv_check.proofs.Checks.{checked_of}

-- a stage's refusal is what the module comes to
pub refused_so : (G : Table) (reach : Reach) (m : Module) (reached : Reached) (s : Stop)
    (r : Result Judged table.Memory)
    → RefusesAs s m reached r → IsTold G reach m.header.bound (plain_insts m) s
    → IsRefusedAt G reach m.header.bound (plain_insts m) reached s
    → IfOk r (λ j. IsJudged G reach m.header.bound (plain_insts m) j)
refused_so G reach m reached Memory (Ok j) e t h = absurd e
refused_so G reach m reached Memory (Err _) e t h = tt
refused_so G reach m reached (Fault f) r e t h =
    rw e (record { same_bound = refl; same_insts = refl; told = t; refused = h })

-- what `check` makes of it
pub valid_answer : (G : Table) (reach : Reach) (words : List ℕ) (m : Module) (p : Program) → IsHeaderOf words m.header
    → IsReading G reach (plain_insts m) (drop 5 words) → IsCheckedOf G reach m.header.bound (plain_insts m) p
    → IsChecked G reach words p
valid_answer G reach words m p h l c = checked_of G reach words m p c.whole l h (rw c.whole c.sound)

pub broken_answer : (G : Table) (reach : Reach) (words : List ℕ) (m n : Module) (f : declared.Fault) (reached : Reached)
    → IsHeaderOf words m.header → IsReading G reach (plain_insts m) (drop 5 words)
    → IsRefused G reach m.header.bound (plain_insts m) f n reached → IsFault G reach words f
broken_answer G reach words m n f reached h l r = IsFault.broken (plain_insts m) l (rw h.bound at r.told.0) r.told.1
