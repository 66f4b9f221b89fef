use Rattle.std.proofs.Common.{◌≡◌, Some, ap, refl}
use Rattle.spv_extended.specs.declared.call.Call.{Call}
use Rattle.spv_extended.specs.declared.set.Set.TheVariants.{OpenClStd, OpenClDebugInfo}
use Rattle.spv_extended.proofs.laws.call_examples.Goals as goal

pub returns-clause-load : goal.returns-clause-load
returns-clause-load c = refl

pub returns-clause-other_set : goal.returns-clause-other_set
returns-clause-other_set c = λ h.
    let found : Call = record { set = OpenClDebugInfo; number = 171; operands = 3 } in
    let other : Call = record { set = OpenClStd; number = 171; operands = 3 } in
    let same : Some found ≡ Some other = h in
    let one : found ≡ other = cc in
    let sets : OpenClDebugInfo ≡ OpenClStd = ap (λ (call : Call). call.set) one in
    cc

pub returns-clause-import : goal.returns-clause-import
returns-clause-import c = refl
