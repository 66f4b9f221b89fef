use Rattle.std.proofs.Common.{◌↔◌, subst, map, ℕ, IsTrue}
use Rattle.spv_module.specs.Module.{plain_inst}
use Rattle.spv_module.specs.declared.opcode.TheConstants as opcode
use Rattle.spv_ids.specs.Order.{HasOpcode}
use Rattle.spv_capabilities.specs.inner.Subject.{Subject}
use Rattle.spv_capabilities.proofs.Gathering.{some_entry}
use Rattle.spv_capabilities.proofs.surveyed.Survey.has_entry_point.Goals as goal

pub returns : goal.returns
returns c =
    let b = c.self.inside.gathered.entry in
    let e = some_entry (map plain_inst c.self.inside.insts.now) b c.self.invariant.gathered.entry in
    subst (λ (s : Subject). IsTrue b ↔ ((n : ℕ) × HasOpcode s.insts n opcode.ENTRY_POINT)) c.self.view_is e
