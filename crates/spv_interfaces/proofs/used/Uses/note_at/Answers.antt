use Rattle.spv_module.specs.Module.{plain_inst}
use Rattle.spv_interfaces.proofs.Using.{uses_more}
use Rattle.spv_interfaces.proofs.used.Uses.note_at.Goals as goal

pub returns-in_ok-note_extended-clause-added : goal.returns-in_ok-note_extended-clause-added
returns-in_ok-note_extended-clause-added c = λ G fit a.
    let i = plain_inst c.inst-inst.result.now in
    uses_more G c.args.wanted.minor c.args.definitions.now c.args.number i c.args.self.now.found.items
    c.note_extended.new.self.found.items c.inst-inst.ensures a
    (c.in_ok-note_extended.ensures.added G (fit.each c.args.number i c.inst-inst.ensures))

pub returns-in_ok-note_plain-clause-added : goal.returns-in_ok-note_plain-clause-added
returns-in_ok-note_plain-clause-added c = λ G fit a.
    let i = plain_inst c.inst-inst.result.now in
    uses_more G c.args.wanted.minor c.args.definitions.now c.args.number i c.args.self.now.found.items
    c.note_plain.new.self.found.items c.inst-inst.ensures a
    (c.in_ok-note_plain.ensures.added G (fit.each c.args.number i c.inst-inst.ensures))
