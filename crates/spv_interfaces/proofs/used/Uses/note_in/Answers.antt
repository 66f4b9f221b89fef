use Rattle.spv_interfaces.proofs.Using.{in_none, in_one}
use Rattle.spv_interfaces.proofs.used.Uses.note_in.Goals as goal

pub returns-in_default-clause-added : goal.returns-in_default-clause-added
returns-in_default-clause-added c = in_none c.args.definitions.now c.args.number c.args.variable
    c.args.self.now.found.items c.in_default.ensures

pub returns-clause-added : goal.returns-clause-added
returns-clause-added c = in_one c.args.definitions.now c.args.number c.in-Some.function c.args.variable
    c.args.self.now.found.items c.note.new.self.found.items c.in-Some.ensures c.in_ok-note.ensures.added
