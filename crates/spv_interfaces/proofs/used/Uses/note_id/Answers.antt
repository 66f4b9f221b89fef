use Rattle.spv_interfaces.proofs.Using.{id_other, id_wanted}
use Rattle.spv_interfaces.proofs.used.Uses.note_id.Goals as goal

pub returns-in_default-clause-added : goal.returns-in_default-clause-added
returns-in_default-clause-added c = id_other c.args.wanted.minor c.args.definitions.now c.args.number c.args.x
    c.args.self.now.found.items c.in_default.ensures

pub returns-in_ok-note_in-clause-added : goal.returns-in_ok-note_in-clause-added
returns-in_ok-note_in-clause-added c =
    id_wanted c.args.wanted.minor c.args.definitions.now c.args.number c.args.x c.in-Some.variable
    c.args.self.now.found.items c.note_in.new.self.found.items c.in-Some.ensures.0 c.in-Some.ensures.1
    c.in_ok-note_in.ensures.added
