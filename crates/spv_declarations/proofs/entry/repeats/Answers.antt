use Rattle.std.proofs.Common.{sym}
use Rattle.spv_module.specs.Module.{plain_inst}
use Rattle.spv_declarations.proofs.Names.{tells_named, tells_unnamed}
use Rattle.spv_declarations.proofs.entry.repeats.Goals as goal

pub returns-in_ok-insert-in-Some : goal.returns-in_ok-insert-in-Some
returns-in_ok-insert-in-Some c = λ is n at s.
    tells_named is n (plain_inst c.args.inst.now) c.args.seen.now c.insert.new.self c.in-Some.entry
    c.in_ok-insert-in-Some.field-0 at (sym c.in-Some.ensures) c.in_ok-insert-in-Some.ensures.updates.0
    c.in_ok-insert-in-Some.ensures.added s

pub returns-in-None : goal.returns-in-None
returns-in-None c = λ is n at s.
    tells_unnamed is n (plain_inst c.args.inst.now) c.args.seen.now at (sym c.in-None.ensures) s
