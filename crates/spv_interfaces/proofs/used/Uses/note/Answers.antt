use Rattle.spv_interfaces.proofs.Using.{noted_more, use_again, use_pushed}
use Rattle.spv_interfaces.proofs.used.Uses.note.Goals as goal

pub returns-then-is_noted-clause-added : goal.returns-then-is_noted-clause-added
returns-then-is_noted-clause-added c =
    let h = c.is_noted.ensures c.if-is_noted.true in
    use_again c.args.self.now.found.items c.args.function c.args.variable
    (c.requires.each c.args.variable c.args.function (rw c.as_slice.ensures.value at h))

pub returns-clause-noted : goal.returns-clause-noted
returns-clause-noted c =
    rw c.in_ok-push.ensures.items (noted_more c.args.self.now.last.items c.put_last.new.last.items
    c.args.self.now.found.items (record { function = c.args.function; variable = c.args.variable }) c.requires
    c.put_last.ensures)

pub returns-clause-added : goal.returns-clause-added
returns-clause-added c =
    rw c.in_ok-push.ensures.items (use_pushed c.args.self.now.found.items
    (record { function = c.args.function; variable = c.args.variable }))
