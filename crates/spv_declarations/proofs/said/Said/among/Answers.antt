use Rattle.spv_declarations.proofs.Without.{said_without}
use Rattle.spv_declarations.proofs.said.Said.among.Goals as goal

pub returns : goal.returns
returns c = said_without c.args.linkage c.args.definitions.now c.args.count c.args.kinds.now
    (record { pairs = c.new-pairs.result; importing = c.new-importing.result }) c.requires.early c.requires.kinds
    c.if-kinds.false c.new-pairs.ensures.empty c.new-importing.ensures.empty
