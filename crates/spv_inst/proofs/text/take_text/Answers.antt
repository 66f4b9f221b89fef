use Rattle.spv_inst.proofs.TextOctets.{between-words}
use Rattle.spv_inst.proofs.text.take_text.Goals as goal

pub returns-clause-taken : goal.returns-clause-taken
returns-clause-taken c =
    rw (between-words c.octets.result.now c.args.image.now c.args.at c.args.end c.octets.ensures.words)
    c.text_in.ensures.taken

pub returns-clause-refused : goal.returns-clause-refused
returns-clause-refused c =
    rw (between-words c.octets.result.now c.args.image.now c.args.at c.args.end c.octets.ensures.words)
    c.text_in.ensures.refused
