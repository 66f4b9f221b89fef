use Rattle.spv_inst.proofs.TextOctets.{between-words}
use Rattle.spv_inst.proofs.text.short_text.Goals as goal

pub returns : goal.returns
returns c = rw (between-words c.octets.result.now c.args.image.now c.args.at c.args.end c.octets.ensures.words)
    c.short_text_in.ensures
