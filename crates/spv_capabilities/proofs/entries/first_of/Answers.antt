use Rattle.std.proofs.lemmas.Option.{slice_get_within}
use Rattle.spv_module.specs.Module.{plain_inst}
use Rattle.spv_capabilities.proofs.Firsts.{all_free}
use Rattle.spv_capabilities.proofs.entries.first_of.Goals as goal

pub returns-then-is_free-clause-first : goal.returns-then-is_free-clause-first
returns-then-is_free-clause-first c =
    let s = c.args.survey.now in
    let k = c.is_free.ensures s c.requires.known c.if-is_free.true in
    all_free s.table s.insts c.args.number (plain_inst c.args.inst.now) c.requires.inst k.0 k.1

pub first_asked-requires-clause-number : goal.first_asked-requires-clause-number
first_asked-requires-clause-number c =
    slice_get_within c.args.survey.now.insts c.args.number (plain_inst c.args.inst.now) c.requires.inst
