use Rattle.std.proofs.Common.{None}
use Rattle.spv_declarations.proofs.Early.{early_all}
use Rattle.spv_declarations.proofs.Mixed.{half_within}
use Rattle.spv_declarations.proofs.shown.members.half_built_in.Goals as goal

pub gather-requires-clause-early : goal.gather-requires-clause-early
gather-requires-clause-early c = early_all c.args.definitions.now c.args.total c.requires.total

pub built_ins-requires-clause-early : goal.built_ins-requires-clause-early
built_ins-requires-clause-early c = early_all c.args.definitions.now c.args.total c.requires.total

pub built_ins-requires-clause-said : goal.built_ins-requires-clause-said
built_ins-requires-clause-said c = (None, c.in_ok-said.ensures)

pub inst-requires : goal.inst-requires
inst-requires c = half_within c.args.definitions.now c.args.inst c.requires.broken

pub half_of-requires-clause-broken : goal.half_of-requires-clause-broken
half_of-requires-clause-broken c = (c.args.inst, c.inst.ensures, c.requires.broken)

pub returns : goal.returns
returns c = c.half_of.ensures c.args.inst c.inst.ensures
