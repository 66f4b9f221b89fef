use Rattle.std.proofs.Common.{sym, ap}
use Rattle.spv_extended.specs.Facts.{facts_of}
use Rattle.spv_extended.proofs.signature.facts.Goals as goal

pub returns-in-OpenClStd : goal.returns-in-OpenClStd
unfolding facts_of
returns-in-OpenClStd c = sym (ap facts_of c.in-OpenClStd.is)

pub returns-in-OpenClDebugInfo : goal.returns-in-OpenClDebugInfo
unfolding facts_of
returns-in-OpenClDebugInfo c = sym (ap facts_of c.in-OpenClDebugInfo.is)

pub returns-in-DebugInfo : goal.returns-in-DebugInfo
unfolding facts_of
returns-in-DebugInfo c = sym (ap facts_of c.in-DebugInfo.is)

pub returns-in-Other : goal.returns-in-Other
unfolding facts_of
returns-in-Other c = sym (ap facts_of c.in-Other.is)
