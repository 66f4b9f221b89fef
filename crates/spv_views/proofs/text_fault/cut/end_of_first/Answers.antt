use Rattle.std.proofs.Common.{arith}
use Rattle.std.proofs.lemmas.Grind.{common_steps}
use Rattle.spv_views.proofs.text_fault.cut.end_of_first.Goals as goal

pub as_bytes-octets-requires : goal.as_bytes-octets-requires
as_bytes-octets-requires c = grind (arith, common_steps)

pub loop-at-init : goal.loop-at-init
loop-at-init c = grind (arith, common_steps)

pub is_begin-requires : goal.is_begin-requires
is_begin-requires c = grind (arith, common_steps)

pub returns-then-left-eq0-clause-first : goal.returns-then-left-eq0-clause-first
returns-then-left-eq0-clause-first c = grind (arith, common_steps)

pub returns-then-left-eq0-clause-boundary : goal.returns-then-left-eq0-clause-boundary
returns-then-left-eq0-clause-boundary c = grind (arith, common_steps)

pub loop-at-smaller : goal.loop-at-smaller
loop-at-smaller c = grind (arith, common_steps)

pub loop-at-preserved : goal.loop-at-preserved
loop-at-preserved c = grind (arith, common_steps)

pub returns-clause-first : goal.returns-clause-first
returns-clause-first c = grind (arith, common_steps)

pub returns-clause-boundary : goal.returns-clause-boundary
returns-clause-boundary c = grind (arith, common_steps)
