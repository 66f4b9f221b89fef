use Rattle.std.proofs.Common.{arith, refl}
use Rattle.spv_declarations.proofs.Worked.{own_restrict, group_aliased, member_built_in}
use Rattle.spv_declarations.proofs.laws.decoration_examples.Goals as goal

pub returns-clause-own : goal.returns-clause-own
returns-clause-own c = own_restrict

pub returns-clause-by_group : goal.returns-clause-by_group
returns-clause-by_group c = group_aliased

pub returns-clause-member : goal.returns-clause-member
returns-clause-member c = member_built_in

pub returns-clause-built_in : goal.returns-clause-built_in
returns-clause-built_in c = ((refl, omega arith), (4, member_built_in))
