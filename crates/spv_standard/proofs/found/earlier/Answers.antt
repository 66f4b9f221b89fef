use Rattle.std.proofs.lemmas.Bool.{iff_false}
use Rattle.spv_standard.proofs.Earlier.{second_told}
use Rattle.spv_standard.proofs.found.earlier.Goals as goal

pub returns-else-is_before : goal.returns-else-is_before
returns-else-is_before c =
    second_told c.args.one c.args.other c.in-Some.first c.in-Some-other.second c.in-Some.is c.in-Some-other.is
    (iff_false c.is_before.ensures c.if-is_before.false)
