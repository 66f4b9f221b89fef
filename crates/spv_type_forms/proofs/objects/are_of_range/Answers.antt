use Rattle.std.proofs.Common.{arith}
use Rattle.spv_type_forms.proofs.Ranges.{too_few, too_many}
use Rattle.spv_type_forms.proofs.objects.are_of_range.Goals as goal

pub returns-in_default : goal.returns-in_default
returns-in_default c = too_few c.args.definitions.now c.args.members.now (omega arith)

pub returns-in_default-6 : goal.returns-in_default-6
returns-in_default-6 c = too_many c.args.definitions.now c.args.members.now (omega arith)
