use Rattle.std.proofs.Common.{sym}
use Rattle.spv_type_forms.proofs.Walks.{element_chosen}
use Rattle.spv_type_forms.proofs.parts.chosen_element.Goals as goal

pub returns-in-Some : goal.returns-in-Some
returns-in-Some c = sym (element_chosen c.args.definitions.now c.args.t c.args.x c.in-Some.element c.in-Some.ensures)
