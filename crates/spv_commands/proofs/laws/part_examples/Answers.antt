use Rattle.std.proofs.Common.{refl, codes, inr}
use Rattle.spv_commands.specs.Part.{IsPart}
use Rattle.spv_commands.proofs.Parts.{always_named, not_judged}
use Rattle.spv_commands.proofs.laws.part_examples.Goals as goal

pub returns-clause-part : goal.returns-clause-part
returns-clause-part c = λ G how. IsPart.unread refl refl refl refl

pub returns-clause-object : goal.returns-clause-object
returns-clause-object c = c.json_examples.ensures.unread

pub returns-clause-no_part : goal.returns-clause-no_part
returns-clause-no_part c = λ G how line. not_judged G how (codes "a") line 0 refl

pub returns-clause-starved : goal.returns-clause-starved
returns-clause-starved c = λ G how known. IsPart.starved (inr refl) refl refl

pub returns-clause-never_nameless : goal.returns-clause-never_nameless
returns-clause-never_nameless c = λ G how known out status. always_named G how known out _ status refl
