use Rattle.spv_type_rules.proofs.lemmas.roles.Casting.{unbroken}
use Rattle.spv_type_rules.proofs.roles.laws.played_is_unbroken.Goals as goal

pub returns : goal.returns
returns c = λ G is a. unbroken G is a
