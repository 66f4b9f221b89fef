use Rattle.std.proofs.Common.{◌≡◌, Bool, true, false, List, [], get_or, refl, ap}
use Rattle.spv_module.specs.Operand.{Plain, Id, PlainInst}
use Rattle.spv_extended.specs.Example.{call}
use Rattle.spv_extended.specs.Facts.{facts_of}
use Rattle.spv_extended.proofs.laws.opened_examples.Goals as goal

is_id : Plain → Bool
is_id (Id x) = true
is_id o = false

pub returns-clause-load : goal.returns-clause-load
unfolding facts_of
returns-clause-load c = refl

pub returns-clause-no_literal : goal.returns-clause-no_literal
unfolding facts_of is_id
returns-clause-no_literal c = λ h.
    let no : true ≡ false = ap (λ (is : List PlainInst). is_id (get_or (get_or is 2 (call 0 0 [])).operands 6 (Id 0))) h in
    cc

pub returns-clause-vector : goal.returns-clause-vector
unfolding facts_of
returns-clause-vector c = refl

pub returns-clause-other : goal.returns-clause-other
unfolding facts_of
returns-clause-other c = refl
