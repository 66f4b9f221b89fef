use Rattle.spv_type_forms.specs.Null.{IsNullable}
use Rattle.spv_type_evidence.proofs.lemmas.types.Parts.{unless_moved}
use Rattle.spv_type_evidence.proofs.types.constant.first_of_null.Goals as goal

pub returns : goal.returns
returns c = unless_moved
    (IsNullable c.args.definitions.now c.args.r) c.in_ok-nullable.nullable c.first_unless.result
    c.in_ok-nullable.ensures.answer c.first_unless.ensures
