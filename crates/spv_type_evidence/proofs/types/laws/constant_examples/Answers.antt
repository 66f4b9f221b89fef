use Rattle.std.proofs.Common.{◌≡◌, refl}
use Rattle.spv_type_kinds.specs.declared.kinds.Kind.TheVariants as kind
use Rattle.spv_evidence.specs.declared.condition.Condition.TheVariants as condition
use Rattle.spv_type_evidence.proofs.types.laws.constant_examples.Goals as goal

pub returns : goal.returns
returns c = record {
  width = refl;
  no_width = λ e. (let same : condition.Kind kind.Number ≡ condition.FitsWidth = e in cc);
  normalized = refl;
  null = refl;
  no_data = refl;
}
