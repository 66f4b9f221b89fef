use Rattle.spv_ops.specs.Typed.{Typed}
use Rattle.spv_type_forms.specs.Values.{types_of}
use Rattle.spv_ops.specs.Values.{values_of}
use Rattle.spv_ops.proofs.Judged.{told, some_and}
use Rattle.spv_ops.proofs.laws.declared_types.Goals as goal

pub returns : goal.returns
returns c = λ G is n i at fits.
    let d = told G is n i at fits in
    let e = some_and (Typed is n i) (types_of is (values_of i)) in
    (λ t. e.0 (d.1 t), λ s. d.0 (e.1 s))
