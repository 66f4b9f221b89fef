use Rattle.std.proofs.Common.{◌≡◌, Some, refl}
use Rattle.spv_module.specs.Width.{type_of}
use Rattle.spv_type_forms.proofs.Meanings.{type_read}
use Rattle.spv_type_forms.proofs.several.is_typed.Goals as goal

pub returns-in-Typed : goal.returns-in-Typed
returns-in-Typed c =
    let e : type_of c.args.definitions.now c.args.x ≡ Some c.in-Typed.u =
    type_read c.args.definitions.now c.args.x c.meaning.result c.in-Typed.u c.meaning.ensures (rw c.in-Typed.is refl) in
    rw e refl
