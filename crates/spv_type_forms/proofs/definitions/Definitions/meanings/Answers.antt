use Rattle.std.proofs.Common.{length}
use Rattle.spv_type_forms.proofs.Meanings.{nothing_meant}
use Rattle.spv_type_forms.proofs.definitions.Definitions.meanings.Goals as goal

pub loop-number-init : goal.loop-number-init
loop-number-init c = nothing_meant c.args.self.now c.in_ok-meanings.meanings.items (length c.self.inside.insts.now)
    (c.in_ok-meanings.ensures.items_if_clones_equal (λ y h. cc))
