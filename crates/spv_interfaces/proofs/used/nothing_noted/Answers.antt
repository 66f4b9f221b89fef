use Rattle.std.proofs.Common.{[], rules}
use Rattle.spv_interfaces.proofs.Using.{none_noted}
use Rattle.spv_interfaces.proofs.used.nothing_noted.Goals as goal

pub returns : goal.returns
returns c =
    none_noted c.in_ok-vec.field-0.items c.args.count []
    (c.in_ok-vec.ensures.items_if_clones_equal (λ y h. search rules))
