use Rattle.std.proofs.Common.{◌≡◌, ℕ, drop, map}
use Rattle.std.specs.BTreeMap as tree
use Rattle.std.specs.Ordering.{nat_cmp}
use Rattle.spv_module.specs.Module.{plain_inst}
use Rattle.spv_names.specs.Names.{name_of}
use Rattle.spv_pictures.specs.inner.Names.{name_at}
use Rattle.spv_pictures.proofs.names.places_of.Given as goal

abbrev pub invariant-loop-at : goal.invariant-loop-at
invariant-loop-at l = (x : ℕ)
    → name_at l.naming (map plain_inst l.insts) (tree.get nat_cmp l.places x) ≡ name_of l.naming
    (map plain_inst (drop l.at l.insts)) x
