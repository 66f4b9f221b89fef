use Rattle.std.proofs.Common.{◌≡◌, refl}
use Rattle.spv_table.specs.declared.form.Leaf.TheVariants as leaf
use Rattle.spv_module.specs.Shape.{alone}
use Rattle.spv_module.specs.Width.{context_width}
use Rattle.spv_inst.proofs.Shapes.{shape_leaf}
use Rattle.spv_inst.proofs.singles.context_number.Goals as goal

pub returns-clause-taken : goal.returns-clause-taken
returns-clause-taken c = λ G k j know f e.
    let t = c.in-Some.ensures in
    let w : c.width-width.result ≡ context_width k = rw (← f, t) (c.width-width.ensures k.before know) in
    rw (shape_leaf G k (alone j) leaf.ContextNumber leaf.ContextNumber e refl, ← w) (c.in-Ok.ensures.taken j)
