use Rattle.std.proofs.Common.{refl}
use Rattle.spv_table.specs.declared.form.Leaf.TheVariants as leaf
use Rattle.spv_module.specs.Shape.{alone}
use Rattle.spv_inst.proofs.Shapes.{shape_leaf}
use Rattle.spv_inst.proofs.singles.push_long_text.Goals as goal

pub returns-clause-pushed : goal.returns-clause-pushed
returns-clause-pushed c = λ G known begin kind e. record {
  operand = c.in-Ok.taken.operand;
  added = c.push_reserved.ensures.items;
  taken = λ k know f. rw (shape_leaf G k (alone kind) leaf.Text leaf.Text e refl) (c.in-Ok.ensures.taken kind);
}
