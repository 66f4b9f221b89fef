use Rattle.std.proofs.Common.{◌≡◌, ◌-◌, take, refl, arith}
use Rattle.std.proofs.lemmas.List.{take_all}
use Rattle.spv_table.specs.declared.form.Leaf.TheVariants as leaf
use Rattle.spv_module.specs.declared.operand.Operand.TheVariants as code
use Rattle.spv_module.specs.Shape.{alone}
use Rattle.spv_inst.specs.inner.Reading.{between}
use Rattle.spv_inst.proofs.Turns.{length-between}
use Rattle.spv_inst.proofs.Shapes.{shape_leaf}
use Rattle.spv_inst.proofs.singles.push_text.Goals as goal

pub returns-in-Some-clause-pushed : goal.returns-in-Some-clause-pushed
returns-in-Some-clause-pushed c = λ kind e.
    let G = c.args.scene.now.table.now in
    let ws = between c.args.scene.now.image.now c.args.at c.args.end in
    let l = length-between c.args.scene.now.image.now c.args.at c.args.end c.requires.fits in
    let all : take (c.args.end - c.args.at) ws ≡ ws = take_all (c.args.end - c.args.at) ws (omega arith) in
    record {
      operand = code.Text c.in-Some.text;
      added = c.push_reserved.ensures.items;
      taken = λ k know f. rw (shape_leaf G k (alone kind) leaf.Text leaf.Text e refl, all) (c.in-Some.ensures kind);
    }
