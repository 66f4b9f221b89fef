use Rattle.spv_table.specs.declared.form.Leaf.TheVariants as leaf
use Rattle.spv_module.specs.Shape.{alone}
use Rattle.spv_module.specs.Spelling.{Takes}
use Rattle.spv_inst.proofs.Shapes.{shape_leaf}
use Rattle.spv_inst.proofs.plain.bare_word.Goals as goal

pub returns-in-ResultType : goal.returns-in-ResultType
returns-in-ResultType c = λ G x k e.
    rw (shape_leaf G x (alone k) c.args.leaf leaf.ResultType e c.in-ResultType.is) (Takes.result_type c.args.word)

pub returns-in-Result : goal.returns-in-Result
returns-in-Result c = λ G x k e.
    rw (shape_leaf G x (alone k) c.args.leaf leaf.Result e c.in-Result.is) (Takes.result c.args.word)

pub returns-in-Id : goal.returns-in-Id
returns-in-Id c = λ G x k e.
    rw (shape_leaf G x (alone k) c.args.leaf leaf.Id e c.in-Id.is) (Takes.id c.args.word)

pub returns-in-Integer : goal.returns-in-Integer
returns-in-Integer c = λ G x k e.
    rw (shape_leaf G x (alone k) c.args.leaf leaf.Integer e c.in-Integer.is) (Takes.word c.args.word)

pub returns-in-Word : goal.returns-in-Word
returns-in-Word c = λ G x k e.
    rw (shape_leaf G x (alone k) c.args.leaf leaf.Word e c.in-Word.is) (Takes.word c.args.word)
