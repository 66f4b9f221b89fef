use Rattle.std.proofs.Common.{◌∙◌, sym}
use Rattle.spv_inst.proofs.plain.bare_in_form.Goals as goal

pub returns-in-Leaf : goal.returns-in-Leaf
returns-in-Leaf c = λ G x k e.
    c.bare_word.ensures G x k (sym e ∙ c.in-Leaf.is)
