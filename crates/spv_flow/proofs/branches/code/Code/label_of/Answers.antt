use Rattle.std.proofs.Common.{◌∙◌, sym, get_or, arith}
use Rattle.spv_flow.proofs.lemmas.branches.Labelled.{inst_get, none_defined, label_here, label_not, label_past}
use Rattle.spv_flow.proofs.branches.code.Code.label_of.Goals as goal

pub returns-in_default-clause-label : goal.returns-in_default-clause-label
returns-in_default-clause-label c =
    λ G is m l. none_defined G c.args.self.now c.args.id m is (sym c.definition.ensures ∙ c.in_default.is) l.defined

pub returns-then-place-self-clause-label : goal.returns-then-place-self-clause-label
returns-then-place-self-clause-label c =
    λ G is m l. label_past G c.args.self.now c.args.id c.in-Some.place m is (sym c.definition.ensures ∙ c.in-Some.is)
    (omega arith) l

pub returns-then-inst-eq-LABEL-clause-label : goal.returns-then-inst-eq-LABEL-clause-label
returns-then-inst-eq-LABEL-clause-label c = λ G is.
    label_here G c.args.self.now c.args.id c.in-Some.place
    (get_or c.args.self.now.insts.now c.in-Some.place c.index-self-place.result) is
    (sym c.definition.ensures ∙ c.in-Some.is)
    (inst_get c.args.self.now.insts.now c.in-Some.place c.index-self-place.result (omega arith))
    c.if-inst-eq-LABEL.true

pub returns-else-inst-eq-LABEL-clause-label : goal.returns-else-inst-eq-LABEL-clause-label
returns-else-inst-eq-LABEL-clause-label c = λ G is m l.
    label_not G c.args.self.now c.args.id c.in-Some.place m
    (get_or c.args.self.now.insts.now c.in-Some.place c.index-self-place.result) is
    (sym c.definition.ensures ∙ c.in-Some.is)
    (inst_get c.args.self.now.insts.now c.in-Some.place c.index-self-place.result (omega arith))
    c.if-inst-eq-LABEL.false l
