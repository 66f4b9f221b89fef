use Rattle.std.proofs.Common.{get_or}
use Rattle.spv_module.specs.Module.{plain_inst}
use Rattle.spv_flow.proofs.lemmas.branches.Labelled.{inst_get}
use Rattle.spv_flow.specs.walks.inner.Code.{insts_of}
use Rattle.spv_flow.proofs.lemmas.walks.Coded.{label_here, label_not}
use Rattle.spv_flow.proofs.walks.code.Code.label_of.Goals as goal

pub returns-in_default-clause-label : goal.returns-in_default-clause-label
returns-in_default-clause-label c = λ G is m l. c.in_default.ensures.there G is m l.defined

pub returns-then-self-place-eq-LABEL-clause-label : goal.returns-then-self-place-eq-LABEL-clause-label
returns-then-self-place-eq-LABEL-clause-label c = λ G is.
    let insts = c.args.self.now.insts.now in
    label_here (insts_of c.args.self.now) c.args.id c.in-Some.place
    (plain_inst (get_or insts c.in-Some.place c.index-self-place.result)) (c.in-Some.ensures.there G is)
    (inst_get insts c.in-Some.place c.index-self-place.result c.in-Some.ensures.within) c.if-self-place-eq-LABEL.true

pub returns-else-self-place-eq-LABEL-clause-label : goal.returns-else-self-place-eq-LABEL-clause-label
returns-else-self-place-eq-LABEL-clause-label c = λ G is m l.
    let insts = c.args.self.now.insts.now in
    label_not G c.args.self.now c.args.id c.in-Some.place m
    (plain_inst (get_or insts c.in-Some.place c.index-self-place.result)) is (c.in-Some.ensures.there G is)
    (inst_get insts c.in-Some.place c.index-self-place.result c.in-Some.ensures.within) c.if-self-place-eq-LABEL.false l
