use Rattle.std.proofs.Common.{arith}
use Rattle.std.proofs.lemmas.Grind.{common_steps}
use Rattle.spv_annotate.specs.inner.Numbers.{kept}
use Rattle.spv_annotate.proofs.Fronts.{front_ends}
use Rattle.spv_annotate.proofs.drafted.push_drafted.Goals as goal

pub range_from-requires : goal.range_from-requires
range_from-requires c = λ _.
    let v = c.as_bytes.ensures.value in
    front_ends (kept c.args.definitions.now) c.args.line.now c.add_front-front.result.read c.args.at
    c.add_front-front.result.at c.args.buffer.now c.add_front-front.new.buffer c.utf8.line
    (rw v at c.add_front-front.ensures.front)

pub push_draft-requires-clause-utf8 : goal.push_draft-requires-clause-utf8
push_draft-requires-clause-utf8 c = c.add_front-front.ensures.front.utf8 c.requires.utf8

pub returns-then-front-line-clause-text : goal.returns-then-front-line-clause-text
returns-then-front-line-clause-text c = grind (arith, common_steps)

pub returns-clause-text : goal.returns-clause-text
returns-clause-text c = grind (arith, common_steps)
