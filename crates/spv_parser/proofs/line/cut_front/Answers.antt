use Rattle.spv_parser.proofs.Cutting.{front_none, front_uncut, front_cut}
use Rattle.spv_parser.proofs.line.cut_front.Goals as goal

pub returns-in_default : goal.returns-in_default
returns-in_default c = front_none c.args.line.now c.in_default.ensures

pub returns-in_default-split_once : goal.returns-in_default-split_once
returns-in_default-split_once c = front_uncut c.args.line.now _ c.in-Some.ensures c.in_default-split_once.ensures.cases

pub returns : goal.returns
returns c = front_cut c.args.line.now _ _ _ c.in-Some.ensures c.in-Some-split_once.ensures.cases
