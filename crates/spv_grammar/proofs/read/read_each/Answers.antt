use Rattle.spv_grammar.proofs.Turns.{read_step}
use Rattle.spv_grammar.proofs.read.read_each.Goals as goal

pub loop-element-preserved : goal.loop-element-preserved
loop-element-preserved g c =
    read_step (g.T.Element.reading c.args.context) c.loop-element.element-iterator c.next.new.self c.in-Some.element _ _ c.loop-element.found.items c.push.new.self.items c.in-Some.ensures.steps c.loop-element.invariant c.in_ok-read.ensures c.in_ok-push.ensures.items
