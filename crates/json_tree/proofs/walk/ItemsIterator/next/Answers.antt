use Rattle.std.proofs.Common.{drop, length, sym, ap, ◌∙◌, arith}
use Rattle.json_tree.specs.View.{items_left}
use Rattle.json_tree.proofs.Values.{turn, no_items_left}
use Rattle.json_tree.proofs.walk.ItemsIterator.next.Goals as goal

pub returns-then-self-eq0-clause-steps : goal.returns-then-self-eq0-clause-steps
returns-then-self-eq0-clause-steps c =
    let none = ap items_left (sym c.self.view_is) ∙ no_items_left (drop c.self.inside.place c.self.inside.nodes.now) c.self.inside.left c.self.invariant c.if-self-eq0.true in
    (none, none)

pub overflow_sub-self : goal.overflow_sub-self
overflow_sub-self c =
    let t = turn c.self.inside.nodes.now c.self.inside.place c.self.inside.left c.after-next.result c.self.invariant (omega arith) c.after-next.ensures in
    let falls = t.falls in
    omega arith

pub overflow_sub-self-2 : goal.overflow_sub-self-2
overflow_sub-self-2 c =
    let t = turn c.self.inside.nodes.now c.self.inside.place c.self.inside.left c.after-next.result c.self.invariant (omega arith) c.after-next.ensures in
    t.fits

pub invariant_of-self : goal.invariant_of-self
invariant_of-self c =
    let t = turn c.self.inside.nodes.now c.self.inside.place c.self.inside.left c.after-next.result c.self.invariant (omega arith) c.after-next.ensures in
    t.more

pub returns-clause-steps : goal.returns-clause-steps
returns-clause-steps c =
    let t = turn c.self.inside.nodes.now c.self.inside.place c.self.inside.left c.after-next.result c.self.invariant (omega arith) c.after-next.ensures in
    ap items_left (sym c.self.view_is) ∙ rw c.at-item.ensures t.whole

pub returns-clause-goes : goal.returns-clause-goes
returns-clause-goes c =
    let t = turn c.self.inside.nodes.now c.self.inside.place c.self.inside.left c.after-next.result c.self.invariant (omega arith) c.after-next.ensures in
    let fewer = ap length (ap items_left (sym c.self.view_is) ∙ t.whole) in
    record { on = λ _. (tt, tt, omega arith); keeps = tt; rests = λ _. tt }
