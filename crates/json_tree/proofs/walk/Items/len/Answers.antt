use Rattle.std.proofs.Common.{◌≡◌, ◌+◌, ◌-◌, ◌<◌, ◌≤◌, length, Fits, w64, drop, sym, ap, ◌∙◌, arith}
use Rattle.json_tree.specs.View.{items_left}
use Rattle.json_tree.proofs.Values.{turn, no_items_left}
use Rattle.json_tree.proofs.walk.Items.len.Goals as goal

pub overflow_sub-left : goal.overflow_sub-left
overflow_sub-left c =
    let t = turn c.self.inside.nodes.now c.items.place c.items.left c.after-next.result c.items.invariant.whole c.items-test.true c.after-next.ensures in
    let falls = t.falls in
    omega arith

pub overflow_sub-left-in-items : goal.overflow_sub-left-in-items
overflow_sub-left-in-items c = (turn c.self.inside.nodes.now c.items.place c.items.left c.after-next.result c.items.invariant.whole c.items-test.true c.after-next.ensures).fits

pub overflow_add-count : goal.overflow_add-count
overflow_add-count c =
    let t = turn c.self.inside.nodes.now c.items.place c.items.left c.after-next.result c.items.invariant.whole c.items-test.true c.after-next.ensures in
    let falls = t.falls in
    let few = c.items.invariant.few in
    let small = c.after-next.type_inv in
    omega arith

pub items-smaller : goal.items-smaller
items-smaller c =
    let t = turn c.self.inside.nodes.now c.items.place c.items.left c.after-next.result c.items.invariant.whole c.items-test.true c.after-next.ensures in
    let falls = t.falls in
    let fits = t.fits in
    omega arith

pub items-preserved : goal.items-preserved
items-preserved c =
    let t = turn c.self.inside.nodes.now c.items.place c.items.left c.after-next.result c.items.invariant.whole c.items-test.true c.after-next.ensures in
    let falls = t.falls in
    let few = c.items.invariant.few in
    let fewer = ap length t.whole in
    record { whole = t.more; few = omega arith; counted = omega (arith, c.items.invariant.counted) }

pub returns : goal.returns
returns c =
    let none : c.items.left ≡ 0 = omega arith in
    let empty = ap length (no_items_left (drop c.items.place c.self.inside.nodes.now) c.items.left c.items.invariant.whole none) in
    let counted = c.items.invariant.counted in
    omega arith
