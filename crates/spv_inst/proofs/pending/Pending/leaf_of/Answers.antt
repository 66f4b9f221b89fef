use Rattle.spv_inst.specs.inner.Pending.{Opens}
use Rattle.spv_inst.proofs.Bases.{composed, has_bases, simple_base, opens_parts}
use Rattle.spv_inst.proofs.pending.Pending.leaf_of.Goals as goal

pub unreachable-requires-in_default-2 : goal.unreachable-requires-in_default-2
unreachable-requires-in_default-2 c =
    let G = c.args.table.now in
    let k = composed G c.in-Some.ensures.whole c.args.slot.kind c.in-Parts.paired c.in-Some.kind
    c.bases.result.now (c.in-Parts.ensures G c.requires) c.in-Some.ensures.kind c.bases.ensures in
    let t = rw c.in_default-2.is at (c.in_ok-first-in-Parts.ensures G) in
    has_bases G c.args.slot.kind c.in-Parts.paired c.in-Parts.paired c.bases.result.now k t.0

pub unreachable-requires-in-Parts-form_in : goal.unreachable-requires-in-Parts-form_in
unreachable-requires-in-Parts-form_in c =
    let G = c.args.table.now in
    let k = composed G c.in-Some.ensures.whole c.args.slot.kind c.in-Parts.paired c.in-Some.kind
    c.bases.result.now (c.in-Parts.ensures G c.requires) c.in-Some.ensures.kind c.bases.ensures in
    let t = rw c.in-Some-2.is at (c.in_ok-first-in-Parts.ensures G) in
    simple_base G c.args.slot.kind c.in-Parts.paired c.in-Parts-form_in.paired c.bases.result.now _ _
    c.in-Some-2.first k t (c.in-Parts-form_in.ensures G c.requires)

pub returns-in-Leaf-clause-opened : goal.returns-in-Leaf-clause-opened
returns-in-Leaf-clause-opened c = Opens.leaf

pub returns-in-Leaf-form_in-clause-opened : goal.returns-in-Leaf-form_in-clause-opened
returns-in-Leaf-form_in-clause-opened c =
    let G = c.args.table.now in
    let k = composed G c.in-Some.ensures.whole c.args.slot.kind c.in-Parts.paired c.in-Some.kind
    c.bases.result.now (c.in-Parts.ensures G c.requires) c.in-Some.ensures.kind c.bases.ensures in
    let t = rw c.in-Some-2.is at (c.in_ok-first-in-Parts.ensures G) in
    opens_parts G _ _ _ _ _ _ (λ d. k.shape d c.args.slot.paired) t
