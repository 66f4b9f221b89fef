use Rattle.std.proofs.Common.{Some, drop, length, sym, ap, ◌∙◌, arith}
use Rattle.json_tree.specs.View.{members_left}
use Rattle.json_tree.specs.inner.Stored.{content_view}
use Rattle.json_tree.proofs.Contents.{is_string}
use Rattle.json_tree.proofs.Values.{member, member_turn, no_members_left}
use Rattle.json_tree.proofs.walk.MembersIterator.next.Goals as goal

pub returns-then-self-eq0-clause-steps : goal.returns-then-self-eq0-clause-steps
returns-then-self-eq0-clause-steps c =
    let none = ap members_left (sym c.self.view_is) ∙ no_members_left (drop c.self.inside.place c.self.inside.nodes.now) c.self.inside.left c.self.invariant c.if-self-eq0.true in
    (none, none)

pub returns-in_default : goal.returns-in_default
returns-in_default c =
    let m = member c.self.inside.nodes.now c.self.inside.place c.self.inside.left c.self.invariant c.if-self-eq0.false in
    let text = is_string c.content.result m.key (cc (c.content.ensures.content, m.at_key)) in
    absurd (c.in_default.not-String text.0 text.1)

pub at-value-requires-clause-inside : goal.at-value-requires-clause-inside
at-value-requires-clause-inside c = (member c.self.inside.nodes.now c.self.inside.place c.self.inside.left c.self.invariant c.if-self-eq0.false).room

pub at-value-requires-clause-whole : goal.at-value-requires-clause-whole
at-value-requires-clause-whole c = (member c.self.inside.nodes.now c.self.inside.place c.self.inside.left c.self.invariant c.if-self-eq0.false).value_whole

pub after-next-requires : goal.after-next-requires
after-next-requires c = (member c.self.inside.nodes.now c.self.inside.place c.self.inside.left c.self.invariant c.if-self-eq0.false).room

pub overflow_sub-self : goal.overflow_sub-self
overflow_sub-self c =
    let key = c.content.ensures.content ∙ ap (λ k. Some (content_view k)) c.in-String.is in
    let t = member_turn c.self.inside.nodes.now c.self.inside.place c.self.inside.left c.after-next.result c.in-String.key.now c.self.invariant c.if-self-eq0.false key c.after-next.ensures in
    let falls = t.falls in
    omega arith

pub overflow_sub-self-2 : goal.overflow_sub-self-2
overflow_sub-self-2 c =
    let key = c.content.ensures.content ∙ ap (λ k. Some (content_view k)) c.in-String.is in
    let t = member_turn c.self.inside.nodes.now c.self.inside.place c.self.inside.left c.after-next.result c.in-String.key.now c.self.invariant c.if-self-eq0.false key c.after-next.ensures in
    t.fits

pub invariant_of-self : goal.invariant_of-self
invariant_of-self c =
    let key = c.content.ensures.content ∙ ap (λ k. Some (content_view k)) c.in-String.is in
    let t = member_turn c.self.inside.nodes.now c.self.inside.place c.self.inside.left c.after-next.result c.in-String.key.now c.self.invariant c.if-self-eq0.false key c.after-next.ensures in
    t.more

pub returns-clause-steps : goal.returns-clause-steps
returns-clause-steps c =
    let key = c.content.ensures.content ∙ ap (λ k. Some (content_view k)) c.in-String.is in
    let t = member_turn c.self.inside.nodes.now c.self.inside.place c.self.inside.left c.after-next.result c.in-String.key.now c.self.invariant c.if-self-eq0.false key c.after-next.ensures in
    ap members_left (sym c.self.view_is) ∙ rw c.at-value.ensures t.whole

pub returns-clause-goes : goal.returns-clause-goes
returns-clause-goes c =
    let key = c.content.ensures.content ∙ ap (λ k. Some (content_view k)) c.in-String.is in
    let t = member_turn c.self.inside.nodes.now c.self.inside.place c.self.inside.left c.after-next.result c.in-String.key.now c.self.invariant c.if-self-eq0.false key c.after-next.ensures in
    let fewer = ap length (ap members_left (sym c.self.view_is) ∙ t.whole) in
    record { on = λ _. (tt, tt, omega arith); keeps = tt; rests = λ _. tt }
