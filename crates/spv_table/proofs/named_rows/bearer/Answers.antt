use Rattle.std.proofs.Common.{map, sym, subst, true≢false, ◌∙◌, arith}
use Rattle.std.proofs.lemmas.List.{get_or_default}
use Rattle.spv_table.specs.inner.Named.{BearsAt}
use Rattle.spv_table.specs.inner.Rows.{told}
use Rattle.spv_table.proofs.Slots.{not_yet}
use Rattle.spv_table.proofs.named_rows.bearer.Goals as goal

pub loop-slot-init : goal.loop-slot-init
loop-slot-init g c = λ k h b. omega (arith, h)

pub returns-then-bears : goal.returns-then-bears
returns-then-bears g c =
    let slots = c.args.slots.now in
    let k = c.loop-slot.slot in
    let within = c.loop-slot-test.true in
    let here = get_or_default slots k _ 4294967295 within in
    (within, subst (BearsAt (map (told c.args.text.now g.R.NamedRow.span) c.args.rows.now) c.args.name.now) here (c.bears.ensures.0 c.if-bears.true), c.loop-slot.invariant)

pub loop-slot-preserved : goal.loop-slot-preserved
loop-slot-preserved g c =
    let slots = c.args.slots.now in
    let k = c.loop-slot.slot in
    let here = get_or_default slots k _ 4294967295 c.loop-slot-test.true in
    not_yet (map (told c.args.text.now g.R.NamedRow.span) c.args.rows.now) slots c.args.name.now k c.loop-slot.invariant
    (λ b. true≢false (sym (c.bears.ensures.1 (subst (BearsAt (map (told c.args.text.now g.R.NamedRow.span) c.args.rows.now) c.args.name.now) (sym here) b)) ∙ c.if-bears.false))

pub returns : goal.returns
returns g c = λ k h b. c.loop-slot.invariant k (omega (arith, h, c.loop-slot-test.false)) b
