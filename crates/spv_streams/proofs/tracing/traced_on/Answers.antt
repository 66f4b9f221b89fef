use Rattle.std.proofs.Common.{IfOk, false}
use Rattle.spv_words.specs.Header.{IsFirstBroken}
use Rattle.spv_words.specs.declared.words.WordError.TheVariants.{W8}
use Rattle.spv_check.specs.Verdict.{refused_line}
use Rattle.spv_commands.specs.Trace.{Traces}
use Rattle.spv_commands.specs.inner.Answered.{Gives}
use Rattle.spv_commands.proofs.Answerings.{gives, traces_refused}
use Rattle.spv_streams.proofs.Replies.{all_known, entry_reason, some_by}
use Rattle.spv_streams.proofs.tracing.traced_on.Goals as goal

pub returns-in-Some-clause-known : goal.returns-in-Some-clause-known
returns-in-Some-clause-known g c =
    all_known _ c.in-Some.bytes.items (λ xs. IfOk c.traced.result
    (Gives (Traces c.args.table.now c.args.reach c.args.function c.args.choices.now c.args.limit) xs))
    (rw c.in-Some.is at c.in_ok-content.ensures.known) c.traced.ensures.gives

pub returns-in-Some-clause-only : goal.returns-in-Some-clause-only
returns-in-Some-clause-only g c =
    entry_reason c.args.table.now c.args.reach c.args.function _ c.in-Some.bytes.items c.traced.result
    (rw c.in-Some.is at c.in_ok-content.ensures.known) c.traced.ensures.only

pub returns-in-None-clause-known : goal.returns-in-None-clause-known
returns-in-None-clause-known g c =
    let whole = Traces c.args.table.now c.args.reach c.args.function c.args.choices.now c.args.limit in
    some_by _ (λ xs. IsFirstBroken W8 xs) (λ xs. Gives whole xs c.fault.result)
    (λ xs h. gives whole xs (refused_line W8) false c.fault.result
    c.fault.ensures.out c.fault.ensures.done c.fault.ensures.made
    (traces_refused c.args.table.now c.args.reach c.args.function c.args.choices.now c.args.limit xs W8 h))
    (rw c.in-None.is at c.in_ok-content.ensures.known)
