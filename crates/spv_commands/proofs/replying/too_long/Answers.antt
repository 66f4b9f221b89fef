use Rattle.std.proofs.Common.{◌≡◌, false, true}
use Rattle.spv_commands.specs.inner.Asked.{is_explaining}
use Rattle.spv_commands.proofs.Answerings.{too_long_explained, too_long_line}
use Rattle.spv_commands.proofs.replying.too_long.Goals as goal

pub returns-then-not-is_explaining-clause-gives : goal.returns-then-not-is_explaining-clause-gives
returns-then-not-is_explaining-clause-gives c = λ G bytes reads h.
    let line : is_explaining c.args.command.now ≡ false =
    cc (c.is_explaining.ensures, c.if-not-is_explaining.true) in
    too_long_line c.one_refusal.ensures.never c.args.command.now G bytes c.fault.result line reads h
    c.fault.ensures.out c.fault.ensures.made c.fault.ensures.done

pub returns-clause-gives : goal.returns-clause-gives
returns-clause-gives c = λ G bytes reads h.
    let explains : is_explaining c.args.command.now ≡ true =
    cc (c.is_explaining.ensures, c.if-not-is_explaining.false) in
    too_long_explained c.args.command.now G bytes c.explaining.result explains
    (λ detail reach read long. c.explaining.ensures.gives detail G reach read
    (c.in_ok-explanation.ensures.explains detail G reach read long)) h
