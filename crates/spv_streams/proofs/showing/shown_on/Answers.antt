use Rattle.std.proofs.Common.{IfOk, false}
use Rattle.spv_words.specs.Header.{IsFirstBroken}
use Rattle.spv_words.specs.declared.words.WordError.TheVariants.{W8}
use Rattle.spv_check.specs.Verdict.{refused_line}
use Rattle.spv_commands.specs.Show.{IsShowing, Shows}
use Rattle.spv_commands.specs.inner.Answered.{Gives}
use Rattle.spv_commands.proofs.Answerings.{gives, shows_it}
use Rattle.spv_streams.proofs.Replies.{all_known, some_by}
use Rattle.spv_streams.proofs.showing.shown_on.Goals as goal

pub returns-in-Some-clause-known : goal.returns-in-Some-clause-known
returns-in-Some-clause-known g c =
    all_known _ c.in-Some.bytes.items (λ xs. IfOk c.shown.result (Gives (Shows c.args.table.now c.args.reach) xs))
    (rw c.in-Some.is at c.in_ok-content.ensures.known) c.shown.ensures.gives

pub returns-in-None-clause-known : goal.returns-in-None-clause-known
returns-in-None-clause-known g c =
    some_by _ (λ xs. IsFirstBroken W8 xs) (λ xs. Gives (Shows c.args.table.now c.args.reach) xs c.fault.result)
    (λ xs h. gives (Shows c.args.table.now c.args.reach) xs (refused_line W8) false c.fault.result
    c.fault.ensures.out c.fault.ensures.done c.fault.ensures.made
    (shows_it c.args.table.now c.args.reach xs (refused_line W8) false (IsShowing.refused W8 h)))
    (rw c.in-None.is at c.in_ok-content.ensures.known)
