use Rattle.std.proofs.Common.{refl}
use Rattle.spv_words.specs.declared.words.WordError.TheVariants.{W1}
use Rattle.spv_commands.specs.Show.{BeginsShowing, Shows}
use Rattle.spv_streams.proofs.Carries.{begin_shown, carry_shown}
use Rattle.spv_streams.proofs.Replies.{code_count}
use Rattle.spv_streams.proofs.Written.{one_failed, one_refused, one_written}
use Rattle.spv_streams.proofs.showing.show_stream.Goals as goal

pub returns-in-Err-clause-ends : goal.returns-in-Err-clause-ends
returns-in-Err-clause-ends g c =
    rw c.stream_code.ensures (one_refused (Shows c.args.table.now c.args.reach) (BeginsShowing c.args.table.now c.args.reach) _ _ W1 _
    (code_count _ c.in-Err.trouble _ refl c.in-Err.ensures.only c.in-Err.ensures.count) (λ f. f refl) (λ q. refl))

pub returns-in-Ok-write_out-clause-ends : goal.returns-in-Ok-write_out-clause-ends
returns-in-Ok-write_out-clause-ends g c =
    one_written (Shows c.args.table.now c.args.reach) (BeginsShowing c.args.table.now c.args.reach) (carry_shown c.args.table.now c.args.reach)
    (begin_shown c.args.table.now c.args.reach) _ _ W1 c.in-Ok.reply _ c.in-Ok.ensures.known
    (λ f. let failed = c.in-Ok.ensures.count.0 f in cc) c.in-Ok-write_out.ensures

pub returns-clause-ends : goal.returns-clause-ends
returns-clause-ends g c =
    one_failed (Shows c.args.table.now c.args.reach) (BeginsShowing c.args.table.now c.args.reach)
    (begin_shown c.args.table.now c.args.reach) _ _ W1 c.in-Ok.reply c.in-Err-write_out.field-0 c.in-Ok.ensures.known
    c.in-Err-write_out.ensures
