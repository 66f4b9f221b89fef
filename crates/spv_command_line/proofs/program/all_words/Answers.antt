use Rattle.std.proofs.Common.{◌∙◌, ap}
use Rattle.std.proofs.lemmas.Result.{IfOk-weaker}
use Rattle.clap.specs.Words.{App, app_of}
use Rattle.spv_command_line.specs.inner.Program.{with_commands}
use Rattle.spv_command_line.proofs.Table.{named_shapes, three_tables}
use Rattle.spv_command_line.proofs.program.all_words.Goals as goal

pub returns : goal.returns
returns c =
    let bare = ap (λ (z : App). with_commands z c.judging.result.now) c.in_ok-named_words.ensures in
    IfOk-weaker c.with_commands-3.result _ _
    (λ d h. three_tables _ _ _ (app_of d) c.judging.result.now c.showing.result.now c.others.result.now _
    (c.in_ok-program.ensures ∙ bare) c.in_ok-program-2.ensures h
    (named_shapes _ _ _ _ _ _ c.judging.ensures c.showing.ensures c.others.ensures)) c.with_commands-3.ensures
