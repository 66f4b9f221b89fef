use Rattle.std.proofs.Common.{◌≡◌, ◌∙◌, ap}
use Rattle.std.proofs.lemmas.Result.{IfOk-weaker}
use Rattle.clap.specs.Words.{App, app_of, new_app}
use Rattle.clap.specs.Simple.{app_of_fields}
use Rattle.spv_command_line.specs.inner.Program.{with_arguments}
use Rattle.spv_command_line.proofs.program.command_of.Goals as goal

pub returns-clause-shape : goal.returns-clause-shape
returns-clause-shape c =
    let named : app_of c.after_help-command.result ≡ new_app c.args.row.now.name.now = ap app_of_fields c.after_help-command.ensures ∙ ap app_of_fields c.about.ensures ∙ c.new.ensures.app in
    IfOk-weaker c.with_arguments.result _ _ (λ d h. ap (λ (a : App). a.top) (h ∙ ap (λ (a : App). with_arguments a c.args.row.now.arguments.now) named)) c.with_arguments.ensures.shape
