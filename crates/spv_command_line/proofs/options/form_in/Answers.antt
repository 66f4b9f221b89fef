use Rattle.spv_command_line.proofs.Asking.{form_read}
use Rattle.spv_command_line.proofs.options.form_in.Goals as goal

pub returns : goal.returns
returns c = form_read _ _ _ c.form_by.ensures c.is_set.ensures
