use Rattle.spv_command_line.proofs.Asking.{naming_read}
use Rattle.spv_command_line.proofs.options.naming_in.Goals as goal

pub returns : goal.returns
returns c = naming_read _ _ _ _ _ c.naming_by.ensures c.is_set-with_filename.ensures c.is_set-no_filename.ensures
