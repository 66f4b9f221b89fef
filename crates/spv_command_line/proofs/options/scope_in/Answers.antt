use Rattle.spv_command_line.proofs.Asking.{scope_read}
use Rattle.spv_command_line.proofs.options.scope_in.Goals as goal

pub returns : goal.returns
returns c = scope_read _ _ _ _ _ _ _ c.scope_by.ensures c.is_set-as_1_6.ensures c.is_set-extended.ensures c.is_set-opencl.ensures
