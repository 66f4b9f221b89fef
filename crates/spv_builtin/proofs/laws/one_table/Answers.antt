use Rattle.spv_builtin.proofs.Told.{one_table, one_code, never}
use Rattle.spv_builtin.proofs.laws.one_table.Goals as goal

pub returns : goal.returns
returns c = record {
  table = one_table c.one_table.ensures.once;
  code = one_code;
  never = never c.one_table.ensures.never;
}
