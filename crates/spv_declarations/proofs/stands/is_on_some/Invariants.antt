use Rattle.std.proofs.Common.{◌↔◌, drop, map}
use Rattle.spv_module.specs.Module.{plain_inst}
use Rattle.spv_declarations.specs.inner.Table.{line, IsOnLine}
use Rattle.spv_declarations.proofs.stands.is_on_some.Given as goal

abbrev pub invariant-loop-line : goal.invariant-loop-line
invariant-loop-line l = IsOnLine l.definitions (map line (drop l.line-index l.lines)) l.d (plain_inst l.inst).opcode l.x
    ↔ IsOnLine l.definitions (map line l.lines) l.d (plain_inst l.inst).opcode l.x
