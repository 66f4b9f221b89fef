use Rattle.std.proofs.Common.{string_bytes}
use Rattle.spv_module.specs.Module.{plain_insts}
use Rattle.spv_fault_lines.proofs.Alone.{lone}
use Rattle.spv_fault_lines.proofs.malformed.push_lone_lines.Goals as goal

pub returns : goal.returns
returns c =
    lone c.args.about.detail c.args.about.table.now
    (plain_insts c.args.about.«module».now) c.requires.none c.push_lines.result
    (string_bytes c.args.out.now) (string_bytes c.push_lines.new.out) c.args.facts.now c.push_lines.ensures
