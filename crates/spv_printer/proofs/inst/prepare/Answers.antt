use Rattle.std.proofs.Common.{map, take, arith}
use Rattle.spv_module.specs.Module.{plain_inst}
use Rattle.spv_printer.proofs.Chosen.{up_to}
use Rattle.spv_printer.proofs.inst.prepare.Goals as goal

pub returns-clause-knows : goal.returns-clause-knows
returns-clause-knows c =
    let insts = c.args.insts.now in
    rw (up_to insts c.args.from c.args.at (omega arith) c.requires.within) at
    (c.in_ok-add_all-2.ensures (map plain_inst (take c.args.from insts)) c.requires.knows)

pub returns-clause-enough : goal.returns-clause-enough
returns-clause-enough c = λ _. returns-clause-knows c
