use Rattle.spv_module.specs.Module.{plain_insts}
use Rattle.spv_fault_lines.proofs.Alone.{one_line}
use Rattle.spv_fault_lines.proofs.lines.push_line.Goals as goal

pub returns-in_default : goal.returns-in_default
returns-in_default c = λ shown are.
    let e = one_line c.args.about.now.detail c.args.about.now.table.now
    (plain_insts c.args.about.now.«module».now) shown c.args.fact.now (λ ts e. c.in_default.not-Types ts e)
    (λ n us ts e. c.in_default.not-ReadTypes n us ts e) in
    rw (← e) (c.push_one_line.ensures shown are)
