use Rattle.std.proofs.Common.{◌∙◌, drop, subst, sym}
use Rattle.spv_module.specs.Instruction.{IsListing}
use Rattle.spv_module.specs.Module.{plain_insts}
use Rattle.spv_explain.proofs.Tellings.{as_spelled}
use Rattle.spv_explain.proofs.reading.spelled.Goals as goal

pub returns-then-not-opens-clause-listing : goal.returns-then-not-opens-clause-listing
returns-then-not-opens-clause-listing c =
    subst (λ is. IsListing c.args.table.now is (drop 5 c.args.image.now)) (sym c.headed.ensures.insts)
    (as_spelled c.args.table.now c.args.reach (plain_insts c.args.module)
    (drop 5 c.args.image.now) (sym c.opens.ensures ∙ c.if-not-opens.true) c.requires.read.reading)
