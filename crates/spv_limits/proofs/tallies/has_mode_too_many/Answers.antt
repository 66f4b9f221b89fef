use Rattle.spv_module.specs.Module.{plain_inst}
use Rattle.spv_limits.proofs.Modes.{modes_more, modes_same}
use Rattle.spv_limits.proofs.tallies.has_mode_too_many.Goals as goal

pub returns-in_ok-keep-in-Some : goal.returns-in_ok-keep-in-Some
returns-in_ok-keep-in-Some c = λ is n at modes.
    modes_more is n (plain_inst c.args.inst.now) c.in-Some.f c.kept_at-count.result c.most.result c.args.modes.now
    c.keep.new.map at c.in-Some.ensures c.kept_at-count.ensures c.in_ok-keep-in-Some.ensures c.most.ensures modes

pub returns-in-None : goal.returns-in-None
returns-in-None c = λ is n at modes.
    modes_same is n (plain_inst c.args.inst.now) c.args.modes.now at c.in-None.ensures modes
