use Rattle.std.proofs.Common.{arith, sym, subst}
use Rattle.spv_limits.proofs.Steps.{IsUncounted, quiet_step}
use Rattle.spv_limits.proofs.past.is_quiet.Goals as goal

pub returns-in_default : goal.returns-in_default
returns-in_default c = λ t is n i counts at op short few up_to. quiet_step is n i counts at
    (subst IsUncounted (sym op) record {
      struct = λ e. grind (arith, e);
      mode = λ e. grind (arith, e);
      mode_id = λ e. grind (arith, e);
      variable = λ e. grind (arith, e);
      function = λ e. grind (arith, e);
    }) few short up_to
