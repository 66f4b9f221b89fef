use Rattle.spv_extended.specs.Opened.{opened_inst}
use Rattle.spv_extended.specs.Sets.{set_in}
use Rattle.spv_opening.proofs.Capable.{capabilities_kept}
use Rattle.spv_opening.proofs.Rules.{rules_kept}
use Rattle.spv_opening.proofs.Uses.{opened_at}
use Rattle.spv_opening.proofs.laws.kept_opened.Goals as goal

pub returns : goal.returns
returns c = record {
  capabilities = λ G is r n i e k.
      let f = opened_inst (set_in is) in
      capabilities_kept G (set_in is) is r n i (k (f i) (opened_at f is n i e));
  types = λ G is r n i e k.
      let f = opened_inst (set_in is) in
      rules_kept G (set_in is) is r n i (k (f i) (opened_at f is n i e));
}
