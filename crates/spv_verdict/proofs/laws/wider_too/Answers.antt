use Rattle.spv_check.proofs.Kept.{LayoutLaw}
use Rattle.spv_verdict.proofs.Further.{valid_wider}
use Rattle.spv_verdict.proofs.laws.wider_too.Goals as goal

pub returns : goal.returns
returns c =
    let law : LayoutLaw = record {
      one = c.member_or_dead.ensures.one;
      not_both = c.member_or_dead.ensures.not_both;
    } in
    valid_wider law c.own_profile.ensures.wider
