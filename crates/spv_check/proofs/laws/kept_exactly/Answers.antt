use Rattle.spv_check.proofs.Kept.{LayoutLaw, kept, sound}
use Rattle.spv_check.proofs.laws.kept_exactly.Goals as goal

pub returns : goal.returns
returns c = λ G reach p few.
    let law : LayoutLaw = record {
      one = c.member_or_dead.ensures.one;
      not_both = c.member_or_dead.ensures.not_both;
    } in
    (kept law G reach p few, sound law G reach p)
