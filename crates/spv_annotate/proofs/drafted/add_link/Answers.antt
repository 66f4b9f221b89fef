use Rattle.std.proofs.Common.{take}
use Rattle.std.specs.Prelude.{codes, decimal}
use Rattle.spv_annotate.proofs.Drafts.{added_more}
use Rattle.spv_annotate.proofs.drafted.add_link.Goals as goal

pub returns-clause-added : goal.returns-clause-added
returns-clause-added c =
    added_more (codes "<a href=#") _ _ _ _ _ _ _ c.add_text-number.ensures.added
    (added_more (decimal c.args.inst) _ _ _ _ _ _ _ c.add_number-tag.ensures.added
    (added_more (codes ">") _ _ _ _ _ _ _ c.add_text-begin.ensures.added
    (added_more (take c.args.count c.args.text.now)
    (codes "</a>") _ _ _ _ _ _ c.add_word-behind.ensures.added c.add_text.ensures.added)))
