use Rattle.std.specs.Prelude.{codes, decimal}
use Rattle.spv_annotate.proofs.Drafts.{added_more}
use Rattle.spv_annotate.proofs.look.Look.add_opening.Goals as goal

pub returns-clause-added : goal.returns-clause-added
returns-clause-added c =
    added_more (codes "<div id=") _ _ _ _ _ _ _ c.add_text-number.ensures.added
    (added_more (decimal c.args.inst) _ _ _ _ _ _ _ c.add_number-class.ensures.added c.add_class.ensures.added)
