use Rattle.std.proofs.Common.{◌∙◌, sym}
use Rattle.spv_declarations.proofs.Half.{in_part_tells}
use Rattle.spv_declarations.proofs.built_in.BuiltIns.is_in_part.Goals as goal

pub returns-then-contains : goal.returns-then-contains
returns-then-contains c = in_part_tells c.args.definitions.now c.args.self.now c.args.t c.member_count.result
    c.lacks_one.result c.member_count.ensures.members c.lacks_one.ensures (sym c.contains.ensures ∙ c.if-contains.true)
