use Rattle.spv_inst.proofs.Kept.{ranked_put}
use Rattle.spv_inst.proofs.definitions.Definitions.put_far.Goals as goal

pub returns-in-Some-clause-latest : goal.returns-in-Some-clause-latest
returns-in-Some-clause-latest c = λ x.
    ranked_put c.args.self.now.near.items c.args.self.now.ranked.items c.args.self.now.ranks c.args.id c.in-Some.place x
    c.args.definition _ c.requires.past c.in-Some.ensures.0 c.in-Some.ensures.1
