use Rattle.spv_explain.proofs.Readings.{answered, shown, shown_dead, spelled_out}
use Rattle.spv_explain.proofs.reading.explain.Goals as goal

pub returns-clause-verdict : goal.returns-clause-verdict
returns-clause-verdict c = answered c.args.table.now c.args.reach c.args.image.now _ c.explained_of.ensures

pub returns-clause-shown : goal.returns-clause-shown
returns-clause-shown c =
    shown c.one_listing.ensures c.listed_or_dead.ensures c.args.table.now c.args.reach c.args.image.now _
    c.explained_of.ensures

pub returns-clause-dead : goal.returns-clause-dead
returns-clause-dead c = shown_dead c.args.table.now c.args.reach c.args.image.now _ c.explained_of.ensures

pub returns-clause-spelled : goal.returns-clause-spelled
returns-clause-spelled c = spelled_out c.args.table.now c.args.reach c.args.image.now _ c.explained_of.ensures
