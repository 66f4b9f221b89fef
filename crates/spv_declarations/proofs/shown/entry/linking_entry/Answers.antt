use Rattle.std.proofs.Common.{arith}
use Rattle.spv_declarations.proofs.Showing.{linked_within, some_entry, entry_of}
use Rattle.spv_declarations.proofs.shown.entry.linking_entry.Goals as goal

pub inst-requires : goal.inst-requires
inst-requires c = linked_within c.args.definitions.now c.args.inst c.requires.broken

pub first_entry-requires-clause-entered : goal.first_entry-requires-clause-entered
first_entry-requires-clause-entered c = some_entry c.args.definitions.now c.args.inst _ c.in_ok-functions.functions
    c.inst.ensures c.requires.broken c.in_ok-functions.ensures

pub returns : goal.returns
returns c = entry_of c.args.definitions.now c.args.inst c.first_entry.result _ c.in_ok-functions.functions
    c.inst.ensures c.requires.broken c.in_ok-functions.ensures c.first_entry.ensures
