use Rattle.spv_run.proofs.Moving.{entry_tells, no_entry_tells, has_entry, entry_in_list}
use Rattle.spv_run.proofs.Turns.{found}
use Rattle.spv_run.proofs.moves.call_by.Goals as goal

pub returns-in_default : goal.returns-in_default
returns-in_default c =
    λ is G bound x xs sound have d f. absurd
    (has_entry is c.args.entries.now c.args.function have G bound sound f c.in_default.ensures.lookup.3)

pub returns-then-label-eq0 : goal.returns-then-label-eq0
returns-then-label-eq0 c = λ is G bound x xs sound have d f.
    no_entry_tells is c.args.function c.in-Some.entry.now x xs
    (entry_in_list is c.args.entries.now c.args.function c.in-Some.entry.now have
    (found c.args.entries.now c.args.function c.in-Some.entry.now c.in-Some.ensures.lookup.3.0
    c.in-Some.ensures.lookup.1) G bound sound f)
    c.if-label-eq0.true d

pub returns-else-label-eq0 : goal.returns-else-label-eq0
returns-else-label-eq0 c = λ is G bound x xs sound have d f.
    entry_tells is c.args.function c.in-Some.entry.now x xs
    (entry_in_list is c.args.entries.now c.args.function c.in-Some.entry.now have
    (found c.args.entries.now c.args.function c.in-Some.entry.now c.in-Some.ensures.lookup.3.0
    c.in-Some.ensures.lookup.1) G bound sound f)
    c.if-label-eq0.false d
