use Rattle.std.proofs.Common.{[], ◌∷◌, ◌++◌, option_map, codes}
use Rattle.json_tree.specs.View.{view}
use Rattle.spv_grammar.proofs.Latest.{latest, one_done}
use Rattle.spv_grammar.proofs.read.members_by.Goals as goal

pub loop-key-preserved : goal.loop-key-preserved
loop-key-preserved c =
    let i = c.loop-key.invariant in
    let k = c.in-Some-2.key.now in
    let d = view c.in-Some-2.member in
    record {
      done = i.done ++ (k, d) ∷ [];
      whole = one_done c.into_iter-key-iterator.result c.loop-key.key-iterator c.next.new.self (k, d) i.done i.whole c.in-Some-2.ensures.steps;
      name = latest c.args.name_key.now k d i.done (option_map view c.loop-key.found.name) _ c.keep.ensures i.name;
      number = latest c.args.number_key.now k d i.done (option_map view c.loop-key.found.number) _ c.keep-in-loop-key.ensures i.number;
      operands = latest c.args.operands_key.now k d i.done (option_map view c.loop-key.found.operands) _ c.keep-in-loop-key-2.ensures i.operands;
      capabilities = latest (codes "capabilities") k d i.done (option_map view c.loop-key.found.capabilities) _ c.keep-in-loop-key-3.ensures i.capabilities;
    }
