use Rattle.std.proofs.Common.{[], ◌∷◌, ◌++◌, option_map, codes}
use Rattle.json_tree.specs.View.{view}
use Rattle.spv_grammar.proofs.Latest.{latest, one_done}
use Rattle.spv_grammar.proofs.read.operand_members.Goals as goal

pub loop-key-preserved : goal.loop-key-preserved
loop-key-preserved c =
    let i = c.loop-key.invariant in
    let k = c.in-Some-2.key.now in
    let d = view c.in-Some-2.member in
    record {
      done = i.done ++ (k, d) ∷ [];
      whole = one_done c.into_iter-key-iterator.result c.loop-key.key-iterator c.next.new.self (k, d) i.done i.whole c.in-Some-2.ensures.steps;
      kind = latest (codes "kind") k d i.done (option_map view c.loop-key.found.kind) _ c.keep.ensures i.kind;
      quantifier = latest (codes "quantifier") k d i.done (option_map view c.loop-key.found.quantifier) _ c.keep-in-loop-key.ensures i.quantifier;
    }
