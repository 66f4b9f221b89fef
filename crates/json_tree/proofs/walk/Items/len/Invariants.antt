use Rattle.std.proofs.Common.{◌≡◌, ◌+◌, ◌≤◌, length, drop, is_some, true}
use Rattle.json_tree.specs.View.{inside, items_left}
use Rattle.json_tree.proofs.walk.Items.len.Given as goal

abbrev pub invariant-items : goal.invariant-items
invariant-items l = record {
  whole : is_some (inside (drop l.place l.self-inside.nodes.now, l.left)) ≡ true;
  few : l.count ≤ l.place;
  counted : l.count + length (items_left (drop l.place l.self-inside.nodes.now, l.left)) ≡ length (items_left l.fn.self);
}

abbrev pub decreases-items : goal.decreases-items
decreases-items l = l.left
