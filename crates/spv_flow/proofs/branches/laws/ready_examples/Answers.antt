use Rattle.std.proofs.Common.{ℕ, subst, refl, arith}
use Rattle.spv_layout.specs.Place.{IsOfBlock}
use Rattle.spv_layout.proofs.Places.{block_same}
use Rattle.spv_flow.specs.branches.Broken.{Broken}
use Rattle.spv_flow.specs.branches.Example.{paired}
use Rattle.spv_flow.proofs.lemmas.branches.Worked.{leads, branch_at, first_block, has_parents, no_parents, missed}
use Rattle.spv_flow.proofs.lemmas.branches.Worked.{not_missing, local_7, not_local}
use Rattle.spv_flow.proofs.lemmas.branches.Extended.{argument_missed, mention_not_missed, id_not_missed}
use Rattle.spv_flow.proofs.branches.laws.ready_examples.Goals as goal

pub returns : goal.returns
returns c = record {
  predecessor = (2, leads);
  no_predecessor = λ (t, h). (let e = branch_at t h.target.branch in
      let f = block_same (paired 1) 2 3 1 (subst (λ (k : ℕ). IsOfBlock (paired 1) k 3) e h.of) first_block in
      omega (arith, f));
  parents = has_parents;
  no_parents = Broken.parents 4 refl no_parents;
  missing = Broken.missing 2 missed;
  not_missing = not_missing;
  argument = Broken.missing 2 argument_missed;
  mention = mention_not_missed;
  unseen = id_not_missed;
  local = local_7;
  not_local = not_local;
}
