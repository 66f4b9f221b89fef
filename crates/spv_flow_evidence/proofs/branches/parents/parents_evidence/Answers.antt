use Rattle.std.proofs.Common.{◌≡◌, ◌∙◌, ℕ, true, None, drop, length, sym, ap, arith}
use Rattle.std.proofs.lemmas.Grind.{common_steps}
use Rattle.spv_flow.specs.branches.inner.Code.{insts_of}
use Rattle.spv_flow.specs.branches.inner.Edges.{marked}
use Rattle.spv_flow_evidence.specs.branches.inner.Known.{AreMarks, HasNames, name_of}
use Rattle.spv_flow_evidence.proofs.lemmas.branches.Blocks.{phi_block}
use Rattle.spv_flow_evidence.specs.branches.Evidence.{ArePredecessors}
use Rattle.spv_flow_evidence.proofs.lemmas.branches.Marked.{are_predecessors}
use Rattle.spv_flow_evidence.proofs.lemmas.branches.Naming.{written, parents, missing}
use Rattle.spv_flow_evidence.proofs.branches.parents.parents_evidence.Goals as goal

pub unreachable-requires : goal.unreachable-requires
unreachable-requires c =
    let p = c.requires.broken in
    let L = insts_of c.args.code.now in
    let block = phi_block L c.args.at p.1.plan.layout c.requires.op in
    c.in_default.ensures.block p.0 p.1 c.requires.at block.0 block.1

pub marks_of-requires-clause-block : goal.marks_of-requires-clause-block
marks_of-requires-clause-block c = let p = c.requires.broken in c.in-Some.ensures.within p.0 p.1 c.requires.at

pub returns-in-Some-wrong_pair : goal.returns-in-Some-wrong_pair
returns-in-Some-wrong_pair c = λ G is.
    let L = insts_of c.args.code.now in
    let are : AreMarks G L c.in-Some.block c.deref-2.result.now = rw c.deref-2.ensures.value
    (c.in_ok-marks.ensures.marks G is) in
    let first : AreMarks G L c.in-Some.block c.deref.result.now = rw c.deref.ensures.value
    (c.in_ok-marks.ensures.marks G is) in
    let all : ArePredecessors G L c.in-Some.block c.from_vec-predecessors.result = rw
    (c.from_vec-predecessors.ensures, c.in_ok-blocks.ensures)
    (are_predecessors G L c.in-Some.block c.deref.result.now first) in
    rw c.told.ensures (c.in-Some-wrong_pair.ensures G c.in-Some.block is
    (c.in-Some.ensures.block G is c.requires.at) are c.from_vec-predecessors.result all)

pub unreachable-requires-in_default-unnamed : goal.unreachable-requires-in_default-unnamed
unreachable-requires-in_default-unnamed c =
    let q = c.requires.broken in
    let G = q.0 in
    let is = q.1 in
    let L = insts_of c.args.code.now in
    let block = c.in-Some.block in
    let marks = c.deref-2.result.now in
    let names = c.wrong_pair.new.names in
    let of = c.in-Some.ensures.block G is c.requires.at in
    let are : AreMarks G L block marks = rw c.deref-2.ensures.value (c.in_ok-marks.ensures.marks G is) in
    let has : HasNames G L c.args.at marks names = c.in_default-wrong_pair.ensures G block is of are in
    let same_marks : marks ≡ c.deref-3.result.now = c.deref-2.ensures.value ∙ sym c.deref-3.ensures.value in
    let count : c.in_ok-names.names.len ≡ length names = omega arith in
    let same_names : c.deref-4.result.now ≡ names = c.deref-4.ensures.value
    ∙ written c.in_ok-names.names.len names (drop (length names) c.in_ok-names.names.items) count in
    let all : (p : ℕ) → marked marks p ≡ true → ¬ (name_of names p ≡ None) = λ p m none.
    c.in_default-unnamed.ensures p (ap (λ ms. marked ms p) (sym same_marks) ∙ m)
    (ap (λ ns. name_of ns p) same_names ∙ none) in
    q.2 (parents G L c.args.at block marks names of are has all)

pub returns : goal.returns
returns c = λ G is.
    let L = insts_of c.args.code.now in
    let block = c.in-Some.block in
    let marks = c.deref-2.result.now in
    let names = c.wrong_pair.new.names in
    let p = c.in-Some-unnamed.block in
    let of = c.in-Some.ensures.block G is c.requires.at in
    let are : AreMarks G L block marks = rw c.deref-2.ensures.value (c.in_ok-marks.ensures.marks G is) in
    let has : HasNames G L c.args.at marks names = c.in_default-wrong_pair.ensures G block is of are in
    let same_marks : marks ≡ c.deref-3.result.now = c.deref-2.ensures.value ∙ sym c.deref-3.ensures.value in
    let count : c.in_ok-names.names.len ≡ length names = omega arith in
    let same_names : c.deref-4.result.now ≡ names = c.deref-4.ensures.value
    ∙ written c.in_ok-names.names.len names (drop (length names) c.in_ok-names.names.items) count in
    let found : (marked c.deref-3.result.now p ≡ true)
    × (name_of c.deref-4.result.now p ≡ None) = c.in-Some-unnamed.ensures in
    let first : AreMarks G L block c.deref.result.now = rw c.deref.ensures.value (c.in_ok-marks.ensures.marks G is) in
    let all : ArePredecessors G L block c.from_vec-predecessors.result = rw
    (c.from_vec-predecessors.ensures, c.in_ok-blocks.ensures)
    (are_predecessors G L block c.deref.result.now first) in
    missing G L c.args.at block marks names p c.requires.op of are has (ap (λ ms. marked ms p) same_marks ∙ found.0)
    (ap (λ ns. name_of ns p) (sym same_names) ∙ found.1) c.from_vec-predecessors.result all

pub wrong_pair-requires-clause-marks : goal.wrong_pair-requires-clause-marks
wrong_pair-requires-clause-marks c = grind (arith, common_steps)

pub wrong_pair-requires-clause-names : goal.wrong_pair-requires-clause-names
wrong_pair-requires-clause-names c = grind (arith, common_steps)

pub unnamed-requires-clause-few : goal.unnamed-requires-clause-few
unnamed-requires-clause-few c = grind (arith, common_steps)

pub unnamed-requires-clause-count : goal.unnamed-requires-clause-count
unnamed-requires-clause-count c = grind (arith, common_steps)

pub marked_blocks-requires : goal.marked_blocks-requires
marked_blocks-requires c = grind (arith, common_steps)
