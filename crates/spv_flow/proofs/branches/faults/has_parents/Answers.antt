use Rattle.std.proofs.Common.{◌≡◌, ◌<◌, ℕ, Bool, true, false, List, length, arith}
use Rattle.std.specs.Prelude.{not, IsTrue, MatchBool}
use Rattle.std.proofs.lemmas.List.{length-map}
use Rattle.spv_table.specs.Table.{Table}
use Rattle.spv_module.specs.Operand.{PlainInst}
use Rattle.spv_module.specs.Module.{plain_inst}
use Rattle.spv_layout.specs.Place.{IsOfBlock}
use Rattle.spv_flow.specs.declared.branches.edges.Edges.{Edges}
use Rattle.spv_flow.specs.declared.branches.code.Code.{Code}
use Rattle.spv_flow.specs.branches.inner.Code.{insts_of}
use Rattle.spv_flow.specs.branches.inner.Edges.{HasEdge, marked}
use Rattle.spv_flow.specs.branches.inner.Graph.{AreGathered, Takes}
use Rattle.spv_flow.specs.branches.Target.{HasParents, LeadsToBlock}
use Rattle.spv_flow.proofs.lemmas.branches.Taking.{AreSources, sources, parents, clean_after, not_taken, not_named}
use Rattle.spv_flow.proofs.lemmas.branches.Taking.{leads_within}
use Rattle.spv_flow.proofs.branches.faults.has_parents.Goals as goal

count_within : (G : Table) (code : Code) (t p b : ℕ) → LeadsToBlock G (insts_of code) t p b → t < length code.insts.now
count_within G code t p b leads =
    omega (arith, leads_within G (insts_of code) t p b leads, length-map code.insts.now plain_inst)

judged : (G : Table) (is : List PlainInst) (count : ℕ) (e : Edges) (at block : ℕ) (marks left : List Bool) (r : Bool)
    → ((t p b : ℕ) → LeadsToBlock G is t p b → t < count) → AreGathered G is e count → IsOfBlock is at block
    → AreSources e block marks → Takes G is at marks left
    → MatchBool r ((p : ℕ) × HasEdge e p block × (marked left p ≡ true))
    ((p : ℕ) → HasEdge e p block → marked left p ≡ false)
    → MatchBool (not r) (HasParents G is at) (¬ (HasParents G is at))
judged G is count e at block marks left true within gathered of from takes (p, edge, m) =
    not_named G is count e at block p marks left gathered of takes edge m
judged G is count e at block marks left false within gathered of from takes none =
    parents G is count e at block marks left within gathered of from takes none

cleaned : (G : Table) (is : List PlainInst) (e : Edges) (at block : ℕ) (marks left : List Bool) (r : Bool)
    → AreSources e block marks → Takes G is at marks left
    → MatchBool r ((p : ℕ) × HasEdge e p block × (marked left p ≡ true))
    ((p : ℕ) → HasEdge e p block → marked left p ≡ false) → IsTrue (not r) → (p : ℕ) → marked left p ≡ false
cleaned G is e at block marks left true from takes h t = absurd (cc)
cleaned G is e at block marks left false from takes none t = clean_after G is e at block marks left from takes none

pub returns-in_default-clause-parents : goal.returns-in_default-clause-parents
returns-in_default-clause-parents c = λ G is h. c.in_default.ensures.block G is c.requires.at h.block h.of

pub mark-requires-clause-target : goal.mark-requires-clause-target
mark-requires-clause-target c = let p = c.requires.code in
    omega (arith, c.in-Some.ensures.within p.0 p.1 c.requires.at, c.requires.count)

pub has_marked-requires-clause-target : goal.has_marked-requires-clause-target
has_marked-requires-clause-target c = let p = c.requires.code in
    omega (arith, c.in-Some.ensures.within p.0 p.1 c.requires.at, c.requires.count)

pub returns-then-not-take_parents-clause-parents : goal.returns-then-not-take_parents-clause-parents
returns-then-not-take_parents-clause-parents c = λ G is.
    let code = c.args.code.now in
    let e = c.args.edges.now in
    let from = sources e c.in-Some.block c.args.marks.now c.mark.new.marks c.requires.clean c.mark.ensures.added
    c.mark.ensures.only in
    not_taken G (insts_of code) (length code.insts.now) e c.args.at c.in-Some.block c.mark.new.marks
    (count_within G code) (c.requires.gathered G is) (c.in-Some.ensures.block G is c.requires.at) from
    (c.if-not-take_parents.ensures G is)

pub returns-clause-clean : goal.returns-clause-clean
returns-clause-clean c =
    let p = c.requires.code in
    let code = c.args.code.now in
    let e = c.args.edges.now in
    let from = sources e c.in-Some.block c.args.marks.now c.mark.new.marks c.requires.clean c.mark.ensures.added
    c.mark.ensures.only in
    cleaned p.0 (insts_of code) e c.args.at c.in-Some.block c.mark.new.marks c.take_parents.new.marks
    c.has_marked.result from (c.if-not-take_parents.ensures p.0 p.1) c.has_marked.ensures

pub returns-clause-parents : goal.returns-clause-parents
returns-clause-parents c = λ G is.
    let code = c.args.code.now in
    let e = c.args.edges.now in
    let from = sources e c.in-Some.block c.args.marks.now c.mark.new.marks c.requires.clean c.mark.ensures.added
    c.mark.ensures.only in
    judged G (insts_of code) (length code.insts.now) e c.args.at c.in-Some.block c.mark.new.marks
    c.take_parents.new.marks c.has_marked.result (count_within G code) (c.requires.gathered G is)
    (c.in-Some.ensures.block G is c.requires.at) from
    (c.if-not-take_parents.ensures G is) c.has_marked.ensures
