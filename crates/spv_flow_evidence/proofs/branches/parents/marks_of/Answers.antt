use Rattle.std.proofs.Common.{◌≡◌, ◌∙◌, ℕ, List, Bool, false, drop, length, refl, ap, arith}
use Rattle.std.proofs.lemmas.List.{length-map}
use Rattle.spv_table.specs.Table.{Table}
use Rattle.spv_module.specs.Module.{plain_inst}
use Rattle.spv_flow.specs.declared.branches.code.Code.{Code}
use Rattle.spv_flow.specs.declared.branches.edges.Edges.{Edges}
use Rattle.spv_flow.specs.branches.inner.Code.{insts_of}
use Rattle.spv_flow.specs.branches.inner.Edges.{marked}
use Rattle.spv_flow.specs.branches.inner.Graph.{AreGathered}
use Rattle.spv_flow.proofs.lemmas.branches.Taking.{AreSources, sources, leads_within}
use Rattle.spv_flow_evidence.specs.branches.inner.Known.{AreMarks}
use Rattle.spv_flow_evidence.proofs.lemmas.branches.Naming.{written}
use Rattle.spv_flow_evidence.proofs.branches.parents.marks_of.Goals as goal

judged : (G : Table) (c : Code) (e : Edges) (block : ℕ) (marks : List Bool)
    → AreGathered G (insts_of c) e (length c.insts.now) → AreSources e block marks → AreMarks G (insts_of c) block marks
judged G c e block marks gathered from = record {
  sound = λ p m. gathered.sound p block (from.only p m);
  complete = λ p (t, leads). from.added p (gathered.complete t p block
      (omega (arith, leads_within G (insts_of c) t p block leads, length-map c.insts.now plain_inst)) leads);
}

pub returns-clause-marks : goal.returns-clause-marks
returns-clause-marks c = λ G is.
    let code = c.args.code.now in
    let e = c.in_ok-edges.edges in
    let items = c.in_ok-marks.marks.items in
    let new = c.mark.new.marks in
    let clean : (p : ℕ) → marked c.deref_mut.result.now p ≡ false = λ p. ap
    (λ ms. marked ms p) c.deref_mut.ensures.value ∙ c.in_ok-marks.ensures.clean p in
    let from = sources e c.args.block c.deref_mut.result.now new clean c.mark.ensures.added c.mark.ensures.only in
    let are = judged G code e c.args.block new (c.in_ok-edges.ensures.gathered refl G is) from in
    let count : c.in_ok-marks.marks.len ≡ length new = omega arith in
    rw (written c.in_ok-marks.marks.len new (drop (length new) items) count) are
