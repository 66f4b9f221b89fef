use Rattle.std.proofs.Common.{◌≡◌, ◌<◌, ℕ, List, Bool, true, false, length, refl, subst}
use Rattle.std.specs.Prelude.{MatchBool}
use Rattle.std.proofs.lemmas.Bool.{both_ways}
use Rattle.spv_table.specs.Table.{Table}
use Rattle.spv_flow.specs.declared.branches.code.Code.{Code}
use Rattle.spv_flow.specs.branches.inner.Code.{insts_of, IsCode}
use Rattle.spv_flow.specs.branches.inner.Edges.{marked}
use Rattle.spv_flow.specs.branches.inner.Graph.{AreEntries}
use Rattle.spv_flow.specs.branches.Target.{IsLabelOf, IsEntryLabel}
use Rattle.spv_flow.proofs.lemmas.branches.Labelled.{one_place}
use Rattle.spv_flow_evidence.specs.branches.inner.Known.{IsEntryId}
use Rattle.spv_flow_evidence.proofs.branches.labels.is_entry.Goals as goal

judged : (G : Table) (c : Code) (marks : List Bool) (x t : ℕ) (b : Bool) → marked marks t ≡ b → IsCode G c
    → AreEntries (insts_of c) marks (length c.insts.now) → t < length c.insts.now → IsLabelOf (insts_of c) x t
    → MatchBool b (IsEntryId (insts_of c) x) (¬ (IsEntryId (insts_of c) x))
judged G c marks x t true e is are within label = record { place = t; defined = label.defined; entry = are.sound t e }
judged G c marks x t false e is are within label = λ h.
    let same = one_place G c x h.place t is h.defined label.defined in
    both_ways (marked marks t) e (are.complete t within (subst (λ (k : ℕ). IsEntryLabel (insts_of c) k) same h.entry))

pub returns-in-Some : goal.returns-in-Some
returns-in-Some c = λ G is.
    let t = c.in-Some.target in
    judged G c.args.code.now c.args.entries.now c.args.id t
    (marked c.args.entries.now t) refl is c.requires.entries c.in-Some.ensures.within (c.in-Some.ensures.label G is)

pub returns-in-None : goal.returns-in-None
returns-in-None c = λ G is h. c.in-None.ensures.label G is h.place
    (record { defined = h.defined; label = h.entry.label })
