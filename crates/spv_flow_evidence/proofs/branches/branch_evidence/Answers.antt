use Rattle.std.proofs.lemmas.Result.{IfOk-weaker}
use Rattle.spv_table.specs.Table.{Table}
use Rattle.spv_module.specs.Module.{plain_inst, plain_insts}
use Rattle.spv_module.specs.declared.fault.Rule.TheVariants.{F1, F2, F3}
use Rattle.spv_flow.specs.declared.branches.code.Code.{Code}
use Rattle.spv_flow.specs.branches.inner.Code.{insts_of, IsCode}
use Rattle.spv_flow.specs.declared.branches.fork.Fork.TheVariants.{Free}
use Rattle.spv_flow_evidence.specs.branches.Evidence.{IsEvidence}
use Rattle.spv_flow_evidence.proofs.lemmas.branches.Known.{known_code, known_broken, found, definitions}
use Rattle.spv_flow_evidence.proofs.lemmas.branches.Rules.{lacking, entering, parentless}
use Rattle.spv_flow_evidence.proofs.branches.branch_evidence.Goals as goal
use Rattle.std.proofs.Common.{map, subst, sym, List}
use Rattle.spv_module.specs.declared.module.Inst.{Inst}
use Rattle.spv_flow_evidence.specs.branches.inner.Known.{KeepsDefinitions}

pub label_evidence-requires-clause-defined : goal.label_evidence-requires-clause-defined
label_evidence-requires-clause-defined c =
    let code : Code = record { insts = c.as_slice.result; plan = c.args.plan; ids = c.args.ids } in
    let v = c.as_slice.ensures.value in
    let k = c.requires.known in
    let m = c.args.module.now in
    let has = subst (λ (xs : List Inst). KeepsDefinitions k.0 (map plain_inst xs) c.args.inst) (sym v)
    (definitions k.0 m.header.bound (plain_insts m) c.args.inst k.2.unbroken) in
    (k.0, known_code k.0 code m.insts.items v c.requires.words k.1 k.2.each, has)

pub label_evidence-requires-clause-broken : goal.label_evidence-requires-clause-broken
label_evidence-requires-clause-broken c =
    let code : Code = record { insts = c.as_slice.result; plan = c.args.plan; ids = c.args.ids } in
    let v = c.as_slice.ensures.value in
    let items = c.args.module.now.insts.items in
    let f = c.requires.first in
    let b = known_broken f.0 f.1 code items c.args.rule c.args.inst v f.3 in (
      f.1,
      known_code f.1 code items v c.requires.words f.2 c.requires.known.2.each,
      (lacking f.0 f.1 (insts_of code) c.args.rule c.args.inst b.broken c.in-F1.is).1,
    )

pub entry_evidence-requires-clause-at : goal.entry_evidence-requires-clause-at
entry_evidence-requires-clause-at c =
    let code : Code = record { insts = c.as_slice.result; plan = c.args.plan; ids = c.args.ids } in
    let f = c.requires.first in
    (known_broken f.0 f.1 code c.args.module.now.insts.items c.args.rule c.args.inst c.as_slice.ensures.value
    f.3).within

pub entry_evidence-requires-clause-op : goal.entry_evidence-requires-clause-op
entry_evidence-requires-clause-op c =
    let code : Code = record { insts = c.as_slice.result; plan = c.args.plan; ids = c.args.ids } in
    let f = c.requires.first in
    let b = known_broken f.0 f.1 code c.args.module.now.insts.items c.args.rule c.args.inst c.as_slice.ensures.value
    f.3 in
    (entering f.0 f.1 (insts_of code) c.args.rule c.args.inst b.broken c.in-F2.is).0

pub entry_evidence-requires-clause-broken : goal.entry_evidence-requires-clause-broken
entry_evidence-requires-clause-broken c =
    let code : Code = record { insts = c.as_slice.result; plan = c.args.plan; ids = c.args.ids } in
    let v = c.as_slice.ensures.value in
    let items = c.args.module.now.insts.items in
    let f = c.requires.first in
    let b = known_broken f.0 f.1 code items c.args.rule c.args.inst v f.3 in (
      f.1,
      known_code f.1 code items v c.requires.words f.2 c.requires.known.2.each,
      (entering f.0 f.1 (insts_of code) c.args.rule c.args.inst b.broken c.in-F2.is).1,
    )

pub parents_evidence-requires-clause-at : goal.parents_evidence-requires-clause-at
parents_evidence-requires-clause-at c =
    let code : Code = record { insts = c.as_slice.result; plan = c.args.plan; ids = c.args.ids } in
    let f = c.requires.first in
    (known_broken f.0 f.1 code c.args.module.now.insts.items c.args.rule c.args.inst c.as_slice.ensures.value
    f.3).within

pub parents_evidence-requires-clause-broken : goal.parents_evidence-requires-clause-broken
parents_evidence-requires-clause-broken c =
    let code : Code = record { insts = c.as_slice.result; plan = c.args.plan; ids = c.args.ids } in
    let v = c.as_slice.ensures.value in
    let items = c.args.module.now.insts.items in
    let f = c.requires.first in
    let b = known_broken f.0 f.1 code items c.args.rule c.args.inst v f.3 in (
      f.1,
      known_code f.1 code items v c.requires.words f.2 c.requires.known.2.each,
      (parentless f.0 f.1 (insts_of code) c.args.rule c.args.inst b.broken c.in-F3.is).1,
    )

pub returns-in-F1 : goal.returns-in-F1
returns-in-F1 c = λ fork G plan first.
    let code : Code = record { insts = c.as_slice.result; plan = c.args.plan; ids = c.args.ids } in
    let v = c.as_slice.ensures.value in
    let items = c.args.module.now.insts.items in
    let is = known_code G code items v c.requires.words plan c.requires.known.2.each in
    found fork G code items c.args.rule F1 c.args.inst c.label_evidence.result v c.in-F1.is
    (c.label_evidence.ensures G is)

pub returns-in_ok-survey-in-F2 : goal.returns-in_ok-survey-in-F2
returns-in_ok-survey-in-F2 c = λ fork G plan first.
    let code : Code = record { insts = c.as_slice.result; plan = c.args.plan; ids = c.args.ids } in
    let v = c.as_slice.ensures.value in
    let items = c.args.module.now.insts.items in
    let is = known_code G code items v c.requires.words plan c.requires.known.2.each in
    found fork G code items c.args.rule F2 c.args.inst c.entry_evidence.result v c.in-F2.is
    (c.entry_evidence.ensures G is)

pub returns-in-F3 : goal.returns-in-F3
returns-in-F3 c = λ fork G plan first.
    let code : Code = record { insts = c.as_slice.result; plan = c.args.plan; ids = c.args.ids } in
    let v = c.as_slice.ensures.value in
    let items = c.args.module.now.insts.items in
    let is = known_code G code items v c.requires.words plan c.requires.known.2.each in
    IfOk-weaker c.parents_evidence.result (λ e. (H : Table) → IsCode H code
    → IsEvidence Free H (insts_of code) F3 c.args.inst e)
    (λ e. IsEvidence fork G (plain_insts c.args.module.now) c.args.rule c.args.inst e)
    (λ e h. found fork G code items c.args.rule F3 c.args.inst e v c.in-F3.is (h G is)) c.parents_evidence.ensures
