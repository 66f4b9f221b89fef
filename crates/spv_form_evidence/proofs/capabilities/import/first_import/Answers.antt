use Rattle.std.proofs.Common.{◌≡◌, ◌<◌, ◌∙◌, Option, ℕ, Some, sym, ap, subst, length, arith, codes, refl}
use Rattle.std.proofs.lemmas.Bool.{iff_false}
use Rattle.std.proofs.lemmas.List.{length-map}
use Rattle.spv_table.specs.Lookups.{number_named}
use Rattle.spv_module.specs.Module.{plain_inst}
use Rattle.spv_layout.proofs.Misfits.{inst_there}
use Rattle.spv_capabilities.specs.Entry.{imported_by}
use Rattle.spv_form_evidence.proofs.lemmas.capabilities.Importing.{none_more, no_imports}
use Rattle.spv_form_evidence.proofs.capabilities.import.first_import.Goals as goal

pub returns-then-imports : goal.returns-then-imports
returns-then-imports c =
    let is = c.args.survey.now.insts in
    let i = c.index-insts-k.result in
    let l : c.loop-k.k < length c.args.insts.now = omega arith in
    let at = inst_there c.args.insts.now c.loop-k.k i l c.index-insts-k.is in
    let m = c.imports.ensures.0 c.if-imports.true in
    let link : c.kind_named-linkage.result ≡ number_named c.args.survey.now.table
    (codes "LinkageType") =
    c.kind_named-linkage.ensures ∙ ap (λ g. number_named g (codes "LinkageType")) c.table.ensures in
    let named = subst (λ (q : Option ℕ). imported_by q (plain_inst i) ≡ Some m.0) link m.1 in (
      record {
        place = c.loop-k.k;
        inst = plain_inst i;
        there = rw c.requires.surveyed at;
        id = m.0;
        named = named;
        defined = m.2;
      },
      refl,
    )

pub loop-k-preserved : goal.loop-k-preserved
loop-k-preserved c =
    let i = c.index-insts-k.result in
    let l : c.loop-k.k < length c.args.insts.now = omega arith in
    let at = inst_there c.args.insts.now c.loop-k.k i l c.index-insts-k.is in
    let never = iff_false c.imports.ensures c.if-imports.false in
    none_more c.args.survey.now.insts c.kind_named-linkage.result c.args.number c.loop-k.k
    (plain_inst i) c.loop-k.invariant (rw c.requires.surveyed at) never

pub unreachable-requires : goal.unreachable-requires
unreachable-requires c =
    let is = c.args.survey.now.insts in
    let a = c.requires.imported in
    let m = length-map c.args.insts.now plain_inst in
    let e = ap (λ js. length js) c.requires.surveyed in
    let link : c.kind_named-linkage.result ≡ number_named c.args.survey.now.table
    (codes "LinkageType") =
    c.kind_named-linkage.ensures ∙ ap (λ g. number_named g (codes "LinkageType")) c.table.ensures in
    let named = subst (λ (q : Option ℕ). imported_by q a.inst ≡ Some a.id) (sym link) a.named in
    no_imports c.args.survey.now.table is c.kind_named-linkage.result c.args.number c.loop-k.k a named
    (let t = c.loop-k-test.false in omega arith) c.loop-k.invariant
