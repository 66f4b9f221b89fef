use Rattle.std.proofs.Common.{◌≡◌, Option, drop, subst}
use Rattle.std.proofs.lemmas.Result.{err_from_is_err_and}
use Rattle.spv_module.specs.Module.{plain_insts}
use Rattle.spv_module.specs.declared.module.Module.{Module}
use Rattle.spv_explain.specs.Stream.{IsModuleIn}
use Rattle.spv_views.specs.declared.view.ViewError.TheVariants.{NoFunction, SeveralFunctions}
use Rattle.spv_views.proofs.Viewings.{lacking, mislaid_line, module_viewed, several, short, spelled}
use Rattle.spv_views.proofs.viewing.viewed_told.Goals as goal

pub viewed_unlisted-requires : goal.viewed_unlisted-requires
viewed_unlisted-requires c =
    subst (λ (m : Option Module). IsModuleIn c.args.table.now c.args.image.now m) c.in_default.is c.requires.read

pub returns-then-is_mislaid-clause-viewed : goal.returns-then-is_mislaid-clause-viewed
returns-then-is_mislaid-clause-viewed c = λ bytes order h x.
    mislaid_line c.args.how c.args.table.now c.args.reach c.args.function bytes c.args.told.now.explanation x.explains
    (c.is_mislaid.ensures.mislaid c.if-is_mislaid.true)

pub returns-in_err-id-clause-stranger : goal.returns-in_err-id-clause-stranger
returns-in_err-id-clause-stranger c = λ bytes order h x e.
    let words = c.args.image.now in
    let l = subst (λ (m : Option Module). IsModuleIn c.args.table.now words m) c.in-Some.is c.requires.read in
    let p = err_from_is_err_and c.from_residual.result c.from_residual.ensures.1 in
    let r = rw (p.1, p.2) at e in
    let same : c.in_err-id.field-0.0 ≡ NoFunction = cc in
    lacking c.args.table.now c.args.reach c.args.function bytes words order c.args.told.now.explanation c.in-Some.module _ h l x.explains
    (c.is_mislaid.ensures.laid c.if-is_mislaid.false) c.in_err-id.ensures.why same

pub returns-in_err-id-clause-several : goal.returns-in_err-id-clause-several
returns-in_err-id-clause-several c = λ bytes order h x e.
    let words = c.args.image.now in
    let l = subst (λ (m : Option Module). IsModuleIn c.args.table.now words m) c.in-Some.is c.requires.read in
    let p = err_from_is_err_and c.from_residual.result c.from_residual.ensures.1 in
    let r = rw (p.1, p.2) at e in
    let same : c.in_err-id.field-0.0 ≡ SeveralFunctions = cc in
    several c.args.table.now c.args.reach c.args.function bytes words order c.args.told.now.explanation c.in-Some.module _ h l x.explains
    (c.is_mislaid.ensures.laid c.if-is_mislaid.false) c.in_err-id.ensures.why same

pub text_of-requires-clause-spelled : goal.text_of-requires-clause-spelled
text_of-requires-clause-spelled c =
    let r = c.requires in
    let words = c.args.image.now in
    let l = subst (λ (m : Option Module). IsModuleIn c.args.table.now words m) c.in-Some.is r.read in
    spelled c.args.table.now words c.in-Some.module r.small l

pub text_of-requires-clause-words : goal.text_of-requires-clause-words
text_of-requires-clause-words c =
    let r = c.requires in
    let words = c.args.image.now in
    let l = subst (λ (m : Option Module). IsModuleIn c.args.table.now words m) c.in-Some.is r.read in
    short words (plain_insts c.in-Some.module) r.size
    (c.word_counts.ensures c.args.table.now (plain_insts c.in-Some.module) (drop 5 words) l.listing)

pub returns-clause-viewed : goal.returns-clause-viewed
returns-clause-viewed c = λ bytes order h x.
    let words = c.args.image.now in
    let m = c.in-Some.module in
    let l = subst (λ (m : Option Module). IsModuleIn c.args.table.now words m) c.in-Some.is c.requires.read in
    let s = (c.shown_reads_back.ensures.shown c.args.table.now m.header (plain_insts m) (drop 5 words) l.listing).1 in
    module_viewed c.args.how c.args.table.now c.args.reach c.args.function c.in_ok-id.id bytes words order
    c.args.told.now.explanation c.args.told.now.walk.items m _ h l x.explains x.walks
    (c.is_mislaid.ensures.laid c.if-is_mislaid.false)
    c.in_ok-id.ensures.part (c.in_ok-text.ensures s.lines s.shown)
