use Rattle.std.proofs.Common.{◌∙◌, drop, subst, sym}
use Rattle.spv_module.specs.Module.{plain_insts}
use Rattle.spv_check.specs.Judged.{IsJudged}
use Rattle.spv_check.specs.Reading.{IsReading}
use Rattle.spv_check.proofs.Judgments.{valid_answer}
use Rattle.spv_explain.proofs.Readings.{broken_reading}
use Rattle.spv_explain.proofs.reading.explained_of.Goals as goal

pub judge-requires-clause-words : goal.judge-requires-clause-words
judge-requires-clause-words c =
    (c.args.image.now, record { reading = c.in-Ok.ensures.found; bound = c.in-Ok.ensures.header.bound })

pub returns-in-Valid : goal.returns-in-Valid
returns-in-Valid c =
    let G = c.args.table.now in
    let reach = c.args.reach in
    let m = c.in-Ok.module in
    let j = subst (λ j. IsJudged G reach m.header.bound (plain_insts m) j) c.in-Valid.is c.in_ok-checked.ensures in
    valid_answer G reach c.args.image.now m c.in-Valid.checked c.in-Ok.ensures.header c.in-Ok.ensures.found j

pub shown_and_spelled-requires-clause-words : goal.shown_and_spelled-requires-clause-words
shown_and_spelled-requires-clause-words c =
    let G = c.args.table.now in
    let reach = c.args.reach in
    let m = c.in-Ok.module in
    let j = subst (λ j. IsJudged G reach m.header.bound (plain_insts m) j) c.in-Broken.is c.in_ok-checked.ensures in
    rw j.same_insts c.in-Ok.ensures.short

pub shown_and_spelled-requires-clause-refused : goal.shown_and_spelled-requires-clause-refused
shown_and_spelled-requires-clause-refused c =
    let G = c.args.table.now in
    let reach = c.args.reach in
    let m = c.in-Ok.module in
    let j = subst (λ j. IsJudged G reach m.header.bound (plain_insts m) j) c.in-Broken.is c.in_ok-checked.ensures in
    rw (j.same_bound, j.same_insts) j.refused

pub shown_and_spelled-requires-clause-told : goal.shown_and_spelled-requires-clause-told
shown_and_spelled-requires-clause-told c =
    let G = c.args.table.now in
    let reach = c.args.reach in
    let m = c.in-Ok.module in
    let j = subst (λ j. IsJudged G reach m.header.bound (plain_insts m) j) c.in-Broken.is c.in_ok-checked.ensures in
    rw (j.same_bound, j.same_insts) j.told

pub shown_and_spelled-requires-clause-read : goal.shown_and_spelled-requires-clause-read
shown_and_spelled-requires-clause-read c =
    let G = c.args.table.now in
    let reach = c.args.reach in
    let m = c.in-Ok.module in
    let j = subst (λ j. IsJudged G reach m.header.bound (plain_insts m) j) c.in-Broken.is c.in_ok-checked.ensures in
    record {
      reading = subst (λ is. IsReading G reach is (drop 5 c.args.image.now)) (sym j.same_insts) c.in-Ok.ensures.found;
      bound = j.same_bound ∙ c.in-Ok.ensures.header.bound;
    }

pub returns-in_ok-evidence-in-Broken : goal.returns-in_ok-evidence-in-Broken
returns-in_ok-evidence-in-Broken c =
    let G = c.args.table.now in
    let reach = c.args.reach in
    let m = c.in-Ok.module in
    let j = subst (λ j. IsJudged G reach m.header.bound (plain_insts m) j) c.in-Broken.is c.in_ok-checked.ensures in
    broken_reading c.one_listing.ensures G reach c.args.image.now m c.in-Broken.module _ c.in-Broken.fault _ _
    c.in-Ok.ensures.header
    c.in-Ok.ensures.found j c.in_ok-evidence-in-Broken.ensures.shown
    c.in_ok-evidence-in-Broken.ensures.listing c.in_ok-evidence-in-Broken.ensures.header
