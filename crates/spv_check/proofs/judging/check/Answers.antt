use Rattle.std.proofs.Common.{subst}
use Rattle.spv_module.specs.Module.{plain_insts}
use Rattle.spv_check.specs.Judged.{IsJudged}
use Rattle.spv_check.specs.declared.checked.Verdict.TheVariants.{Fault}
use Rattle.spv_check.proofs.Checks.{dead_answer, exactly, exactly_ok}
use Rattle.spv_check.proofs.Judgments.{broken_answer, valid_answer}
use Rattle.spv_check.proofs.Verdicts.{Laws, valid_of}
use Rattle.spv_check.proofs.judging.check.Goals as goal

pub returns-in-Err-clause-verdict : goal.returns-in-Err-clause-verdict
returns-in-Err-clause-verdict c =
    dead_answer c.args.table.now c.args.reach c.args.image.now c.in-Err.stop _ c.stopped.ensures c.in-Err.ensures.dead

pub returns-in-Err-clause-exactly : goal.returns-in-Err-clause-exactly
returns-in-Err-clause-exactly c = λ bytes order h.
    let laws : Laws = record {
      words = c.one_word_list.ensures.order;
      once = c.one_refusal.ensures.once;
      never = c.one_refusal.ensures.never;
      death = c.one_death.ensures;
      alive = c.listed_or_dead.ensures;
      list = c.one_listing.ensures;
    } in
    exactly_ok laws c.args.table.now c.args.reach bytes c.args.image.now order _ h
    (dead_answer c.args.table.now c.args.reach c.args.image.now c.in-Err.stop _ c.stopped.ensures
    c.in-Err.ensures.dead)

pub judge-requires-clause-words : goal.judge-requires-clause-words
judge-requires-clause-words c =
    (c.args.image.now, record { reading = c.in-Ok.ensures.found; bound = c.in-Ok.ensures.header.bound })

pub returns-in-Valid-clause-verdict : goal.returns-in-Valid-clause-verdict
returns-in-Valid-clause-verdict c =
    let G = c.args.table.now in
    let m = c.in-Ok.module in
    let j = subst (λ j. IsJudged G c.args.reach m.header.bound (plain_insts m) j) c.in-Valid.is c.in_ok-checked.ensures
    in
    valid_answer G c.args.reach c.args.image.now m c.in-Valid.checked c.in-Ok.ensures.header c.in-Ok.ensures.found j

pub returns-in-Valid-clause-exactly : goal.returns-in-Valid-clause-exactly
returns-in-Valid-clause-exactly c = λ bytes order h.
    let G = c.args.table.now in
    let m = c.in-Ok.module in
    let j = subst (λ j. IsJudged G c.args.reach m.header.bound (plain_insts m) j) c.in-Valid.is c.in_ok-checked.ensures
    in
    let a = valid_answer G c.args.reach c.args.image.now m c.in-Valid.checked c.in-Ok.ensures.header
    c.in-Ok.ensures.found j in
    (λ t. valid_of G c.args.reach bytes c.args.image.now order c.in-Valid.checked h a, λ v. tt)

pub returns-clause-verdict : goal.returns-clause-verdict
returns-clause-verdict c =
    let G = c.args.table.now in
    let m = c.in-Ok.module in
    let j = subst (λ j. IsJudged G c.args.reach m.header.bound (plain_insts m) j) c.in-Broken.is c.in_ok-checked.ensures
    in
    broken_answer G c.args.reach c.args.image.now m _ c.in-Broken.fault _ c.in-Ok.ensures.header c.in-Ok.ensures.found j

pub returns-clause-exactly : goal.returns-clause-exactly
returns-clause-exactly c = λ bytes order h.
    let laws : Laws = record {
      words = c.one_word_list.ensures.order;
      once = c.one_refusal.ensures.once;
      never = c.one_refusal.ensures.never;
      death = c.one_death.ensures;
      alive = c.listed_or_dead.ensures;
      list = c.one_listing.ensures;
    } in
    let G = c.args.table.now in
    let m = c.in-Ok.module in
    let j = subst (λ j. IsJudged G c.args.reach m.header.bound (plain_insts m) j) c.in-Broken.is c.in_ok-checked.ensures
    in
    let a = broken_answer G c.args.reach c.args.image.now m _ c.in-Broken.fault _ c.in-Ok.ensures.header
    c.in-Ok.ensures.found j in
    exactly laws G c.args.reach bytes c.args.image.now order (Fault c.in-Broken.fault) h a
