use Rattle.std.proofs.Common.{arith, drop, length-drop, option_map, subst}
use Rattle.spv_module.specs.Module.{plain_insts}
use Rattle.spv_explain.specs.inner.Reading.{IsExplained}
use Rattle.spv_explain.proofs.Objects.{broken_explained, dead_explained, valid_explained}
use Rattle.spv_explain.proofs.Tellings.{few_insts}
use Rattle.spv_explain.proofs.answers.explained_answer.Goals as goal

pub returns-in-Ok-Valid : goal.returns-in-Ok-Valid
returns-in-Ok-Valid c = λ bytes order h.
    let G = c.args.table.now in
    let reach = c.args.reach in
    let words = c.args.image.now in
    let r = subst (λ r. IsExplained G reach words r) c.in-Ok-Valid.field-0-is c.in-Ok-Valid.ensures in
    valid_explained G reach (option_map (λ n. n.now) c.args.name) bytes words order c.in-Ok-Valid.field-0-0
    c.verdict_answer.result h r
    c.verdict_answer.ensures.judgment c.verdict_answer.ensures.text

pub returns-in-Ok-Malformed : goal.returns-in-Ok-Malformed
returns-in-Ok-Malformed c = λ bytes order h.
    let G = c.args.table.now in
    let reach = c.args.reach in
    let words = c.args.image.now in
    let r = subst (λ r. IsExplained G reach words r) c.in-Ok-Malformed.field-0-is c.in-Ok-Malformed.ensures in
    dead_explained G reach (option_map (λ n. n.now) c.args.name) bytes words order c.in-Ok-Malformed.fault
    c.in-Ok-Malformed.evidence
    c.malformed_answer.result h r.0 r.1 c.malformed_answer.ensures.judgment c.malformed_answer.ensures.text

pub broken_answer-requires : goal.broken_answer-requires
broken_answer-requires c =
    let G = c.args.table.now in
    let reach = c.args.reach in
    let words = c.args.image.now in
    let b = subst (λ r. IsExplained G reach words r) c.in-Ok-Broken.field-0-is c.in-Ok-Broken.ensures in
    record {
      few = few_insts (plain_insts c.in-Ok-Broken.module) (drop 5 words) (c.word_counts.ensures G _ _ b.listing)
          (omega (arith, length-drop 5 words, c.len-words.ensures.least, c.len-words.ensures.most));
    }

pub returns-in-Ok-Broken : goal.returns-in-Ok-Broken
returns-in-Ok-Broken c = λ bytes order h.
    let G = c.args.table.now in
    let reach = c.args.reach in
    let words = c.args.image.now in
    let m = c.in-Ok-Broken.module in
    let b = subst (λ r. IsExplained G reach words r) c.in-Ok-Broken.field-0-is c.in-Ok-Broken.ensures in
    let t = (c.shown_reads_back.ensures.shown G m.header (plain_insts m) (drop 5 words) b.listing).1 in
    broken_explained G reach (option_map (λ n. n.now) c.args.name) bytes words order c.in-Ok-Broken.fault
    c.in-Ok-Broken.evidence m t.lines
    c.broken_answer.result h b t.shown c.broken_answer.ensures.judgment (c.broken_answer.ensures.text t.lines t.shown)
