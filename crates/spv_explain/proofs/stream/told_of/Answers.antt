use Rattle.std.proofs.Common.{◌-◌, ℕ, Ok, ap, arith, drop, length-drop, subst}
use Rattle.spv_extended.specs.Reach.{opens}
use Rattle.spv_module.specs.Module.{plain_insts}
use Rattle.spv_check.proofs.Verdicts.{Laws}
use Rattle.spv_explain.specs.inner.Reading.{IsExplained}
use Rattle.spv_explain.proofs.Tellings.{as_spelled, broken_told, dead_told, few_insts, no_walk_told, some_module}
use Rattle.spv_explain.proofs.Tellings.{valid_told, walk_told}
use Rattle.spv_explain.specs.Stream.{IsWalk}
use Rattle.spv_explain.proofs.stream.told_of.Goals as goal

pub returns-in-Ok-Valid : goal.returns-in-Ok-Valid
returns-in-Ok-Valid c =
    let laws : Laws = record {
      words = c.one_word_list.ensures.order;
      once = c.one_refusal.ensures.once;
      never = c.one_refusal.ensures.never;
      death = c.one_death.ensures;
      alive = c.listed_or_dead.ensures;
      list = c.one_listing.ensures;
    } in
    let G = c.args.table.now in
    let reach = c.args.reach in
    let words = c.args.image.now in
    let r = subst (λ r. IsExplained G reach words r) c.in-Ok-Valid.field-0-is c.in-Ok-Valid.ensures in
    record {
      explanation = λ bytes order h.
          valid_told laws c.args.detail G reach bytes words order c.in-Ok-Valid.checked c.valid_told.result.explanation
          h r
          c.valid_told.ensures.verdict c.valid_told.ensures.lines;
      walk = λ bytes order h. no_walk_told c.args.detail G reach bytes c.valid_told.result.explanation _
          c.valid_told.ensures.walk (IsWalk.valid c.valid_told.ensures.verdict);
      decoded = λ e.
          some_module G words c.in-Ok-Valid.checked.insts c.valid_told.result.«module» c.valid_told.ensures.decoded
          (as_spelled G reach c.in-Ok-Valid.checked.insts (drop 5 words) (ap opens e) r.reading);
    }

pub returns-in_ok-explanation-in-Ok-Malformed : goal.returns-in_ok-explanation-in-Ok-Malformed
returns-in_ok-explanation-in-Ok-Malformed c =
    let laws : Laws = record {
      words = c.one_word_list.ensures.order;
      once = c.one_refusal.ensures.once;
      never = c.one_refusal.ensures.never;
      death = c.one_death.ensures;
      alive = c.listed_or_dead.ensures;
      list = c.one_listing.ensures;
    } in
    let G = c.args.table.now in
    let reach = c.args.reach in
    let words = c.args.image.now in
    let f = c.in-Ok-Malformed.fault in
    let r = subst (λ r. IsExplained G reach words r) c.in-Ok-Malformed.field-0-is c.in-Ok-Malformed.ensures in
    record {
      explanation = λ bytes order h.
          dead_told {E = ℕ} laws c.args.detail G reach bytes words order f c.in-Ok-Malformed.evidence
          (Ok c.in_ok-explanation-in-Ok-Malformed.explanation) h
          r.0 r.1 c.in_ok-explanation-in-Ok-Malformed.ensures.verdict c.in_ok-explanation-in-Ok-Malformed.ensures.lines;
      walk = λ bytes order h. no_walk_told c.args.detail G reach bytes c.in_ok-explanation-in-Ok-Malformed.explanation _
          c.new.ensures.items (IsWalk.dead words order h
          (λ is l. c.listed_or_dead.ensures G is (drop 5 words) f.rule f.inst (f.word - 5) l r.0.1));
      decoded = λ e is l. c.listed_or_dead.ensures G is (drop 5 words) f.rule f.inst (f.word - 5) l r.0.1;
    }

pub broken_told-requires : goal.broken_told-requires
broken_told-requires c =
    let G = c.args.table.now in
    let reach = c.args.reach in
    let words = c.args.image.now in
    let b = subst (λ r. IsExplained G reach words r) c.in-Ok-Broken.field-0-is c.in-Ok-Broken.ensures in
    record {
      few = few_insts (plain_insts c.in-Ok-Broken.module) (drop 5 words) (c.word_counts.ensures G _ _ b.listing)
          (omega (arith, length-drop 5 words, c.len-words.ensures.least, c.len-words.ensures.most));
    }

pub returns-in_ok-explanation-in-Ok-Broken : goal.returns-in_ok-explanation-in-Ok-Broken
returns-in_ok-explanation-in-Ok-Broken c =
    let laws : Laws = record {
      words = c.one_word_list.ensures.order;
      once = c.one_refusal.ensures.once;
      never = c.one_refusal.ensures.never;
      death = c.one_death.ensures;
      alive = c.listed_or_dead.ensures;
      list = c.one_listing.ensures;
    } in
    let G = c.args.table.now in
    let reach = c.args.reach in
    let words = c.args.image.now in
    let m = c.in-Ok-Broken.module in
    let b = subst (λ r. IsExplained G reach words r) c.in-Ok-Broken.field-0-is c.in-Ok-Broken.ensures in
    let t = (c.shown_reads_back.ensures.shown G m.header (plain_insts m) (drop 5 words) b.listing).1 in
    record {
      explanation = λ bytes order h.
          broken_told {E = ℕ} laws c.args.detail G reach bytes words order c.in-Ok-Broken.fault c.in-Ok-Broken.evidence
          m t.lines
          (Ok c.in_ok-explanation-in-Ok-Broken.explanation) h b t.shown c.in_ok-explanation-in-Ok-Broken.ensures.verdict
          (c.in_ok-explanation-in-Ok-Broken.ensures.lines t.lines t.shown);
      walk = λ bytes order h.
          walk_told c.args.detail G reach bytes words order c.in-Ok-Broken.fault c.in-Ok-Broken.evidence m t.lines
          c.in_ok-explanation-in-Ok-Broken.explanation c.in_ok-walk-in-Ok-Broken.walk.items h b t.shown
          c.in_ok-explanation-in-Ok-Broken.ensures.verdict
          (c.in_ok-explanation-in-Ok-Broken.ensures.lines t.lines t.shown) c.in_ok-walk-in-Ok-Broken.ensures;
      decoded = λ e. record { listing = b.listing; header = b.header };
    }
