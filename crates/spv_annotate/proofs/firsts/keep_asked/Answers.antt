use Rattle.std.proofs.Common.{◌≡◌, ◌∙◌, ℕ, Option, Some, true, ap, arith, map, sym}
use Rattle.std.specs.Prelude.{◌&&◌, ◌+◌, if◌then◌else◌}
use Rattle.std.proofs.lemmas.Result.{IfOk-weaker}
use Rattle.spv_table.specs.Lookups.{is_number}
use Rattle.spv_module.specs.Module.{plain_inst}
use Rattle.spv_module.specs.Operand.{result_in}
use Rattle.spv_annotate.specs.Document.{is_of}
use Rattle.spv_annotate.specs.Module.{definition_of, inst_at}
use Rattle.spv_annotate.specs.inner.Known.{asked_below}
use Rattle.spv_annotate.specs.inner.Numbers.{kept}
use Rattle.spv_annotate.proofs.Asked.{asked_step, unasked_step}
use Rattle.spv_annotate.proofs.Places.{inst_read}
use Rattle.spv_annotate.proofs.Small.{plain_length}
use Rattle.spv_annotate.proofs.firsts.keep_asked.Goals as goal

pub returns-then-not-is_in_asked : goal.returns-then-not-is_in_asked
returns-then-not-is_in_asked c = λ x.
    let is = map plain_inst c.args.insts.now in
    let h = sym (c.is_in_asked.ensures c.args.at c.requires.function) ∙ c.if-not-is_in_asked.true in
    c.requires.before x ∙ unasked_step is c.args.asked c.args.at (definition_of is x) h

pub returns : goal.returns
returns c =
    let is = map plain_inst c.args.insts.now in
    let at = c.args.at in
    let old = c.args.numbers.now in
    let new = c.keep_first.new.numbers in
    let id = c.result_id.result in
    let w = c.requires.within in
    let p = plain_length c.args.insts.now in
    let r = c.result_id.ensures ∙ ap (λ i. result_in i.operands)
    (sym (inst_read c.args.insts.now at c.index-insts-at.result w c.index-insts-at.is)) in
    let h = sym (c.is_in_asked.ensures at c.requires.function) ∙ c.if-not-is_in_asked.false in
    IfOk-weaker c.keep_first.result
    (λ _. (x : ℕ) → kept new x ≡ (if is_number x id
    && is_number at (kept c.args.definitions.now x) then Some at else kept old x))
    (λ _. (x : ℕ) → kept new x ≡ asked_below is c.args.asked (at + 1) (definition_of is x))
    (λ _ k x. asked_step is c.args.asked at x id (kept old x) (kept new x) (omega (arith, w, p)) r (c.requires.before x)
    (k x ∙ ap (λ (o : Option ℕ). if is_number x id && is_number at o then Some at else kept old x)
    (c.requires.definitions x)) h)
    c.keep_first.ensures
