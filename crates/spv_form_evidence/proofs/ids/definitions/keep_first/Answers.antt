use Rattle.std.proofs.Common.{◌∙◌, sym}
use Rattle.spv_module.specs.Module.{plain_inst}
use Rattle.spv_form_evidence.proofs.lemmas.ids.Keeping.{first_put, first_kept, first_no_result}
use Rattle.spv_form_evidence.proofs.ids.definitions.keep_first.Goals as goal

pub returns-in_ok-put : goal.returns-in_ok-put
returns-in_ok-put c = λ is bound t a.
    first_put bound is c.args.at c.in-Some.id (plain_inst c.args.inst.now) c.args.definitions.now c.put.new.self t
    (sym c.result_id.ensures ∙ c.in-Some.is) (c.is_free.ensures.0 c.if-is_free.true) c.in_ok-put.ensures a

pub returns-else-is_free : goal.returns-else-is_free
returns-else-is_free c = λ is bound t a.
    first_kept bound is c.args.at c.in-Some.id (plain_inst c.args.inst.now) c.args.definitions.now t
    (sym c.result_id.ensures ∙ c.in-Some.is)
    (λ h. let p = c.is_free.ensures.1 h in let q = c.if-is_free.false in cc) a

pub returns-in_default : goal.returns-in_default
returns-in_default c = λ is bound t a.
    first_no_result bound is c.args.at (plain_inst c.args.inst.now) c.args.definitions.now t
    (sym c.result_id.ensures ∙ c.in_default.is) a
