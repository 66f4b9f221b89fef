use Rattle.std.proofs.Common.{◌≡◌, ◌∙◌, Some, sym}
use Rattle.spv_module.specs.Module.{plain_inst}
use Rattle.spv_module.specs.Operand.{result_in}
use Rattle.spv_form_evidence.specs.ids.inner.Known.{Puts}
use Rattle.spv_form_evidence.proofs.lemmas.ids.Rules.{defined_here}
use Rattle.spv_form_evidence.proofs.lemmas.ids.Scoping.{no_result, local_put, local_put_first, local_kept}
use Rattle.spv_form_evidence.proofs.lemmas.ids.Scoping.{local_nothing}
use Rattle.spv_form_evidence.proofs.ids.scope.keep_local.Goals.{then-is_here-via-then-is_here}
use Rattle.spv_form_evidence.proofs.ids.scope.keep_local.Goals.{then-is_here-via-else-is_here+then-is_free}
use Rattle.spv_form_evidence.proofs.ids.scope.keep_local.Goals as goal

pub returns-in_default : goal.returns-in_default
returns-in_default c = λ G is bound p t a.
    let i = plain_inst c.args.inst.now in
    local_nothing bound is c.args.here c.args.at i c.args.local.now t
    (λ x d. absurd (no_result is c.args.at x i t (sym c.result_id.ensures ∙ c.in_default.is) d)) a

pub returns-in_default-home : goal.returns-in_default-home
returns-in_default-home c = λ G is bound p t a.
    local_nothing bound is c.args.here c.args.at (plain_inst c.args.inst.now) c.args.local.now t
    (λ x d. c.in_default-home.ensures G is x p d) a

pub returns-in_ok-put : goal.returns-in_ok-put
returns-in_ok-put c = λ G is bound p t a.
    let i = plain_inst c.args.inst.now in
    let id = c.in-Some.id in
    let f = c.in-Some-home.function in
    let r : result_in i.operands ≡ Some id = sym c.result_id.ensures ∙ c.in-Some.is in
    let h = c.in-Some-home.ensures G is id p (defined_here is c.args.at id i t r) in
    let u : Puts c.args.local.now c.put.new.self id c.args.at = c.in_ok-put.ensures in
    elim c.then-is_here.branch [
      | then-is_here-via-then-is_here w ↦ local_put bound is c.args.here c.args.at id f i c.args.local.now
          c.put.new.self t r h (c.is_here.ensures.0 w.if-is_here.true) u a
      | then-is_here-via-else-is_here+then-is_free w ↦
          local_put_first bound is c.args.here c.args.at id f i c.args.local.now c.put.new.self t r h
          (w.is_free.ensures.0 w.if-is_free.true) u a
    ]

pub returns-else-is_free : goal.returns-else-is_free
returns-else-is_free c = λ G is bound p t a.
    let i = plain_inst c.args.inst.now in
    let id = c.in-Some.id in
    let r : result_in i.operands ≡ Some id = sym c.result_id.ensures ∙ c.in-Some.is in
    let h = c.in-Some-home.ensures G is id p (defined_here is c.args.at id i t r) in
    local_kept bound is c.args.here c.args.at id c.in-Some-home.function i c.args.local.now t r h
    (λ e. let q = c.is_here.ensures.1 e in let s = c.if-is_here.false in cc)
    (λ e. let q = c.is_free.ensures.1 e in let s = c.if-is_free.false in cc) a
