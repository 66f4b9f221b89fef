use Rattle.std.proofs.Common.{◌++◌, ◌∙◌, append_assoc, ap, arith, string_bytes, sym}
use Rattle.spv_rules.specs.Codes.{code_line}
use Rattle.spv_rules.proofs.Walk.{code_within, every_one, few_codes, one_more}
use Rattle.spv_rules.proofs.rules.push_codes.Goals as goal

pub overflow_add-place : goal.overflow_add-place
overflow_add-place c = let w = code_within c.loop-code.place c.in-Some.code (sym c.in-Some.ensures) in omega (arith, w, few_codes)

pub loop-code-smaller : goal.loop-code-smaller
loop-code-smaller c = let w = code_within c.loop-code.place c.in-Some.code (sym c.in-Some.ensures) in omega (arith, w)

pub loop-code-preserved : goal.loop-code-preserved
loop-code-preserved c =
    let w = code_within c.loop-code.place c.in-Some.code (sym c.in-Some.ensures) in
    record {
      within = omega (arith, w);
      told =
          c.in_ok-push_code.ensures ∙ (ap (λ z. z ++ code_line c.in-Some.code) c.loop-code.invariant.told ∙ (append_assoc (string_bytes c.args.out.now) _ _
          ∙ ap (λ z. string_bytes c.args.out.now ++ z) (sym (one_more code_line c.loop-code.place c.in-Some.code (sym c.in-Some.ensures)))));
    }

pub returns : goal.returns
returns c = c.loop-code.invariant.told ∙ ap (λ z. string_bytes c.args.out.now ++ z) (every_one code_line c.loop-code.place (sym c.in_default.ensures))
