use Rattle.std.proofs.Common.{◌++◌, ◌∙◌, ap, arith, false, flat_map, sym, take}
use Rattle.spv_rules.specs.Codes.{all_codes}
use Rattle.spv_explain.specs.Json.{code_line}
use Rattle.spv_rules.proofs.Walk.{code_within, every_one, few_codes, one_more}
use Rattle.spv_explain.proofs.rules.all_lines.Goals as goal

pub overflow_add-place : goal.overflow_add-place
overflow_add-place c = let w = code_within c.loop-code.place c.in-Some.code (sym c.in-Some.ensures) in
    omega (arith, w, few_codes)

pub loop-code-smaller : goal.loop-code-smaller
loop-code-smaller c = let w = code_within c.loop-code.place c.in-Some.code (sym c.in-Some.ensures) in omega (arith, w)

pub loop-code-preserved : goal.loop-code-preserved
loop-code-preserved c =
    let w = code_within c.loop-code.place c.in-Some.code (sym c.in-Some.ensures) in
    record {
      within = omega (arith, w);
      told =
          c.in_ok-push_bytes.ensures ∙ (ap (λ z. z ++ c.deref.result.now) c.loop-code.invariant.told
          ∙ (ap (λ z. flat_map (code_line false) (take c.loop-code.place all_codes) ++ z)
          (c.deref.ensures.value ∙ c.in_ok-line.ensures)
          ∙ sym (one_more (code_line false) c.loop-code.place c.in-Some.code (sym c.in-Some.ensures))));
    }

pub returns : goal.returns
returns c = c.loop-code.invariant.told ∙ every_one (code_line false) c.loop-code.place (sym c.in_default.ensures)
