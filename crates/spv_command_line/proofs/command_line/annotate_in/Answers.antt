use Rattle.std.proofs.Common.{arith, codes, ◌≡◌}
use Rattle.std.proofs.lemmas.Result.{err_from_is_err_and}
use Rattle.clap.specs.Words.{found_of, rows_of}
use Rattle.spv_command_line.proofs.Asking.{not_annotated, not_scoped_name}
use Rattle.spv_command_line.proofs.command_line.annotate_in.Goals as goal

pub returns-in_err-color : goal.returns-in_err-color
returns-in_err-color c = λ environment e.
    let p = err_from_is_err_and c.from_residual.result c.from_residual.ensures.1 in
    rw (p.1, p.2, c.in_err-color.ensures.refused.0)
    (not_annotated environment (rows_of (found_of c.args.found.now)) c.in_err-color.ensures.refused.1)

pub returns-in_default : goal.returns-in_default
returns-in_default c = λ environment e.
    not_scoped_name environment (codes "annotate") (rows_of (found_of c.args.found.now)) (λ (s : 858 ≡ 321). omega (arith, s)) (λ (s : 858 ≡ 555). omega (arith, s)) (λ (s : 858 ≡ 743). omega (arith, s)) c.in_default.ensures

pub returns : goal.returns
returns c = λ environment e. record {
  asked = e;
  scope_is = c.in-Some.ensures;
  function_is = c.chosen_if_given-function.ensures;
  form_is = c.form_in.ensures;
  color_is = c.in_ok-color.ensures.read;
}
