use Rattle.std.proofs.Common.{arith, codes, ◌≡◌}
use Rattle.clap.specs.Words.{found_of, rows_of}
use Rattle.spv_command_line.proofs.Asking.{not_scoped_name, not_traced}
use Rattle.spv_command_line.proofs.command_line.trace_in.Goals as goal

pub returns-in_default : goal.returns-in_default
returns-in_default c = λ environment e.
    not_traced environment (rows_of (found_of c.args.found.now)) (λ function choices limit f h l. c.in_default.ensures function f)

pub returns-in_default-2 : goal.returns-in_default-2
returns-in_default-2 c = λ environment e.
    not_traced environment (rows_of (found_of c.args.found.now)) (λ function choices limit f h l. rw c.in_default-2.is at c.in_ok-choices.ensures choices h)

pub returns-in_default-number_of : goal.returns-in_default-number_of
returns-in_default-number_of c = λ environment e.
    not_traced environment (rows_of (found_of c.args.found.now)) (λ function choices limit f h l. c.in_default-number_of.ensures limit l)

pub returns-in_default-scope_in : goal.returns-in_default-scope_in
returns-in_default-scope_in c = λ environment e.
    not_scoped_name environment (codes "trace") (rows_of (found_of c.args.found.now)) (λ (s : 527 ≡ 321). omega (arith, s)) (λ (s : 527 ≡ 555). omega (arith, s)) (λ (s : 527 ≡ 743). omega (arith, s)) c.in_default-scope_in.ensures

pub returns : goal.returns
returns c = λ environment e. record {
  asked = e;
  function_is = c.in-Some.ensures;
  choices_are = rw c.in-Some-2.is at c.in_ok-choices.ensures;
  limit_is = c.in-Some-number_of.ensures;
  scope_is = c.in-Some-scope_in.ensures;
}
