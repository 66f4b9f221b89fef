use Rattle.std.proofs.Common.{arith, codes, ◌≡◌}
use Rattle.clap.specs.Words.{found_of, rows_of}
use Rattle.spv_command_line.proofs.Asking.{not_scoped_name}
use Rattle.spv_command_line.proofs.command_line.show_in.Goals as goal

pub returns-in_default : goal.returns-in_default
returns-in_default c = λ environment e.
    not_scoped_name environment (codes "show") (rows_of (found_of c.args.found.now)) (λ (s : 449 ≡ 321). omega (arith, s)) (λ (s : 449 ≡ 555). omega (arith, s)) (λ (s : 449 ≡ 743). omega (arith, s)) c.in_default.ensures

pub returns : goal.returns
returns c = λ environment e. (e, c.in-Some.ensures)
