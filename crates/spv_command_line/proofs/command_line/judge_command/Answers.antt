use Rattle.clap.specs.Words.{found_of, rows_of}
use Rattle.spv_command_line.proofs.Asking.{judge_met, not_judged, not_named, not_scoped_task}
use Rattle.spv_command_line.proofs.command_line.judge_command.Goals as goal

pub returns-then-not-are_modules : goal.returns-then-not-are_modules
returns-then-not-are_modules c = λ environment e.
    not_judged environment (rows_of (found_of c.args.found.now)) c.args.task _ _ e c.if-not-are_modules.ensures

pub returns-in_default : goal.returns-in_default
returns-in_default c = λ environment e.
    not_named environment (rows_of (found_of c.args.found.now)) c.args.task c.in_default.ensures

pub returns-in_default-scope_in : goal.returns-in_default-scope_in
returns-in_default-scope_in c = λ environment e.
    not_scoped_task environment (rows_of (found_of c.args.found.now)) c.args.task c.in_default-scope_in.ensures

pub returns : goal.returns
returns c = λ environment e.
    judge_met environment (rows_of (found_of c.args.found.now)) c.args.task _ _ _ _ _ _ _ e c.in_ok-files.ensures.items c.if-not-are_modules.ensures
    c.requires c.in-Some-scope_in.ensures c.in-Some.ensures c.is_set.ensures c.is_set-2.ensures
