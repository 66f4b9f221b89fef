use Rattle.std.proofs.Common.{sym, subst, codes, rules, Ok, List, Option, option_map}
use Rattle.clap.specs.Words.{Row, Text, found_of, rows_of}
use Rattle.clap.specs.declared.parser.matches.ArgMatches.TheViews.{out-ArgMatches}
use Rattle.spv_command_line.specs.CommandLine.{IsCommandOf}
use Rattle.spv_command_line.proofs.Asking.{given_for, met, no_command_met}
use Rattle.spv_command_line.proofs.command_line.command_in.Goals as goal

pub returns-in_default : goal.returns-in_default
returns-in_default c = no_command_met _ _ (sym c.in_default.ensures.rows)

pub returns-in-rules : goal.returns-in-rules
returns-in-rules c =
    given_for _ c.in-Some.name.now (codes "rules") (rows_of (found_of c.in-Some.found.now)) c.rules_in.result _
    (met (out-ArgMatches c.args.matches.now).subcommand _ _ (sym c.in-Some.ensures.name) (sym c.in-Some.ensures.rows)) (search rules) c.rules_in.ensures

pub returns-in-grammar : goal.returns-in-grammar
returns-in-grammar c =
    given_for _ c.in-Some.name.now (codes "grammar") (rows_of (found_of c.in-Some.found.now)) (Ok c.grammar_in.result) _
    (met (out-ArgMatches c.args.matches.now).subcommand _ _ (sym c.in-Some.ensures.name) (sym c.in-Some.ensures.rows)) (search rules) c.grammar_in.ensures

pub returns-in_default-name : goal.returns-in_default-name
returns-in_default-name c =
    let found = met (out-ArgMatches c.args.matches.now).subcommand c.in-Some.name.now (rows_of (found_of c.in-Some.found.now)) (sym c.in-Some.ensures.name) (sym c.in-Some.ensures.rows) in
    subst (λ (o : Option (Text × List Row)). IsCommandOf (option_map (λ g. g.now) c.args.environment) o c.file_command_in.result) (sym found) c.file_command_in.ensures
