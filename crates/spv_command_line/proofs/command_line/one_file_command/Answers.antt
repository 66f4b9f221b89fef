use Rattle.std.proofs.Common.{codes, rules}
use Rattle.clap.specs.Words.{found_of, rows_of}
use Rattle.spv_command_line.proofs.Asking.{given_by, no_command_of_name}
use Rattle.spv_command_line.proofs.command_line.one_file_command.Goals as goal

pub returns-in-show : goal.returns-in-show
returns-in-show c = given_by c.args.name.now (codes "show") (rows_of (found_of c.args.found.now)) _ _ c.show_in.result (search rules) c.show_in.ensures

pub returns-in-annotate : goal.returns-in-annotate
returns-in-annotate c = given_by c.args.name.now (codes "annotate") (rows_of (found_of c.args.found.now)) _ _ c.annotate_in.result (search rules) c.annotate_in.ensures

pub returns-in-graph : goal.returns-in-graph
returns-in-graph c = given_by c.args.name.now (codes "graph") (rows_of (found_of c.args.found.now)) _ _ c.graph_in.result (search rules) c.graph_in.ensures

pub returns-in-asm : goal.returns-in-asm
returns-in-asm c = given_by c.args.name.now (codes "asm") (rows_of (found_of c.args.found.now)) _ _ c.asm_in.result (search rules) c.asm_in.ensures

pub returns-in-trace : goal.returns-in-trace
returns-in-trace c = given_by c.args.name.now (codes "trace") (rows_of (found_of c.args.found.now)) _ _ c.trace_in.result (search rules) c.trace_in.ensures

pub returns-in_default : goal.returns-in_default
returns-in_default c = λ environment e.
    no_command_of_name environment c.args.name.now (rows_of (found_of c.args.found.now)) c.requires.files c.requires.task
    (search rules) (search rules) (search rules) (search rules) (search rules)
