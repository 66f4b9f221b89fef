use Rattle.spv_streams.proofs.Parts.{known_part}
use Rattle.spv_streams.proofs.each.part_of.Goals as goal

pub returns-clause-part : goal.returns-clause-part
returns-clause-part g c =
    known_part c.args.table.now c.args.how c.args.name.now
    (g.F.Files.known c.args.files.now c.args.number) c.read-file.result c.judge_file.result
    c.read-file.ensures.given c.read-file.ensures.unread c.read-file.ensures.only
    c.judge_file.ensures.judged c.judge_file.ensures.unread
