use Rattle.spv_module.specs.Module.{plain_operand}
use Rattle.spv_parser.proofs.seen.find_named.Goals as goal

pub returns-clause-seen : goal.returns-clause-seen
returns-clause-seen c = rw c.as_bytes-octets.ensures.value
    (record {
      operand = plain_operand c.in-Some-read_named.operand;
      taken = c.in-Some-read_named.ensures c.requires.form;
      opened = c.in-Some-kinds_behind.ensures.kinds;
      words = c.in-Some-word_of.ensures;
      plain = c.in-Some-kinds_behind.ensures.plain;
    })
