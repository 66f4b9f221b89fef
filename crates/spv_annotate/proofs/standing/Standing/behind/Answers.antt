use Rattle.std.proofs.Common.{add-one, ap, arith, sym}
use Rattle.spv_layout.specs.Place.{word_count}
use Rattle.spv_annotate.specs.Module.{section_of}
use Rattle.spv_annotate.proofs.Places.{word_step}
use Rattle.spv_annotate.proofs.standing.Standing.behind.Goals as goal

pub returns : goal.returns
returns c = λ is l e s.
    let at = c.args.at in
    let q = word_step is at l in
    let f = ap word_count e in
    let w = c.inst_words.ensures in
    let v = s.word in
    record {
      word = omega (arith, q, f, w, v);
      section = rw add-one (ap (λ i. section_of i.opcode) (sym e));
      function = c.function_behind.ensures is e s.function;
    }
