use Rattle.std.proofs.Common.{◌≡◌, flat_map, map}
use Rattle.std.specs.List.{range_with_len}
use Rattle.spv_module.specs.Module.{plain_inst}
use Rattle.spv_annotate.specs.Module.{open_function, section_before}
use Rattle.spv_annotate.specs.Page.{outlined}
use Rattle.spv_annotate.specs.Piece.{IsWritten}
use Rattle.spv_annotate.proofs.outline.write_beginnings.Given as goal

abbrev pub invariant-loop-at : goal.invariant-loop-at
invariant-loop-at g l = record {
  written : IsWritten g.P.Pen.text g.P.Pen.writes
      (flat_map (outlined (map plain_inst l.insts) l.asked) (range_with_len 0 l.at)) l.fn.pen l.pen;
  section : l.before.section ≡ section_before (map plain_inst l.insts) l.at;
  function : l.before.function ≡ open_function (map plain_inst l.insts) l.at;
}
