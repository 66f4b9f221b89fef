use Rattle.std.proofs.Common.{◌≡◌, ◌++◌, drop, flat_map, map, string_bytes}
use Rattle.std.specs.List.{filter_map}
use Rattle.spv_module.specs.Module.{plain_inst, plain_operands}
use Rattle.spv_annotate.specs.Called.{told_from}
use Rattle.spv_annotate.specs.Module.{id_in}
use Rattle.spv_annotate.specs.Notes.{each_once, name_note}
use Rattle.spv_annotate.specs.inner.Seen.{if_unseen}
use Rattle.spv_annotate.proofs.names.push_operand_names.Given as goal

abbrev pub invariant-loop-place : goal.invariant-loop-place
invariant-loop-place l = string_bytes l.out
    ++ flat_map (if_unseen (name_note (map plain_inst l.insts)) l.seen)
    (each_once (filter_map id_in (told_from l.signature l.place (plain_operands (drop l.place l.operands)))))
    ≡ string_bytes l.fn.out ++ flat_map (if_unseen (name_note (map plain_inst l.insts)) l.fn.seen)
    (each_once (filter_map id_in (told_from l.signature 0 (plain_operands l.operands))))
