use Rattle.std.specs.Prelude.{option_map}
use Rattle.spv_lines.specs.inner.Answer.{names_in}
use Rattle.spv_lines.proofs.CellNames.{NamesAt}
use Rattle.spv_lines.proofs.mask.named_bits.Given as goal

abbrev pub invariant-loop-position : goal.invariant-loop-position
invariant-loop-position l =
    NamesAt (names_in l.table l.kind) l.text l.mask l.bit (option_map (λ t. t.now) l.rest) l.position
