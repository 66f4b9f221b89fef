use Rattle.std.specs.Prelude.{option_map}
use Rattle.spv_lines.specs.inner.Answer.{names_in}
use Rattle.spv_lines.proofs.CellNames.{names_first, names_later, names_done, names_next, no_next, names_past, rest_none}
use Rattle.spv_lines.proofs.CellNames.{rest_some}
use Rattle.spv_lines.proofs.mask.named_bits.Goals as goal
use Rattle.spv_lines.proofs.mask.named_bits.Goals.{then-bit-position+in-Some+in-Some-named_value, else-bit-position}

pub loop-position-init : goal.loop-position-init
loop-position-init c =
    names_first (names_in c.args.table.now c.args.kind) c.args.text.now c.requires.0 c.args.first
    (option_map (λ t. t.now) c.args.names) c.requires.1 c.requires.2

pub returns-in_default : goal.returns-in_default
returns-in_default c =
    let lookup = names_in c.args.table.now c.args.kind in
    let l = c.loop-position in
    names_done lookup c.args.text.now l.mask l.bit l.position c.loop-position-test.true c.if-bit-position.true
    (rest_none (λ t. t.now) lookup c.args.text.now l.mask l.bit l.rest l.position c.in_default.is l.invariant)

pub returns-in_default-named_value : goal.returns-in_default-named_value
returns-in_default-named_value c =
    let lookup = names_in c.args.table.now c.args.kind in
    let l = c.loop-position in
    let cell = c.split_cell.result in
    no_next lookup c.args.text.now l.mask l.bit c.in-Some.names.now l.position cell.0.now
    (option_map (λ t. t.now) cell.1)
    (rest_some (λ t. t.now) lookup c.args.text.now l.mask l.bit l.rest c.in-Some.names l.position c.in-Some.is
    l.invariant) c.split_cell.ensures c.in_default-named_value.ensures

pub loop-position-preserved : goal.loop-position-preserved
loop-position-preserved c =
    let lookup = names_in c.args.table.now c.args.kind in
    let l = c.loop-position in
    elim c.if-bit-position.branch [
      | then-bit-position+in-Some+in-Some-named_value w ↦
          let cell = w.split_cell.result in
          rw (w.rest-is, w.bit-is, w.mask-is)
          (names_next lookup c.args.text.now l.mask l.bit w.in-Some.names.now l.position cell.0.now
          w.in-Some-named_value.next (option_map (λ t. t.now) cell.1) c.loop-position-test.true
          w.if-bit-position.true
          (rest_some (λ t. t.now) lookup c.args.text.now l.mask l.bit l.rest w.in-Some.names l.position w.in-Some.is
          l.invariant) w.split_cell.ensures w.in-Some-named_value.ensures)
      | else-bit-position w ↦
          rw (w.rest-is, w.bit-is, w.mask-is)
          (names_later lookup c.args.text.now l.mask l.bit
          (option_map (λ t. t.now) l.rest) l.position c.loop-position-test.true w.if-bit-position.false l.invariant)
    ]

pub returns : goal.returns
returns c = names_past (names_in c.args.table.now c.args.kind) c.args.text.now _ _ _ c.loop-position.position
    c.loop-position-test.false c.loop-position.invariant
