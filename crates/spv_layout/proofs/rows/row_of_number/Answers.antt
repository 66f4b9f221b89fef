use Rattle.std.proofs.Common.{map, refl, arith}
use Rattle.std.proofs.lemmas.List.{length-map}
use Rattle.std.proofs.lemmas.Option.{slice_get_past}
use Rattle.spv_layout.specs.inner.Row.{plain_row}
use Rattle.spv_layout.proofs.Singles.{flag_in, section_in, front_in, sorts_in}
use Rattle.spv_layout.proofs.rows.row_of_number.Goals as goal

pub returns-then-number-rows-clause-single : goal.returns-then-number-rows-clause-single
returns-then-number-rows-clause-single c = flag_in c.args.rows.now c.args.number _ c.requires c.if-number-rows.true

pub returns-then-number-rows-clause-section : goal.returns-then-number-rows-clause-section
returns-then-number-rows-clause-section c = section_in c.args.rows.now c.args.number _ c.requires c.if-number-rows.true

pub returns-then-number-rows-clause-front : goal.returns-then-number-rows-clause-front
returns-then-number-rows-clause-front c = front_in c.args.rows.now c.args.number _ c.requires c.if-number-rows.true

pub returns-then-number-rows-clause-sorts : goal.returns-then-number-rows-clause-sorts
returns-then-number-rows-clause-sorts c = sorts_in c.args.rows.now c.args.number _ c.requires c.if-number-rows.true

pub returns-else-number-rows-clause-row : goal.returns-else-number-rows-clause-row
returns-else-number-rows-clause-row c =
    let n = length-map c.args.rows.now plain_row in
    let g = c.if-number-rows.false in
    rw (slice_get_past (map plain_row c.args.rows.now) c.args.number (omega arith)) refl
