use Rattle.std.proofs.Common.{arith}
use Rattle.spv_declarations.specs.inner.Said.{GivesGroup, ImportsGroup}
use Rattle.spv_declarations.proofs.Gathered.{gathers_none, gathers_more, both_gather_none, both_gather_more}
use Rattle.spv_declarations.proofs.Stated.{said_empty, said_gathered}
use Rattle.spv_declarations.proofs.said.Said.gather.Goals as goal

pub returns-then-is_empty : goal.returns-then-is_empty
returns-then-is_empty c = said_empty c.args.linkage c.args.definitions.now c.in_ok-groups.groups
    (record { pairs = c.new-pairs.result; importing = c.new-importing.result }) c.in_ok-groups.ensures
    (c.is_empty.ensures.0 c.if-is_empty.true) c.new-pairs.ensures.empty c.new-importing.ensures.empty

pub loop-number-init : goal.loop-number-init
loop-number-init c =
    let is = c.args.definitions.now in
    record {
      pairs = both_gather_none is (GivesGroup c.in_ok-groups.groups) c.new-pairs.result c.new-pairs.ensures.empty;
      importing = gathers_none is (ImportsGroup c.in_ok-groups.groups c.args.linkage) c.new-importing.result
          c.new-importing.ensures.empty;
    }

pub loop-number-preserved : goal.loop-number-preserved
loop-number-preserved c =
    let is = c.args.definitions.now in
    record {
      pairs = both_gather_more is (GivesGroup c.in_ok-groups.groups) c.loop-number.number _ c.loop-number.pairs
          c.add_given.new.pairs c.inst-inst.ensures c.in_ok-add_given.ensures c.loop-number.invariant.pairs;
      importing = gathers_more is (ImportsGroup c.in_ok-groups.groups c.args.linkage) c.loop-number.number _
          c.loop-number.importing c.add_imported.new.importing c.inst-inst.ensures c.in_ok-add_imported.ensures
          c.loop-number.invariant.importing;
    }

pub returns : goal.returns
returns c = said_gathered c.args.linkage c.args.definitions.now c.in_ok-groups.groups
    (record { pairs = c.loop-number.pairs; importing = c.loop-number.importing }) c.args.count c.loop-number.number
    c.requires.early c.in_ok-groups.ensures (omega arith) c.loop-number.invariant.pairs
    c.loop-number.invariant.importing
