use Rattle.std.proofs.Common.{arith}
use Rattle.spv_declarations.specs.inner.Said.{BuildsIn}
use Rattle.spv_declarations.proofs.Gathered.{both_gather_none, both_gather_more}
use Rattle.spv_declarations.proofs.Built.{theirs_none, all_built}
use Rattle.spv_declarations.proofs.built_in.built_ins.Goals as goal

pub loop-number-init : goal.loop-number-init
loop-number-init c = record {
  members = both_gather_none c.args.definitions.now (BuildsIn c.args.definitions.now) c.new.result
      c.new.ensures.empty;
  structs = theirs_none (record { members = c.new.result; structs = c.new-2.result }) c.new-2.ensures.empty
      c.new.ensures.empty;
}

pub note-requires-clause-inst : goal.note-requires-clause-inst
note-requires-clause-inst c = (c.loop-number.number, c.inst.ensures)

pub loop-number-preserved : goal.loop-number-preserved
loop-number-preserved c = record {
  members = both_gather_more c.args.definitions.now (BuildsIn c.args.definitions.now) c.loop-number.number _
      c.loop-number.found.members c.note.new.self.members c.inst.ensures c.in_ok-note.ensures.members
      c.loop-number.invariant.members;
  structs = c.in_ok-note.ensures.structs c.loop-number.invariant.structs;
}

pub returns : goal.returns
returns c = all_built c.args.definitions.now c.args.count c.loop-number.number c.loop-number.found c.requires.early
    (omega arith) c.loop-number.invariant.members c.loop-number.invariant.structs
