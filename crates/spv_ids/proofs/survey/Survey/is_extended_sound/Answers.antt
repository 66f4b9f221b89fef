use Rattle.std.proofs.Common.{inl, inr}
use Rattle.spv_module.specs.Module.{plain_inst}
use Rattle.spv_ids.specs.inner.Survey.{insts_of}
use Rattle.spv_ids.proofs.Broke.{faulty_either}
use Rattle.spv_ids.proofs.survey.Survey.is_extended_sound.Goals as goal

pub are_sound-requires-clause-operands : goal.are_sound-requires-clause-operands
are_sound-requires-clause-operands c =
    record { inst = plain_inst c.args.inst.now; there = c.requires.there; same = c.seen.ensures }

pub are_operands_sound-requires-clause-operands : goal.are_operands_sound-requires-clause-operands
are_operands_sound-requires-clause-operands c =
    record { inst = plain_inst c.args.inst.now; there = c.requires.there; same = c.behind.ensures }

pub returns : goal.returns
returns c = λ t q g.
    let s = c.args.self.now in
    let f = faulty_either s.bound (insts_of s) c.args.at s.end s.firsts.now c.seen.result.now c.behind.result.now q
    c.requires.survey.firsts c.requires.below
    (record { inst = plain_inst c.args.inst.now; there = c.requires.there; same = c.seen.ensures })
    (record { inst = plain_inst c.args.inst.now; there = c.requires.there; same = c.behind.ensures }) g in
    elim f [
      | inl h ↦ c.are_sound.ensures t q h
      | inr h ↦ c.are_operands_sound.ensures c.if-not-are_operands_sound.false q h
    ]
