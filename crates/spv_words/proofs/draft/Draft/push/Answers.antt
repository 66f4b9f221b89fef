use Rattle.std.proofs.Common.{arith}
use Rattle.std.proofs.lemmas.Grind.{common_steps}
use Rattle.spv_words.proofs.Drafting.{pushed, unpushed}
use Rattle.spv_words.proofs.draft.Draft.push.Goals as goal

pub returns-clause-ok : goal.returns-clause-ok
returns-clause-ok c = pushed c.extend_from_slice.result c.self.inside.bytes.items c.extend_from_slice.new.self.items c.write_u32.new.buf _ c.args.self.now c.args.word (omega arith) c.self.invariant c.self.view_is c.write_u32.ensures (grind (arith, common_steps)) c.extend_from_slice.ensures.items

pub returns-clause-err : goal.returns-clause-err
returns-clause-err c = unpushed c.extend_from_slice.result c.self.inside.bytes.items c.extend_from_slice.new.self.items _ c.args.self.now c.self.view_is c.extend_from_slice.ensures.items
