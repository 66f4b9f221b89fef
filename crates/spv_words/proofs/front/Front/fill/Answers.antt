use Rattle.std.proofs.Common.{arith, inl, length-take}
use Rattle.std.proofs.lemmas.Grind.{common_steps}
use Rattle.spv_words.proofs.Replacing.{filled_on}
use Rattle.spv_words.proofs.front.Front.fill.Goals as goal

pub loop-self-preserved : goal.loop-self-preserved
loop-self-preserved g c =
    let i = c.loop-self.invariant in
    let b = c.in_ok-n.ensures.bound in
    record {
      room = grind (arith, common_steps);
      fits = grind (arith, common_steps, b);
      kept = filled_on _ _ _ c.loop-self.self-inside.octets c.read.new.buf c.loop-self.self-inside.size _ c.in_ok-n.n i.room i.fits b i.kept c.in_ok-n.ensures.bytes.0;
      count = grind (arith, common_steps);
    }

pub returns-clause-whole : goal.returns-clause-whole
returns-clause-whole g c =
    let i = c.loop-self.invariant in
    let l = length-take c.loop-self.self-inside.size c.loop-self.self-inside.octets in
    inl (omega (arith, l, i.room, i.fits))
