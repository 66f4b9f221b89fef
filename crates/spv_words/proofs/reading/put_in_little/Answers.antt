use Rattle.std.proofs.Common.{ℕ, List}
use Rattle.spv_words.specs.declared.words.Order.TheVariants.{Little, Big}
use Rattle.spv_words.specs.Words.{words_of, turned}
use Rattle.spv_words.specs.Header.{IsModule}
use Rattle.spv_words.proofs.Standing.{words-stand, little-turned, All-turned, length-turned, stands-groups}
use Rattle.spv_words.proofs.reading.put_in_little.Goals as goal

-- turned bytes of a module are a module's in the other order
turned_module : (bs : List ℕ) → IsModule Big bs (words_of Big bs) → IsModule Little (turned bs) (words_of Little (turned bs))
turned_module bs m =
    let g = stands-groups Big bs (words_of Big bs) m.stands in
    let l = length-turned bs g in
    let z = m.size in
    record {
      stands = words-stand Little (turned bs) (All-turned bs m.stands.octets) (rw l g);
      header = rw (little-turned bs) m.header;
      size = rw l z;
    }

pub returns-in-Little-clause-fits : goal.returns-in-Little-clause-fits
returns-in-Little-clause-fits c = rw c.in-Little.is at c.requires

pub returns-in-Big-clause-words : goal.returns-in-Big-clause-words
returns-in-Big-clause-words c = rw (c.turn.ensures, c.in-Big.is) (little-turned c.args.bytes.now)

pub returns-in-Big-clause-fits : goal.returns-in-Big-clause-fits
returns-in-Big-clause-fits c = rw c.turn.ensures (turned_module c.args.bytes.now (rw c.in-Big.is at c.requires))
