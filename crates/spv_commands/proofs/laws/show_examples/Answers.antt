use Rattle.std.proofs.Common.{refl}
use Rattle.spv_commands.proofs.Tasks.{no_text, short_begun_showing, short_shown}
use Rattle.spv_words.specs.declared.words.WordError.TheVariants.{W2}
use Rattle.spv_commands.proofs.laws.show_examples.Goals as goal

pub returns : goal.returns
returns c = record {
  shows = λ G reach. short_shown G reach c.examples.ensures.size_first;
  shows_text = λ G reach new t. no_text G reach _ t.output _ refl
      (λ o ws h. c.one_refusal.ensures.never W2 o _ ws h c.examples.ensures.size_first) t.showing;
  begins = λ G reach. short_begun_showing G reach c.examples.ensures.size_first;
}
