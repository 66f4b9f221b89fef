use Rattle.spv_commands.proofs.Tasks.{short_begun_explaining, short_explained}
use Rattle.spv_words.specs.declared.words.WordError.TheVariants.{W2}
use Rattle.spv_commands.proofs.laws.explain_examples.Goals as goal

pub returns : goal.returns
returns c = record {
  explains = λ G reach detail. short_explained G reach detail c.examples.ensures.size_first
      (λ o ws h. c.one_refusal.ensures.never W2 o _ ws h c.examples.ensures.size_first)
      (λ e h. c.one_refusal.ensures.once e W2 _ h c.examples.ensures.size_first);
  begins = λ G reach detail. short_begun_explaining G reach detail c.examples.ensures.size_first
      (λ o ws h. c.one_refusal.ensures.never W2 o _ ws h c.examples.ensures.size_first)
      (λ e h. c.one_refusal.ensures.once e W2 _ h c.examples.ensures.size_first);
}
