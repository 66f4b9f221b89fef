use Rattle.spv_views.proofs.Viewings.{no_view, none_lacking, none_several, short_begun_viewing, short_viewed}
use Rattle.spv_words.specs.declared.words.WordError.TheVariants.{W2}
use Rattle.std.proofs.Common.{refl}
use Rattle.spv_views.proofs.laws.view_examples.Goals as goal

pub returns-clause-views : goal.returns-clause-views
returns-clause-views c =
    λ G how reach function. short_viewed c.one_refusal.ensures.never G reach how function c.examples.ensures.size_first

pub returns-clause-begins : goal.returns-clause-begins
returns-clause-begins c =
    λ G how reach function. short_begun_viewing c.one_refusal.ensures.never G reach how function c.examples.ensures.size_first

pub returns-clause-views_none : goal.returns-clause-views_none
returns-clause-views_none c = λ G how reach function new t.
    no_view how G reach function _ t.output _ refl
    (λ o ws h. c.one_refusal.ensures.never W2 o _ ws h c.examples.ensures.size_first) t.viewing

pub returns-clause-no_function : goal.returns-clause-no_function
returns-clause-no_function c =
    λ G reach function. none_lacking G reach _ function
    (λ o ws h. c.one_refusal.ensures.never W2 o _ ws h c.examples.ensures.size_first)

pub returns-clause-no_functions : goal.returns-clause-no_functions
returns-clause-no_functions c =
    λ G reach function. none_several G reach _ function
    (λ o ws h. c.one_refusal.ensures.never W2 o _ ws h c.examples.ensures.size_first)
