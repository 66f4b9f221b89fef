use Rattle.std.proofs.Common.{refl, arith}
use Rattle.std.proofs.lemmas.Fmt.{decimal_digit}
use Rattle.spv_words.specs.declared.words.WordError.TheVariants.{W2}
use Rattle.spv_commands.proofs.Tracings.{no_run, short_begun_tracing, short_traced}
use Rattle.spv_commands.proofs.laws.trace_examples.Goals as goal

pub returns-clause-step : goal.returns-clause-step
returns-clause-step c = rw (decimal_digit 0 (omega arith), decimal_digit 7 (omega arith)) refl

pub returns-clause-text : goal.returns-clause-text
returns-clause-text c = rw (decimal_digit 1 (omega arith), decimal_digit 2 (omega arith)) refl

pub returns-clause-other_text : goal.returns-clause-other_text
returns-clause-other_text c = λ e. cc

pub returns-clause-traces : goal.returns-clause-traces
returns-clause-traces c =
    λ G reach function choices limit. short_traced G reach function choices limit c.examples.ensures.size_first

pub returns-clause-traces_none : goal.returns-clause-traces_none
returns-clause-traces_none c = λ G reach function choices limit new t.
    no_run G reach function choices limit _ t.output _ refl
    (λ o ws h. c.one_refusal.ensures.never W2 o _ ws h c.examples.ensures.size_first) t.tracing

pub returns-clause-begins : goal.returns-clause-begins
returns-clause-begins c =
    λ G reach function choices limit. short_begun_tracing G reach function choices limit c.examples.ensures.size_first

pub returns-clause-no_entry : goal.returns-clause-no_entry
returns-clause-no_entry c =
    λ G reach function h. c.one_refusal.ensures.never W2 h.valid.order _ h.valid.words h.valid.is_module
    c.examples.ensures.size_first

pub returns-clause-no_several : goal.returns-clause-no_several
returns-clause-no_several c =
    λ G reach function h. c.one_refusal.ensures.never W2 h.valid.order _ h.valid.words h.valid.is_module
    c.examples.ensures.size_first
