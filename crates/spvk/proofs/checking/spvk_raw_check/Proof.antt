-- `spvk_raw_check` lends what is shown of the table to `answer_by`.
use Rattle.spv_extended.specs.declared.reach.Reach.TheVariants.{Profile}
use Rattle.spvk.specs.Answer.{Answers, AnswersAt}
use Rattle.spvk.proofs.Checks.{lends_to}
use Rattle.spvk.proofs.checking.no_grammar.Met as without
use Rattle.spvk.specs.contracts.checking.answer_by.Key as callee
use Rattle.spvk.proofs.checking.answer_by.Met as by_table
use Rattle.spvk.specs.contracts.checking.spvk_raw_check.Key as self
use Rattle.spvk.proofs.checking.spvk_raw_check.Statement.{statement}
use Rattle.spvk.proofs.checking.spvk_raw_check.Code as code

pub spvk_raw_check_spec : {M : Type 1} → statement M
spvk_raw_check_spec 𝓤 𝓛 𝓜 𝓡 wired =
    lends_to 𝓛 (λ G bytes. Answers G Profile bytes) (λ p G bytes. AnswersAt p G Profile bytes) 𝓜 𝓡 (λ G bytes r h. h)
    (λ b o G bytes r h. h) _ _ self.name callee.name
    (code.unfolded 𝓤 𝓛.H 𝓜 𝓡 wired) (without.met 𝓤 𝓛 𝓜 𝓡 (code.calls-spvk::checking::no_grammar 𝓡.env wired))
    (by_table.met 𝓤 𝓛 𝓜 𝓡 (code.calls-spvk::checking::answer_by 𝓡.env wired))
