-- `spvk_raw_explain` lends what is shown of the table, and the answer, to `explain_by`.
use Rattle.std.proofs.Common.{refl}
use Rattle.spv_extended.specs.declared.reach.Reach.TheVariants.{Profile}
use Rattle.spvk.specs.Explain.{IsExplaining}
use Rattle.spvk.specs.Make.{Makes, MakesAt}
use Rattle.spvk.proofs.ByPointer.{lends_to}
use Rattle.spvk.specs.contracts.text.Text.{the_row as Told}
use Rattle.spvk.specs.contracts.explaining.explain_by.Key as callee
use Rattle.spvk.proofs.explaining.explain_by.Met as by_table
use Rattle.spvk.specs.contracts.explaining.spvk_raw_explain.Key as self
use Rattle.spvk.proofs.explaining.spvk_raw_explain.Statement.{statement}
use Rattle.spvk.proofs.explaining.spvk_raw_explain.Code as code

pub spvk_raw_explain_spec : {M : Type 1} → statement M
spvk_raw_explain_spec 𝓤 𝓛 𝓜 𝓡 wired =
    lends_to 𝓛 Told tt (λ G bytes. Makes (IsExplaining G Profile bytes))
    (λ p G bytes. MakesAt p (IsExplaining G Profile bytes)) 𝓜 𝓡 (λ G bytes old. (refl, refl))
    (λ b o G bytes old new r h. h) _ _ _ _
    self.name callee.name (code.unfolded 𝓤 𝓛.H 𝓜 𝓡 wired)
    (by_table.met 𝓤 𝓛 𝓜 𝓡 (code.calls-spvk::explaining::explain_by 𝓡.env wired))
