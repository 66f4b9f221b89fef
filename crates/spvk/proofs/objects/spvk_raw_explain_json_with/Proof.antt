-- `spvk_raw_explain_json_with` lends what is shown of the table, and the answer, to `tell_with_by`.
use Rattle.std.proofs.Common.{refl}
use Rattle.spvk.specs.Object.{IsTelling}
use Rattle.spvk.specs.Flags.{asked_by}
use Rattle.spvk.specs.Make.{MakesAsked, MakesWith}
use Rattle.spvk.proofs.ByFlags.{lends_to}
use Rattle.spvk.specs.contracts.objects.tell_with_by.Key as callee
use Rattle.spvk.proofs.objects.tell_with_by.Met as by_table
use Rattle.spvk.specs.contracts.objects.spvk_raw_explain_json_with.Key as self
use Rattle.spvk.proofs.objects.spvk_raw_explain_json_with.Statement.{statement}
use Rattle.spvk.proofs.objects.spvk_raw_explain_json_with.Code as code

pub spvk_raw_explain_json_with_spec : {M : Type 1} → statement M
spvk_raw_explain_json_with_spec 𝓤 𝓛 𝓜 𝓡 wired =
    lends_to 𝓛 (λ G f. MakesAsked (asked_by f) (IsTelling G)) (λ p G. MakesWith p (IsTelling G)) 𝓜 𝓡
    (λ G f bytes old. (refl, refl)) (λ b o G f bytes old new r h. h) _ _ _ _
    self.name callee.name (code.unfolded 𝓤 𝓛.H 𝓜 𝓡 wired)
    (by_table.met 𝓤 𝓛 𝓜 𝓡 (code.calls-spvk::objects::tell_with_by 𝓡.env wired))
