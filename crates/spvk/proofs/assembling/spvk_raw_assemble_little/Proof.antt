-- `spvk_raw_assemble_little` lends what is shown of the table, and the answer, to `assemble_little_by`.
use Rattle.std.proofs.Common.{refl}
use Rattle.spv_words.specs.declared.words.Order.TheVariants.{Little}
use Rattle.spvk.specs.Assemble.{Assembles, AssemblesAt}
use Rattle.spvk.proofs.ByPointer.{lends_to}
use Rattle.spvk.specs.contracts.image.Assembled.{the_row as Told}
use Rattle.spvk.specs.contracts.assembling.assemble_little_by.Key as callee
use Rattle.spvk.proofs.assembling.assemble_little_by.Met as by_table
use Rattle.spvk.specs.contracts.assembling.spvk_raw_assemble_little.Key as self
use Rattle.spvk.proofs.assembling.spvk_raw_assemble_little.Statement.{statement}
use Rattle.spvk.proofs.assembling.spvk_raw_assemble_little.Code as code

pub spvk_raw_assemble_little_spec : {M : Type 1} → statement M
spvk_raw_assemble_little_spec 𝓤 𝓛 𝓜 𝓡 wired =
    lends_to 𝓛 Told tt (λ G bytes. Assembles G Little bytes) (λ p G bytes. AssemblesAt p G Little bytes) 𝓜 𝓡
    (λ G bytes old. (refl, refl)) (λ b o G bytes old new r h. h) _ _ _ _
    self.name callee.name (code.unfolded 𝓤 𝓛.H 𝓜 𝓡 wired)
    (by_table.met 𝓤 𝓛 𝓜 𝓡 (code.calls-spvk::assembling::assemble_little_by 𝓡.env wired))
