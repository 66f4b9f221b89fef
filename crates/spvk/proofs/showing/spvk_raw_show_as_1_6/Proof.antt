-- `spvk_raw_show_as_1_6` lends what is shown of the table, and the answer, to `show_as_1_6_by`.
use Rattle.std.proofs.Common.{refl}
use Rattle.spv_words.specs.Version.{as_1_6}
use Rattle.spv_extended.specs.declared.reach.Reach.TheVariants.{Profile}
use Rattle.spvk.specs.Show.{IsShowing}
use Rattle.spvk.specs.Make.{Makes, MakesAt}
use Rattle.spvk.proofs.ByPointer.{lends_to}
use Rattle.spvk.specs.contracts.text.Text.{the_row as Told}
use Rattle.spvk.specs.contracts.showing.show_as_1_6_by.Key as callee
use Rattle.spvk.proofs.showing.show_as_1_6_by.Met as by_table
use Rattle.spvk.specs.contracts.showing.spvk_raw_show_as_1_6.Key as self
use Rattle.spvk.proofs.showing.spvk_raw_show_as_1_6.Statement.{statement}
use Rattle.spvk.proofs.showing.spvk_raw_show_as_1_6.Code as code

pub spvk_raw_show_as_1_6_spec : {M : Type 1} → statement M
spvk_raw_show_as_1_6_spec 𝓤 𝓛 𝓜 𝓡 wired =
    lends_to 𝓛 Told tt (λ G bytes. Makes (IsShowing G Profile (as_1_6 bytes)))
    (λ p G bytes. MakesAt p (IsShowing G Profile (as_1_6 bytes))) 𝓜 𝓡 (λ G bytes old. (refl, refl))
    (λ b o G bytes old new r h. h) _ _ _ _
    self.name callee.name (code.unfolded 𝓤 𝓛.H 𝓜 𝓡 wired)
    (by_table.met 𝓤 𝓛 𝓜 𝓡 (code.calls-spvk::showing::show_as_1_6_by 𝓡.env wired))
