-- `spvk_raw_show_opencl` lends what is shown of the table, and the answer, to `show_opencl_by`.
use Rattle.std.proofs.Common.{refl}
use Rattle.spvk.specs.Show.{IsShowingForOpenCl}
use Rattle.spvk.specs.Make.{Makes, MakesAt}
use Rattle.spvk.proofs.ByPointer.{lends_to}
use Rattle.spvk.specs.contracts.text.Text.{the_row as Told}
use Rattle.spvk.specs.contracts.showing.show_opencl_by.Key as callee
use Rattle.spvk.proofs.showing.show_opencl_by.Met as by_table
use Rattle.spvk.specs.contracts.showing.spvk_raw_show_opencl.Key as self
use Rattle.spvk.proofs.showing.spvk_raw_show_opencl.Statement.{statement}
use Rattle.spvk.proofs.showing.spvk_raw_show_opencl.Code as code

pub spvk_raw_show_opencl_spec : {M : Type 1} → statement M
spvk_raw_show_opencl_spec 𝓤 𝓛 𝓜 𝓡 wired =
    lends_to 𝓛 Told tt (λ G bytes. Makes (IsShowingForOpenCl G bytes))
    (λ p G bytes. MakesAt p (IsShowingForOpenCl G bytes)) 𝓜 𝓡 (λ G bytes old. (refl, refl))
    (λ b o G bytes old new r h. h) _ _ _ _
    self.name callee.name (code.unfolded 𝓤 𝓛.H 𝓜 𝓡 wired)
    (by_table.met 𝓤 𝓛 𝓜 𝓡 (code.calls-spvk::showing::show_opencl_by 𝓡.env wired))
