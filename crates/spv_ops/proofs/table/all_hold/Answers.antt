use Rattle.std.proofs.Common.{◌≡◌, true, false, length, refl}
use Rattle.spv_module.specs.Module.{plain_inst}
use Rattle.spv_conditions.specs.Asks.{conditions_in}
use Rattle.spv_conditions.specs.inner.Direct.{HoldsDirectly}
use Rattle.spv_conditions.proofs.lemmas.Direct.{all_direct, all_directly}
use Rattle.spv_conditions.proofs.lemmas.Listing.{not_all}
use Rattle.spv_ops.specs.Table.{asks_of}
use Rattle.spv_ops.proofs.table.all_hold.Goals as goal

pub returns-in-Some : goal.returns-in-Some
returns-in-Some c =
    let is = c.args.definitions.now in
    let n = c.args.number in
    let i = plain_inst c.args.inst.now in
    let r = c.args.r in
    let types = c.args.types.now in
    let line = asks_of c.args.opcode in
    let first = rw c.asks_of.ensures at c.in-Some.ensures in (
      λ h. absurd (let no : false ≡ true = h in cc),
      λ h. absurd (not_all (HoldsDirectly is n i r types) (conditions_in line (length types)) _ first
          (all_direct is n i r types line (length types) c.requires.direct h)),
    )

pub returns-in-None : goal.returns-in-None
returns-in-None c =
    let is = c.args.definitions.now in
    let types = c.args.types.now in
    let line = asks_of c.args.opcode in
    let all = rw c.asks_of.ensures at c.in-None.ensures in (
      λ h. all_directly is c.args.number (plain_inst c.args.inst.now) c.args.r types
          (conditions_in line (length types)) all,
      λ h. refl,
    )
