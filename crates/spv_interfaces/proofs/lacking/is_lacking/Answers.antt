use Rattle.std.proofs.Common.{◌≡◌, false, true, sym}
use Rattle.spv_module.specs.Module.{plain_inst, plain_operands}
use Rattle.spv_interfaces.proofs.Missing.{lacking_by, lacking_none, lacking_zero}
use Rattle.spv_interfaces.proofs.lacking.is_lacking.Goals as goal

pub returns-in_default : goal.returns-in_default
returns-in_default c = (
  λ f. let no : false ≡ true = f in absurd (cc),
  λ s. absurd (lacking_none c.args.definitions.now c.args.number (plain_inst c.inst.result.now) c.args.reached.now
      c.args.named.now c.inst.ensures (sym c.in_default.ensures) s),
)

pub returns-then-wanted-eq0 : goal.returns-then-wanted-eq0
returns-then-wanted-eq0 c = (
  λ f. let no : false ≡ true = f in absurd (cc),
  λ s. absurd (lacking_zero c.args.definitions.now c.args.number c.in-Some.f (plain_operands c.in-Some.interface.now)
      (plain_inst c.inst.result.now) c.args.reached.now c.args.named.now c.bits_of-wanted.result c.inst.ensures
      c.in-Some.ensures c.bits_of-wanted.ensures c.if-wanted-eq0.true s),
)

pub returns : goal.returns
returns c = lacking_by c.args.definitions.now c.args.number c.in-Some.f (plain_operands c.in-Some.interface.now)
    (plain_inst c.inst.result.now) c.args.reached.now c.args.named.now c.bits_of-wanted.result c.inst.ensures
    c.in-Some.ensures c.bits_of-wanted.ensures c.bits_in-given.result c.bits_of-wanted.type_inv
    c.bits_in-given.type_inv c.bits_in-given.ensures
