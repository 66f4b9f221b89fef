use Rattle.std.proofs.Common.{ℕ, subst}
use Rattle.spv_module.specs.Module.{plain_inst}
use Rattle.spv_versions.specs.declared.table.Kind.TheVariants as kind
use Rattle.spv_versions.specs.Table.{lines}
use Rattle.spv_versions.specs.inner.Lines.{IsListed}
use Rattle.spv_standard_evidence.proofs.Versioned.{lack_or}
use Rattle.spv_standard_evidence.proofs.versions.lack_of.Goals as goal

pub returns-in-None : goal.returns-in-None
returns-in-None c =
    let flags = c.args.missing.now.lines in
    let none = subst (λ (n : ℕ). ¬ (IsListed lines flags kind.Opcode n)) c.from.ensures c.in-None.ensures in
    lack_or flags c.args.kinds.now.numbers (plain_inst c.args.inst.now) c.operands_lack.result none
    c.operands_lack.ensures
