use Rattle.std.proofs.Common.{◌↔◌, ℕ, IsTrue, subst, arith}
use Rattle.std.proofs.lemmas.Bool.{false≢true}
use Rattle.spv_versions.specs.declared.table.Kind.TheVariants as kind
use Rattle.spv_versions.specs.Table.{lines}
use Rattle.spv_versions.specs.inner.Lines.{IsListed}
use Rattle.spv_versions.proofs.missing.Missing.has_opcode.Goals as goal

pub returns-then-number-least_of : goal.returns-then-number-least_of
returns-then-number-least_of c = λ least. (
  λ t. absurd (false≢true t),
  λ h.
      let low = least kind.Opcode c.args.number h in
      absurd (omega (arith, low, c.least_of.ensures, c.from-number.ensures)),
)

pub returns : goal.returns
returns c = λ least. subst (λ (n : ℕ). IsTrue c.has.result ↔ IsListed lines c.args.self.now.lines kind.Opcode n)
    c.from-number.ensures c.has.ensures
