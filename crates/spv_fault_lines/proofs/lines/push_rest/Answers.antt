use Rattle.std.proofs.Common.{◌≡◌, List, ℕ, codes, refl}
use Rattle.spv_table.specs.Table.{Table}
use Rattle.spv_module.specs.Module.{plain_insts}
use Rattle.spv_module.specs.Operand.{PlainInst}
use Rattle.spv_facts.proofs.Joined.{joined}
use Rattle.spv_facts.specs.declared.fact.Detail.{Detail}
use Rattle.spv_facts.specs.declared.fact.Fact.{Fact}
use Rattle.spv_facts.specs.declared.fact.Fact.TheVariants as fact
use Rattle.spv_fault_lines.specs.Lines.{name_part, rest_of}
use Rattle.spv_fault_lines.specs.inner.Parts.{named_text}
use Rattle.spv_fault_lines.proofs.lines.push_rest.Goals as goal

pub returns-in_ok-push_str-in_default : goal.returns-in_ok-push_str-in_default
returns-in_ok-push_str-in_default c = λ shown are.
    let d = c.args.about.now.detail in
    let G = c.args.about.now.table.now in
    let is = plain_insts c.args.about.now.«module».now in
    let f = c.args.fact.now in
    rw (named d G is shown f refl)
    (joined _ _ _ _ (codes " ") _ c.in_ok-push_str-in_default.ensures.bytes (c.push_named.ensures shown are)) where
      -- a fact that is none of those with an arm of their own
      named : (d : Detail) (G : Table) (is : List PlainInst) (shown : List (List ℕ)) (f : Fact) → c.args.fact.now ≡ f
          → rest_of d G is shown f ≡ name_part (named_text G is shown f)
      named d G is shown (fact.At n) q = refl
      named d G is shown (fact.In p) q = absurd (c.in_default.not-In p q)
      named d G is shown (fact.Open p) q = absurd (c.in_default.not-Open p q)
      named d G is shown (fact.Words before words after) q = absurd (c.in_default.not-Words before words after q)
      named d G is shown (fact.Word k w) q = absurd (c.in_default.not-Word k w q)
      named d G is shown (fact.Opcode opcode) q = absurd (c.in_default.not-Opcode opcode q)
      named d G is shown (fact.Row opcode known) q = refl
      named d G is shown (fact.MayCome opcodes end) q = absurd (c.in_default.not-MayCome opcodes end q)
      named d G is shown (fact.Unended p) q = refl
      named d G is shown (fact.Operand n k) q = absurd (c.in_default.not-Operand n k q)
      named d G is shown (fact.Failing k) q = refl
      named d G is shown (fact.Due kind) q = refl
      named d G is shown (fact.Bound bound) q = refl
      named d G is shown (fact.Defined n) q = absurd (c.in_default.not-Defined n q)
      named d G is shown (fact.LocalTo f1) q = absurd (c.in_default.not-LocalTo f1 q)
      named d G is shown (fact.Role r) q = refl
      named d G is shown (fact.Earlier n) q = absurd (c.in_default.not-Earlier n q)
      named d G is shown (fact.Capability c implied) q = refl
      named d G is shown (fact.Bit n k bit) q = refl
      named d G is shown (fact.NeedsOneOf n l) q = absurd (c.in_default.not-NeedsOneOf n l q)
      named d G is shown fact.NoEntry q = refl
      named d G is shown (fact.Part part) q = absurd (c.in_default.not-Part part q)
      named d G is shown (fact.Condition c) q = refl
      named d G is shown (fact.Types ts) q = absurd (c.in_default.not-Types ts q)
      named d G is shown (fact.Differs s) q = absurd (c.in_default.not-Differs s q)
      named d G is shown (fact.Wanted t) q = refl
      named d G is shown (fact.Found t) q = refl
      named d G is shown (fact.ReadTypes n us ts) q = absurd (c.in_default.not-ReadTypes n us ts q)
      named d G is shown (fact.WantedOf n t ks) q = absurd (c.in_default.not-WantedOf n t ks q)
      named d G is shown (fact.FoundOf n t ks) q = absurd (c.in_default.not-FoundOf n t ks q)
      named d G is shown (fact.Size n) q = refl
      named d G is shown (fact.MissingParent b) q = absurd (c.in_default.not-MissingParent b q)
      named d G is shown (fact.NoPredecessor n k) q = absurd (c.in_default.not-NoPredecessor n k q)
      named d G is shown (fact.Twice n k) q = absurd (c.in_default.not-Twice n k q)
      named d G is shown (fact.Predecessors blocks) q = absurd (c.in_default.not-Predecessors blocks q)
      named d G is shown (fact.Walk blocks) q = absurd (c.in_default.not-Walk blocks q)
      named d G is shown (fact.Calls functions) q = absurd (c.in_default.not-Calls functions q)
      named d G is shown (fact.Cycle functions) q = absurd (c.in_default.not-Cycle functions q)
      named d G is shown (fact.Number n) q = refl
      named d G is shown (fact.Operands n) q = refl
      named d G is shown (fact.Least n) q = absurd (c.in_default.not-Least n q)
      named d G is shown (fact.Most n) q = absurd (c.in_default.not-Most n q)
      named d G is shown (fact.OtherOperand n k) q = absurd (c.in_default.not-OtherOperand n k q)
      named d G is shown (fact.OnTheWay b) q = absurd (c.in_default.not-OnTheWay b q)
      named d G is shown (fact.Given n) q = absurd (c.in_default.not-Given n q)
      named d G is shown (fact.UsedBy n) q = absurd (c.in_default.not-UsedBy n q)
      named d G is shown (fact.Since minor) q = refl
      named d G is shown (fact.Extensions line) q = absurd (c.in_default.not-Extensions line q)
