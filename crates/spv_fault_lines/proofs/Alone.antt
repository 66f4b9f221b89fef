-- The line of a fact that is not of types; and lines of a module without instructions.
use Rattle.std.proofs.Common.{◌≡◌, ℕ, List, Option, refl}
use Rattle.spv_table.specs.Table.{Table}
use Rattle.spv_module.specs.Operand.{PlainInst}
use Rattle.spv_fault_lines.specs.Lines.{line_of, plain_line, raw_of}
use Rattle.spv_facts.specs.declared.fact.Detail.{Detail}
use Rattle.spv_facts.specs.declared.fact.Fact.{Fact}
use Rattle.spv_facts.specs.declared.fact.Fact.TheVariants as fact
use Rattle.spv_facts.specs.declared.fact.Thing.{Thing}
use Rattle.std.proofs.Common.{◌++◌, [], subst}
use Rattle.std.specs.Prelude.{OnOk}
use Rattle.std.specs.Prelude.{Result as Answer}
use Rattle.spv_lines.specs.Text.{ShownLines}
use Rattle.spv_fault_lines.specs.Lines.{text_of}

pub one_line : (d : Detail) (G : Table) (is : List PlainInst) (lines : List (List ℕ)) (f : Fact)
    → ((ts : List Thing) → ¬ (f ≡ fact.Types ts))
    → ((n : ℕ) (us : List (Option ℕ)) (ts : List Thing) → ¬ (f ≡ fact.ReadTypes n us ts))
    → plain_line (raw_of d G is lines f) ≡ line_of d G is lines f
one_line d G is lines (fact.At n) h other = refl
one_line d G is lines (fact.In p) h other = refl
one_line d G is lines (fact.Open p) h other = refl
one_line d G is lines (fact.Words before words after) h other = refl
one_line d G is lines (fact.Word k w) h other = refl
one_line d G is lines (fact.Opcode opcode) h other = refl
one_line d G is lines (fact.Row opcode known) h other = refl
one_line d G is lines (fact.MayCome opcodes end) h other = refl
one_line d G is lines (fact.Unended p) h other = refl
one_line d G is lines (fact.Operand n k) h other = refl
one_line d G is lines (fact.Failing k) h other = refl
one_line d G is lines (fact.Due kind) h other = refl
one_line d G is lines (fact.Bound bound) h other = refl
one_line d G is lines (fact.Defined n) h other = refl
one_line d G is lines (fact.LocalTo f) h other = refl
one_line d G is lines (fact.Role r) h other = refl
one_line d G is lines (fact.Earlier n) h other = refl
one_line d G is lines (fact.Capability c implied) h other = refl
one_line d G is lines (fact.Bit n k bit) h other = refl
one_line d G is lines (fact.NeedsOneOf n l) h other = refl
one_line d G is lines fact.NoEntry h other = refl
one_line d G is lines (fact.Part part) h other = refl
one_line d G is lines (fact.Condition c) h other = refl
one_line d G is lines (fact.Types ts) h other = absurd (h ts refl)
one_line d G is lines (fact.Differs s) h other = refl
one_line d G is lines (fact.Wanted t) h other = refl
one_line d G is lines (fact.Found t) h other = refl
one_line d G is lines (fact.ReadTypes n us ts) h other = absurd (other n us ts refl)
one_line d G is lines (fact.WantedOf n t ks) h other = refl
one_line d G is lines (fact.FoundOf n t ks) h other = refl
one_line d G is lines (fact.Size n) h other = refl
one_line d G is lines (fact.MissingParent b) h other = refl
one_line d G is lines (fact.NoPredecessor n k) h other = refl
one_line d G is lines (fact.Twice n k) h other = refl
one_line d G is lines (fact.Predecessors blocks) h other = refl
one_line d G is lines (fact.Walk blocks) h other = refl
one_line d G is lines (fact.Calls functions) h other = refl
one_line d G is lines (fact.Cycle functions) h other = refl
one_line d G is lines (fact.Number number) h other = refl
one_line d G is lines (fact.Operands count) h other = refl
one_line d G is lines (fact.Least count) h other = refl
one_line d G is lines (fact.Most count) h other = refl
one_line d G is lines (fact.OtherOperand n k) h other = refl
one_line d G is lines (fact.OnTheWay b) h other = refl
one_line d G is lines (fact.Given n) h other = refl
one_line d G is lines (fact.UsedBy n) h other = refl
one_line d G is lines (fact.Since minor) h other = refl
one_line d G is lines (fact.Extensions line) h other = refl

pub lone : {T E : Type 0} (d : Detail) (G : Table) (is : List PlainInst) → is ≡ []
    → (r : Answer T E) (old new : List ℕ) (facts : List Fact)
    → ((shown : List (List ℕ)) → ShownLines G [] is shown → OnOk r (new ≡ old ++ text_of d G is shown facts))
    → OnOk r (new ≡ old ++ text_of d G [] [] facts)
lone d G is e r old new facts h =
    (subst (λ (xs : List PlainInst). (shown : List (List ℕ)) → ShownLines G [] xs shown
    → OnOk r (new ≡ old ++ text_of d G xs shown facts)) e h) [] (ShownLines.end [])
