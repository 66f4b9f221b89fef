use Rattle.std.proofs.Common.{[], ◌≡◌, ◌++◌, List, ℕ, subst}
use Rattle.std.specs.Prelude.{OnOk}
use Rattle.spv_module.specs.Operand.{PlainInst}
use Rattle.spv_lines.specs.Text.{ShownLines}
use Rattle.spv_fault_json.specs.Members.{members_of}
use Rattle.spv_explain.proofs.answers.push_lone_members.Goals as goal

pub returns : goal.returns
returns c =
    let G = c.args.about.now.table.now in
    (subst (λ (xs : List PlainInst). (shown : List (List ℕ)) → ShownLines G [] xs shown
    → OnOk c.push_members.result (c.push_members.new.out ≡ c.args.out.now ++ members_of G xs shown c.args.facts.now))
    c.requires.none c.push_members.ensures)
    [] (ShownLines.end [])
