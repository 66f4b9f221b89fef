use Rattle.std.proofs.Common.{◌≡◌, ◌∙◌, sym, subst, ℕ, Option, Some, None, arith}
use Rattle.spv_ids.specs.Outcome.{IsDefinitionOf, definition_in}
use Rattle.spv_capabilities.proofs.Marked.{marks_undefined, marks_set, marks_within}
use Rattle.spv_capabilities.proofs.gather.mark.Goals as goal

pub returns-in_default-definition : goal.returns-in_default-definition
returns-in_default-definition c = λ names is to i d h e a.
    let x = c.in-Some.id in
    let k : definition_in c.args.ids.now x ≡ None = sym c.definition.ensures ∙ c.in_default-definition.is in
    marks_undefined names is to x i c.args.marks.now.items h (e ∙ c.in-Some.is)
    (subst (λ (o : Option ℕ). IsDefinitionOf is x o) k (d x)) a

pub returns-then-place-len : goal.returns-then-place-len
returns-then-place-len c = λ names is to i d h e a.
    let x = c.in-Some.id in
    let m = c.in-Some-definition.inst in
    let k : definition_in c.args.ids.now x ≡ Some m = sym c.definition.ensures ∙ c.in-Some-definition.is in
    let o = subst (λ (o : Option ℕ). IsDefinitionOf is x o) k (d x) in
    marks_set names is to x m i c.args.marks.now.items h (e ∙ c.in-Some.is) o
    (marks_within names is to x m c.args.marks.now.items o a) a

pub returns-else-place-len : goal.returns-else-place-len
returns-else-place-len c = λ names is to i d h e a.
    let x = c.in-Some.id in
    let m = c.in-Some-definition.inst in
    let k : definition_in c.args.ids.now x ≡ Some m = sym c.definition.ensures ∙ c.in-Some-definition.is in
    let o = subst (λ (o : Option ℕ). IsDefinitionOf is x o) k (d x) in
    let l = marks_within names is to x m c.args.marks.now.items o a in
    absurd (omega arith)
