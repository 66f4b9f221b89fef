use Rattle.std.proofs.Common.{ℕ, List, length, subst, arith}
use Rattle.spv_type_forms.specs.inner.Matching.{IsNumber, found_in}
use Rattle.spv_type_forms.proofs.Matched.{Finds, answer_told}
use Rattle.spv_type_forms.proofs.matching.Matching.matches.Goals as goal

pub returns-clause-answer : goal.returns-clause-answer
returns-clause-answer c =
    let is = c.args.definitions.now in
    let cs = c.reach-2.new.self.numbers.items in
    let grows = c.in_ok-reach-2.ensures.grows in
    answer_told is cs (found_in c.reach-2.new.self.keys.entries) c.args.t c.args.u c.number_of.result
    c.number_of-2.result c.is_same.result c.in_ok-reach-2.ensures.matching
    (λ h. let r = c.in_ok-reach.ensures.reached h in let l = r.2 in (r.0, r.1, omega arith))
    c.in_ok-reach-2.ensures.reached
    (subst (λ (ns : List ℕ). Finds (IsNumber is ns (length ns) c.args.t) c.number_of.result)
    c.as_slice-numbers.ensures.value c.number_of.ensures)
    (subst (λ (ns : List ℕ). Finds (IsNumber is ns (length ns) c.args.u) c.number_of-2.result)
    c.as_slice-numbers.ensures.value c.number_of-2.ensures) c.is_same.ensures
