use Rattle.std.proofs.Common.{◌≡◌, ◌++◌, ◌∷◌, [], ◌∙◌, ℕ, List, OnOk, string_bytes, subst}
use Rattle.spv_inst.proofs.Kept.{same_kept}
use Rattle.spv_printer.proofs.Texts.{whatever}
use Rattle.spv_printer.proofs.listed_line.push_listed.Goals as goal

pub returns-in_default-clause-line : goal.returns-in_default-clause-line
returns-in_default-clause-line c = λ before further line k s.
    let same = rw c.in_default.is at c.in_ok-fast.ensures in
    subst (λ (z : List ℕ). OnOk c.push_line.result (string_bytes c.push_line.new.out ≡ z ++ (line ++ (10 ∷ [])))) same
    (c.push_line.ensures.line before further line k s)

pub returns-in_default-result-clause-line : goal.returns-in_default-result-clause-line
returns-in_default-result-clause-line c = λ before further line k s. let l = rw c.in-Some.is at c.in_ok-fast.ensures in
    l.text before further line k s

pub returns-in_default-result-clause-knows : goal.returns-in_default-result-clause-knows
returns-in_default-result-clause-knows c = λ before k. let l = rw c.in-Some.is at c.in_ok-fast.ensures in
    same_kept _ before _ (l.result ∙ c.in_default-result.is) k

pub returns-clause-line : goal.returns-clause-line
returns-clause-line c = λ before further line k s. let l = rw c.in-Some.is at c.in_ok-fast.ensures in
    whatever c.add_result.result _ (l.text before further line k s)
