use Rattle.std.proofs.Common.{◌≡◌, ◌∙◌, None, sym}
use Rattle.spv_type_forms.specs.inner.Matching.{found_in}
use Rattle.spv_type_forms.proofs.Matched.{kept_now}
use Rattle.spv_type_forms.proofs.matching.Matching.number_for.Goals as goal

pub returns-clause-keeps : goal.returns-clause-keeps
returns-clause-keeps c =
    let none : found_in c.args.self.now.keys.entries c.args.key.items ≡ None = sym c.get.ensures.value
    ∙ (sym c.copied.ensures ∙ c.in_default.is) in
    kept_now c.args.key c.args.own c.args.self.now.keys.entries c.insert.new.self.entries none
    c.in_ok-insert.ensures.entries
