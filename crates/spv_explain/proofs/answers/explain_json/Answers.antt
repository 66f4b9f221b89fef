use Rattle.std.proofs.Common.{ℕ, Ok, option_map}
use Rattle.spv_explain.proofs.Objects.{refused_explained}
use Rattle.spv_explain.proofs.answers.explain_json.Goals as goal

pub returns-in-Ok-explain_refused : goal.returns-in-Ok-explain_refused
returns-in-Ok-explain_refused c =
    refused_explained {E = ℕ} c.args.table.now c.args.reach
    (option_map (λ n. n.now) c.args.name) c.args.bytes.now c.in-Err.code
    (Ok c.in-Ok-explain_refused.answer) c.in-Err.ensures.refuses c.in-Ok-explain_refused.ensures.judgment
    (rw c.front_of.ensures at c.in-Ok-explain_refused.ensures.text)
