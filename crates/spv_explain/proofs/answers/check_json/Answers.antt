use Rattle.std.proofs.Common.{ℕ, Ok, option_map}
use Rattle.spv_explain.proofs.Objects.{refused_checked}
use Rattle.spv_explain.proofs.answers.check_json.Goals as goal

pub returns-in-Ok-check_refused : goal.returns-in-Ok-check_refused
returns-in-Ok-check_refused c =
    refused_checked {E = ℕ} c.args.table.now c.args.reach
    (option_map (λ n. n.now) c.args.name) c.args.bytes.now c.in-Err.code
    (Ok c.in-Ok-check_refused.answer) c.in-Err.ensures.refuses c.in-Ok-check_refused.ensures.judgment
    c.in-Ok-check_refused.ensures.text
