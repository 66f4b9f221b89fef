use Rattle.std.proofs.Common.{◌∙◌, ap, not}
use Rattle.spv_standard.proofs.Singles.{alone_at, none_of_three, nothing_found, second_none}
use Rattle.spv_standard.proofs.alone.found_by_all.Goals as goal

pub returns-then-is_none-3 : goal.returns-then-is_none-3
returns-then-is_none-3 c = λ minor late asked.
    let G = c.args.capabilities.now.table in
    let is = c.args.definitions.now in
    let n = c.args.number in
    let x = nothing_found c.in_ok-operands.operands (c.is_none.ensures ∙ ap not c.if-is_none.true) in
    let y = nothing_found c.version_at-version.result (c.is_none-then-is_none.ensures ∙ ap not c.if-is_none-2.true) in
    let z = nothing_found c.in_ok-limits.limits (c.is_none-then-is_none-2.ensures ∙ ap not c.if-is_none-3.true) in (
      none_of_three G minor is n c.in_ok-operands.operands c.version_at-version.result c.in_ok-limits.limits x y z
          (c.in_ok-operands.ensures asked.operands)
          (c.version_at-version.ensures G minor late asked.version)
          (c.in_ok-limits.ensures.first
          (λ z. (asked.limits z c.args.counts.now c.requires.counted).0)),
      λ none. c.in_ok-limits.ensures.counted
          (λ z. (asked.limits z c.args.counts.now c.requires.counted).1) z,
    )

pub returns : goal.returns
returns c = λ minor late asked.
    let G = c.args.capabilities.now.table in
    let is = c.args.definitions.now in
    let n = c.args.number in (
      alone_at G minor is n c.in_ok-operands.operands c.version_at-version.result c.in_ok-limits.limits
          c.earlier-found.result c.earlier.result (c.in_ok-operands.ensures asked.operands)
          (c.version_at-version.ensures G minor late asked.version)
          (c.in_ok-limits.ensures.first
          (λ z. (asked.limits z c.args.counts.now c.requires.counted).0)) c.earlier-found.ensures c.earlier.ensures,
      λ none. c.in_ok-limits.ensures.counted
          (λ z. (asked.limits z c.args.counts.now c.requires.counted).1)
          (second_none c.earlier-found.result c.in_ok-limits.limits c.earlier.result c.earlier.ensures none),
    )
