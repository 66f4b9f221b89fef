use Rattle.std.proofs.Common.{◌<◌, ◌≤◌, length, below_more, arith}
use Rattle.std.proofs.lemmas.Option.{slice_get-get_or}
use Rattle.spv_versions.proofs.Hitting.{listed_at}
use Rattle.spv_versions.proofs.Listed.{line_at, none_listed}
use Rattle.spv_versions.proofs.lines.listed_line.Goals as goal
use Rattle.spv_versions.proofs.lines.listed_line.Goals.{else-flags-k-via-then-flags-k+else-is_of, else-flags-k-via-else-flags-k}

pub returns-then-is_of : goal.returns-then-is_of
returns-then-is_of c =
    let ls = c.args.lines.now in
    let within : c.loop-k.k < length c.args.lines.now = omega arith in
    listed_at ls c.args.flags.now c.args.kind c.args.number c.loop-k.k _ (slice_get-get_or ls c.loop-k.k _ within)
    c.if-flags-k.true (c.is_of.ensures.0 c.if-is_of.true)

pub loop-k-preserved : goal.loop-k-preserved
loop-k-preserved c =
    let ls = c.args.lines.now in
    let within : c.loop-k.k < length c.args.lines.now = omega arith in
    below_more _ _ c.loop-k.invariant (λ h. elim c.else-flags-k.branch [
      | else-flags-k-via-then-flags-k+else-is_of w ↦
          let of = line_at ls c.args.flags.now c.args.kind c.args.number c.loop-k.k _
          (slice_get-get_or ls c.loop-k.k _ within) h in
          let on = w.is_of.ensures.1 of.1 in let off = w.if-is_of.false in cc
      | else-flags-k-via-else-flags-k w ↦ let on = h.2 in let off = w.if-flags-k.false in cc
    ])

pub returns : goal.returns
returns c =
    let past : length c.args.lines.now ≤ c.loop-k.k = omega arith in
    none_listed c.args.lines.now c.args.flags.now c.args.kind c.args.number c.loop-k.k c.loop-k.invariant past
