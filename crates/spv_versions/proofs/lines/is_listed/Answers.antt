use Rattle.std.proofs.Common.{◌<◌, length, below_more, refl, inl, inr, arith}
use Rattle.std.proofs.lemmas.Bool.{cases_lt, false≢true}
use Rattle.std.proofs.lemmas.Option.{slice_get-get_or}
use Rattle.spv_versions.proofs.Listed.{line_at, listed_here, within}
use Rattle.spv_versions.proofs.Undated.{above_listed}
use Rattle.spv_versions.proofs.lines.is_listed.Goals as goal
use Rattle.spv_versions.proofs.lines.is_listed.Goals.{else-flags-k-via-then-flags-k+else-is_of, else-flags-k-via-else-flags-k}

pub returns-then-is_of : goal.returns-then-is_of
returns-then-is_of c =
    let ls = c.args.lines.now in
    let within : c.loop-k.k < length c.args.lines.now = omega arith in (
      λ _. listed_here ls c.args.flags.now c.args.kind c.args.number c.loop-k.k _ (slice_get-get_or ls c.loop-k.k _ within)
          c.if-flags-k.true (c.is_of.ensures.0 c.if-is_of.true),
      λ _. refl,
    )

pub loop-k-preserved : goal.loop-k-preserved
loop-k-preserved c =
    let ls = c.args.lines.now in
    let within : c.loop-k.k < length c.args.lines.now = omega arith in
    below_more _ _ c.loop-k.invariant (λ h. elim c.else-flags-k.branch [
      | else-flags-k-via-then-flags-k+else-is_of w ↦
          let of = line_at ls c.args.flags.now c.args.kind c.args.number c.loop-k.k _
          (slice_get-get_or ls c.loop-k.k _ within) h in
          let on = w.is_of.ensures.1 of.1 in let off = w.if-is_of.false in cc
      | else-flags-k-via-else-flags-k w ↦ let on = h.2 in let off = w.if-flags-k.false in cc
    ])

pub returns : goal.returns
returns c = (
  λ e. absurd (false≢true e),
  λ h. elim (cases_lt h.0 c.loop-k.k) [
    | inl a ↦ absurd (c.loop-k.invariant h.0 a h.1)
    | inr b ↦
        let w = within c.args.lines.now c.args.flags.now c.args.kind c.args.number h.0 h.1 in
        let past = c.looked_at-k-end.ensures.all h.0 (omega arith) (omega (arith, w)) in
        let low = above_listed c.args.lines.now c.args.flags.now c.args.kind c.args.number h.0 c.requires past.0 h.1 in
        let under = past.1 in absurd (omega (arith, low, under))
  ],
)
