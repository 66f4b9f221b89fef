use Rattle.std.proofs.Common.{◌<◌, length, below_more, inl, inr, arith}
use Rattle.std.proofs.lemmas.Bool.{cases_lt}
use Rattle.std.proofs.lemmas.Option.{slice_get-get_or}
use Rattle.spv_versions.specs.inner.Told.{place_of}
use Rattle.spv_versions.proofs.Listed.{noted}
use Rattle.spv_versions.proofs.Undated.{above_listed}
use Rattle.spv_versions.proofs.lines.least_numbers.Goals as goal

pub loop-k-preserved : goal.loop-k-preserved
loop-k-preserved c =
    let ls = c.args.lines.now in
    let here : c.loop-k.k < length c.args.lines.now = omega arith in
    record {
      below = below_more _ _ (λ j l k n h.
          let b = c.loop-k.invariant.below j l k n h in
          let low = c.note_line.ensures.others (place_of k) in omega (arith, b, low))
          (noted ls c.args.flags.now c.note_line.new.least c.loop-k.k _ (slice_get-get_or ls c.loop-k.k _ here)
          c.note_line.ensures.own);
      start = λ p.
          let s = c.loop-k.invariant.start p in
          let low = c.note_line.ensures.others p in omega (arith, s, low);
    }

pub returns : goal.returns
returns c = λ k n h. elim (cases_lt h.0 39) [
  | inl a ↦ c.loop-k.invariant.below h.0 (omega (arith, a)) k n h.1
  | inr b ↦
      let low = above_listed c.args.lines.now c.args.flags.now k n h.0 c.requires b h.1 in
      let start = c.loop-k.invariant.start (place_of k) in omega (arith, low, start)
]
