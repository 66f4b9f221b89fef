use Rattle.std.proofs.Common.{◌≢◌, ◌<◌, true, false, length, refl, sym, subst, inl, inr, arith, length-set, get_or-set_other}
use Rattle.std.proofs.lemmas.List.{get_or-replicate}
use Rattle.std.proofs.lemmas.Bool.{cases_lt}
use Rattle.std.proofs.lemmas.Option.{slice_get-get_or, slice_get_within}
use Rattle.spv_versions.specs.Table.{IsBefore}
use Rattle.spv_versions.proofs.Undated.{lacked_more, never}
use Rattle.spv_versions.proofs.lines.lacking.Goals as goal

pub returns-clause-each : goal.returns-clause-each
returns-clause-each c = λ k l e.
    let within = slice_get_within c.args.lines.now k l e in elim (cases_lt k 39) [
      | inl a ↦ c.loop-k.invariant.below k l (omega (arith, a)) e
      | inr b ↦ (
        λ _. subst (IsBefore c.args.minor) (sym (never c.args.lines.now k l c.requires b e)) tt,
        λ _. c.loop-k.invariant.above k (omega (arith, b)) (omega (arith, within)),
      )
    ]

pub loop-k-init : goal.loop-k-init
loop-k-init c = record {
  count = refl;
  below = λ j r l e. absurd (omega (arith, l));
  above = λ j l w. get_or-replicate 97 j true false w;
}

pub loop-k-preserved : goal.loop-k-preserved
loop-k-preserved c =
    let ls = c.args.lines.now in
    let there : c.loop-k.k < length c.args.lines.now = omega arith in
    let within : c.loop-k.k < length c.loop-k.flags = omega (arith, c.loop-k.invariant.count) in
    record {
      count = rw length-set c.loop-k.invariant.count;
      below = lacked_more ls c.loop-k.flags c.args.minor c.loop-k.k _ _ (slice_get-get_or ls c.loop-k.k _ there)
          c.is_before.ensures within c.loop-k.invariant.below;
      above = λ j l w.
          let apart : j ≢ c.loop-k.k = λ e. omega (arith, l, e) in
          rw get_or-set_other (c.loop-k.invariant.above j (omega (arith, l)) w);
    }
