use Rattle.std.proofs.Common.{◌≡◌, ◌<◌, List, Some, length, sym, subst, arith, length-set}
use Rattle.std.specs.Prelude.{slice_get}
use Rattle.std.proofs.lemmas.Option.{slice_get-get_or}
use Rattle.spv_versions.specs.declared.table.Kind.{Kind}
use Rattle.spv_versions.proofs.Numbering.{as_many, kind_within, known_more}
use Rattle.spv_versions.proofs.kinds.Kinds.of_missing.Goals as goal

pub loop-k-preserved : goal.loop-k-preserved
loop-k-preserved c =
    let many = as_many c.kinds-kinds.result.now c.kinds-kinds.ensures in
    let there : c.loop-k.k < length c.kinds-kinds.result.now = omega (arith, many) in
    let within : c.loop-k.k < length c.loop-k.numbers = omega (arith, c.loop-k.invariant.0) in (
      rw length-set c.loop-k.invariant.0,
      known_more c.args.table.now c.args.missing.now.lines c.kinds-kinds.result.now c.loop-k.numbers c.loop-k.k _ _
          (slice_get-get_or c.kinds-kinds.result.now c.loop-k.k _ there) c.missing_number_of.ensures within
          c.loop-k.invariant.1,
    )

pub returns : goal.returns
returns c = λ p k e.
    let w = kind_within p k e in
    c.loop-k.invariant.1 p k (omega (arith, w))
    (subst (λ (ks : List Kind). slice_get ks p ≡ Some k) (sym c.kinds-kinds.ensures) e)
