use Rattle.std.proofs.Common.{◌≡◌, ◌+◌, [], ◌∷◌, map, length, length-append, ap, sym, subst, arith}
use Rattle.std.proofs.lemmas.List.{length-map}
use Rattle.spv_module.specs.Module.{plain_inst}
use Rattle.spv_run.specs.inner.Bodies.{HaveEntriesBefore}
use Rattle.spv_run.proofs.Moving.{entries_none, entries_more, entries_all}
use Rattle.spv_run.proofs.bodies.entries_of.Goals as goal

pub loop-at-init : goal.loop-at-init
loop-at-init c = (
  ap length c.in_ok-entries.ensures.items,
  entries_none (map plain_inst c.args.insts.now) c.in_ok-entries.entries.items,
)

pub loop-at-preserved : goal.loop-at-preserved
loop-at-preserved c =
    let items = c.in_ok-push.ensures.items in
    let a = ap length items in
    let b = length-append c.loop-at.entries.items (c.entry_at.result ∷ []) in
    let n = c.loop-at.invariant.0 in (
      omega (arith, a, b, n),
      subst (λ es. HaveEntriesBefore (map plain_inst c.args.insts.now) (c.loop-at.at + 1) es) (sym items)
          (entries_more (map plain_inst c.args.insts.now) c.loop-at.at c.loop-at.entries.items c.entry_at.result n
          c.loop-at.invariant.1 c.entry_at.ensures),
    )

pub returns : goal.returns
returns c =
    let e : length (map plain_inst c.args.insts.now) ≡ length c.args.insts.now = length-map c.args.insts.now plain_inst
    in
    entries_all (map plain_inst c.args.insts.now) c.loop-at.at c.loop-at.entries.items
    (omega (arith, e, c.loop-at-test.false)) c.loop-at.invariant.1
