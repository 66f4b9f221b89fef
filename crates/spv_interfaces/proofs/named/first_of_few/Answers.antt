use Rattle.std.proofs.Common.{◌∙◌, sym, length, arith}
use Rattle.std.proofs.lemmas.Option.{slice_get_within}
use Rattle.spv_flow.proofs.lemmas.calls.Bridge.{calls_within}
use Rattle.spv_flow.proofs.lemmas.calls.Marking.{within_moved}
use Rattle.spv_interfaces.specs.inner.Entries.{IsUnnamed}
use Rattle.spv_interfaces.proofs.Clearing.{named_blank, reached_blank}
use Rattle.spv_interfaces.proofs.Naming.{bit_tells, first_by}
use Rattle.spv_interfaces.proofs.named.first_of_few.Goals as goal

pub spread-requires : goal.spread-requires
spread-requires c =
    let is = c.args.definitions.now in
    let calls = c.args.tree.now.calls.now in
    within_moved (length is) (length c.begin_all.new.marks.reached.items) calls
    (sym c.begin_all.ensures.reached_count) (calls_within is (length is) calls c.requires.calls)

pub returns-clause-fresh : goal.returns-clause-fresh
returns-clause-fresh c =
    let is = c.args.definitions.now in
    let few = c.args.few.now in
    let calls = c.args.tree.now.calls.now in
    let m = c.begin_all.new.marks in
    let b = c.begin_all.ensures in
    let g = c.spread.ensures.grows in
    let p = c.clear_calls.ensures in
    let q = c.end_all.ensures in
    let last = c.end_all.new.marks in
    record {
      reached_count = q.reached.count ∙ p.count ∙ g.rises.count ∙ b.reached_count;
      named_count = q.named.count ∙ b.named_count;
      not_reached = reached_blank is few calls m.reached.items c.spread.new.words.items c.clear_calls.new.words.items
          last.reached.items b.reached g p q.reached;
      not_named = named_blank is few m.named.items last.named.items b.named q.named;
    }

pub returns-clause-first : goal.returns-clause-first
returns-clause-first c = λ G minor used.
    let is = c.args.definitions.now in
    let few = c.args.few.now in
    let m = c.begin_all.new.marks in
    let b = c.begin_all.ensures in
    let tells = bit_tells G minor is few c.args.tree.now.calls.now c.args.tree.now.uses.now m.reached.items
    c.spread.new.words.items m.named.items b.reached b.named c.spread.ensures.grows c.spread.ensures.closed
    c.requires.calls used in
    first_by (IsUnnamed G minor is) few c.missing-missing.result c.first_of.result
    (λ k n at.
    let w = slice_get_within few k n at in
    let f = c.requires.few in
    let e = c.missing-missing.ensures k (omega (arith, w, f)) in
    let t = tells k n at in
    (λ h. t.0 (e.0 h), λ u. e.1 (t.1 u))) c.first_of.ensures
