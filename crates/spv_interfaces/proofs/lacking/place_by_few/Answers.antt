use Rattle.std.proofs.Common.{ℕ, List, length, sym, subst}
use Rattle.spv_flow.proofs.lemmas.calls.Marking.{within_moved}
use Rattle.spv_interfaces.specs.inner.Lacking.{AreMarks, IsFirstPlace, IsLacking}
use Rattle.spv_interfaces.proofs.Missing.{place_told}
use Rattle.spv_interfaces.proofs.lacking.place_by_few.Goals as goal

pub marks_of-requires-clause-within : goal.marks_of-requires-clause-within
marks_of-requires-clause-within c = within_moved (length c.args.definitions.now) c.args.total
    c.args.tree.now.calls.now (sym c.requires.total) c.requires.turned.within

pub returns-clause-within : goal.returns-clause-within
returns-clause-within c = c.first_place.ensures.within

pub returns-clause-first : goal.returns-clause-first
returns-clause-first c = λ G minor used.
    let is = c.args.definitions.now in
    let calls = c.args.tree.now.calls.now in
    let uses = c.args.tree.now.uses.now in
    let few = c.args.few.now in
    let entries = c.args.entries.now in
    let marks = c.in_ok-marks.marks in
    let reached = marks.reached.items in
    let named = marks.named.items in
    let told : AreMarks (length is) calls uses few reached named =
    subst (λ (n : ℕ). AreMarks n calls uses few reached named) c.requires.total c.in_ok-marks.ensures in
    let seen : IsFirstPlace (IsLacking is reached c.as_slice-2.result.now)
    (IsLacking is reached c.as_slice-2.result.now) entries c.args.to c.first_place.result =
    subst (λ (ws : List ℕ). IsFirstPlace (IsLacking is ws c.as_slice-2.result.now)
    (IsLacking is ws c.as_slice-2.result.now) entries c.args.to c.first_place.result) c.as_slice.ensures.value
    c.first_place.ensures in
    place_told G minor is entries few calls uses reached named c.requires.turned told used c.args.to
    c.first_place.result
    (subst (λ (ws : List ℕ). IsFirstPlace (IsLacking is reached ws) (IsLacking is reached ws) entries c.args.to
    c.first_place.result) c.as_slice-2.ensures.value seen)
