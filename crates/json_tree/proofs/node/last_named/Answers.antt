use Rattle.std.proofs.Common.{◌≡◌, ℕ, true, false, List, [], ◌∷◌, ◌++◌, bytes_eq, refl, sym, ap, ◌∙◌, append_assoc, append-nil}
use Rattle.serde_json.specs.Data.{Data}
use Rattle.serde_json.specs.Find.{get_member}
use Rattle.json_tree.specs.View.{view, members_of, members_left}
use Rattle.json_tree.proofs.Pairs.{last_named, last_other}
use Rattle.json_tree.proofs.node.last_named.Goals as goal

pub loop-key-init : goal.loop-key-init
loop-key-init c = ([], ap members_left (sym c.into_iter-key-iterator.ensures.into_iter_gives), refl)

pub loop-key-preserved-then-eq : goal.loop-key-preserved-then-eq
loop-key-preserved-then-eq c =
    let l = c.loop-key in
    let done = l.invariant.0 in
    let m : List ℕ × Data = (c.in-Some.key.now, view c.in-Some.value) in
    let same : bytes_eq m.0 c.args.name.now ≡ true = sym c.eq.ensures ∙ c.if-eq.true in
    (done ++ m ∷ [], l.invariant.1 ∙ ap (λ (ms : List (List ℕ × Data)). done ++ ms) c.in-Some.ensures.steps ∙ sym (append_assoc done (m ∷ []) (members_left c.next.new.self)), sym (last_named c.args.name.now done m same))

pub loop-key-preserved : goal.loop-key-preserved
loop-key-preserved c =
    let l = c.loop-key in
    let done = l.invariant.0 in
    let m : List ℕ × Data = (c.in-Some.key.now, view c.in-Some.value) in
    let other : bytes_eq m.0 c.args.name.now ≡ false = sym c.eq.ensures ∙ c.if-eq.false in (
      done ++ m ∷ [],
      l.invariant.1 ∙ ap (λ (ms : List (List ℕ × Data)). done ++ ms) c.in-Some.ensures.steps ∙ sym (append_assoc done (m ∷ []) (members_left c.next.new.self)),
      l.invariant.2 ∙ sym (last_other c.args.name.now done m other),
    )

pub returns : goal.returns
returns c =
    let l = c.loop-key in
    let all : members_left c.args.members ≡ l.invariant.0 = l.invariant.1 ∙ ap (λ (ms : List (List ℕ × Data)). l.invariant.0 ++ ms) c.in-None.ensures.steps.0 ∙ append-nil l.invariant.0 in
    l.invariant.2 ∙ sym (ap (λ ms. get_member c.args.name.now (members_of ms)) all)
