use Rattle.std.proofs.Common.{◌≡◌, ◌<◌, List, [], ◌∷◌, ◌++◌, take, map, length, string_bytes, refl, sym, ap, ◌∙◌, arith, subst, append_assoc, append-nil}
use Rattle.std.proofs.lemmas.List.{take_more, map-append, take_all}
use Rattle.std.specs.List.Sorted.{IsStrictlySortedBy}
use Rattle.std.specs.Map.{keys_of}
use Rattle.std.specs.String.{string_cmp}
use Rattle.serde_json.specs.Data.{Data, string}
use Rattle.serde_json.specs.View.{items_of}
use Rattle.serde_json.specs.View as serde
use Rattle.serde_json.proofs.Views.{Entry, put_last}
use Rattle.json_tree.specs.View as seen
use Rattle.json_tree.specs.View.{Content, paired, members_of}
use Rattle.json_tree.proofs.Values.{Value}
use Rattle.json_tree.proofs.Runs.{datas, no_run, run_append, leaf_run, array_run, object_run, closed_at, datas-push, datas-push_two, two_more, on_ok}
use Rattle.json_tree.proofs.Pairs.{members_of-push, paired-push}
use Rattle.json_tree.proofs.of.+of.Goals as goal

pub of_items-loop-item-init : goal.of_items-loop-item-init
of_items-loop-item-init t c = ([], [], sym (append-nil c.push_null.new.self), no_run, refl)

pub of_items-loop-item-preserved : goal.of_items-loop-item-preserved
of_items-loop-item-preserved t c =
    let i = c.loop-item.invariant in
    let one = c.in_ok-of_value.ensures in
    let xs = c.deref-item-items.result.now in
    let k = c.loop-item.item-index in
    let d = serde.view c.item-item.result in
    let less : k < length xs = omega arith in
    let front = ap (map serde.view) (take_more xs k c.item-item.result less ∙ ap (λ x. take k xs ++ x ∷ []) (sym c.item-item.is)) ∙ map-append serde.view (take k xs) (c.item-item.result ∷ []) in (
      i.0 ++ one.own,
      i.1 ++ (one.inner, d) ∷ [],
      one.added ∙ ap (λ (cs : List Content). cs ++ one.own) i.2 ∙ append_assoc c.push_null.new.self i.0 one.own,
      run_append i.0 one.own i.1 ((one.inner, d) ∷ []) i.3 one.run,
      datas-push i.1 (one.inner, d) ∙ ap (λ (ds : List Data). ds ++ d ∷ []) i.4 ∙ sym front,
    )

pub of_items-returns : goal.of_items-returns
of_items-returns t c =
    let i = c.loop-item.invariant in
    let xs = c.deref-item-items.result.now in
    let whole : take c.loop-item.item-index xs ≡ xs = take_all c.loop-item.item-index xs (omega arith) in
    let same : datas i.1 ≡ map serde.view c.args.items.now.items = i.4 ∙ ap (map serde.view) (whole ∙ c.deref-item-items.ensures.value) in
    let base : c.push_null.new.self ≡ c.args.nodes.now ++ seen.null ∷ [] = c.in_ok-push_null.ensures in
    let all : c.loop-item.nodes ≡ (c.args.nodes.now ++ seen.null ∷ []) ++ i.0 = i.2 ∙ ap (λ (cs : List Content). cs ++ i.0) base in
    let there = closed_at c.args.nodes.now i.0 c.loop-item.nodes seen.null seen.array all c.len-place.result c.len-place.ensures in
    let run = array_run i.0 i.1 i.3 in
    on_ok c.close_array.result c.close_array.ensures (λ made. record {
      own = seen.array (length i.0) ∷ i.0;
      inner = length i.0;
      added = made ∙ there;
      run = rw same at run;
    })

pub of_members-loop-key-init : goal.of_members-loop-key-init
of_members-loop-key-init t c = ([], [], [], [], sym (append-nil c.push_null.new.self), no_run, refl, grind arith, refl)

pub of_members-loop-key-preserved : goal.of_members-loop-key-preserved
of_members-loop-key-preserved t c =
    let i = c.loop-key.invariant in
    let done = i.3 in
    let e : Entry = (c.in-Some.key.now, c.in-Some.member.now) in
    let left = c.next.new.self in
    let k = c.as_str.result.now in
    let d = serde.view e.1 in
    let one = c.in_ok-of_value.ensures in
    let key : Value = (0, string k) in
    let pair = run_append (seen.string k ∷ []) one.own (key ∷ []) ((one.inner, d) ∷ []) (leaf_run (seen.string k) (string k) (λ ws. refl)) one.run in
    let nodes = one.added ∙ ap (λ (cs : List Content). cs ++ one.own) (c.in_ok-push_text.ensures ∙ ap (λ (cs : List Content). cs ++ seen.string k ∷ []) i.4) ∙ two_more c.push_null.new.self i.0 (seen.string k) one.own in
    let all : c.args.members.now.entries ≡ done ++ e ∷ left = i.7 ∙ ap (λ es. done ++ es) c.in-Some.ensures.steps in
    let last = put_last done e left (subst (λ es. IsStrictlySortedBy string_cmp (keys_of es)) all c.iter-key-items.ensures.ordered) in
    let named : k ≡ string_bytes e.0 = c.as_str.ensures.value in (
      i.0 ++ seen.string k ∷ one.own,
      i.1 ++ key ∷ (one.inner, d) ∷ [],
      i.2 ++ (k, d) ∷ [],
      done ++ e ∷ [],
      nodes,
      run_append i.0 (seen.string k ∷ one.own) i.1 (key ∷ (one.inner, d) ∷ []) i.5 pair,
      ap paired (datas-push_two i.1 key (one.inner, d)) ∙ paired-push (datas i.1) i.2 k d i.6,
      all ∙ sym (append_assoc done (e ∷ []) left),
      members_of-push i.2 (k, d) ∙ rw (named, i.8) last,
    )

pub of_members-returns : goal.of_members-returns
of_members-returns t c =
    let i = c.loop-key.invariant in
    let base : c.push_null.new.self ≡ c.args.nodes.now ++ seen.null ∷ [] = c.in_ok-push_null.ensures in
    let all : c.loop-key.nodes ≡ (c.args.nodes.now ++ seen.null ∷ []) ++ i.0 = i.4 ∙ ap (λ (cs : List Content). cs ++ i.0) base in
    let there = closed_at c.args.nodes.now i.0 c.loop-key.nodes seen.null seen.object all c.len-place.result c.len-place.ensures in
    let entries : c.args.members.now.entries ≡ i.3 = i.7 ∙ ap (λ es. i.3 ++ es) c.in-None.ensures.steps.0 ∙ append-nil i.3 in
    let same : members_of i.2 ≡ serde.members_view c.args.members.now.entries = i.8 ∙ ap serde.members_view (sym entries) in
    let run = object_run i.0 i.1 i.2 i.5 i.6 in
    on_ok c.close_object.result c.close_object.ensures (λ made. record {
      own = seen.object (length i.0) ∷ i.0;
      inner = length i.0;
      added = made ∙ there;
      run = rw same at run;
    })
