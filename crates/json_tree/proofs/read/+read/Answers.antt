use Rattle.std.proofs.Common.{◌≡◌, ◌-◌, ◌<◌, List, [], ◌∷◌, ◌++◌, length, Some, None, refl, sym, ap, ap₂, ◌∙◌, arith, append_assoc, append-nil}
use Rattle.json.specs.Token.{Token}
use Rattle.json.specs.Json.{parse_map, after_end_array, read_key, items, members, value}
use Rattle.json.specs.Reads.{token_of}
use Rattle.json.proofs.Grammar.{value_is, value-begin_array, value-begin_object, read_key-shorter}
use Rattle.serde_json.specs.Data.{Data, null, boolean, number, string, array, object}
use Rattle.serde_json.specs.Read.{of_json, of_items, of_members, converted}
use Rattle.serde_json.specs.View.{number_view, items_of}
use Rattle.json_tree.specs.View as seen
use Rattle.json_tree.specs.View.{Content, paired, members_of}
use Rattle.json_tree.proofs.Values.{Value}
use Rattle.json_tree.proofs.Runs.{datas, no_run, run_append, leaf_run, array_run, object_run, closed_at, items_before, items_before-no_items, one_more_item, none_before, datas-push, datas-push_two, two_more, on_ok}
use Rattle.json_tree.proofs.Pairs.{members_of-push, paired-push}
use Rattle.json_tree.proofs.Reading.{converted-array, converted-object, item_read, item_refused, items_over, member_read, member_refused, key_refused, members_over}
use Rattle.json_tree.proofs.read.+read.Goals as goal

pub read-returns-in_err-token-clause-err : goal.read-returns-in_err-token-clause-err
read-returns-in_err-token-clause-err t c refused =
    let empty : c.args.reader.now ≡ [] = grind arith in
    ap (converted of_json) (ap (value c.args.depth) empty ∙ value_is c.args.depth [])

pub read-returns-then-depth-eq0-clause-err : goal.read-returns-then-depth-eq0-clause-err
unfolding value
read-returns-then-depth-eq0-clause-err t c never =
    let first : c.args.reader.now ≡ token_of c.in_ok-token.token ∷ c.next.new.self = grind arith in
    let none : c.args.depth ≡ 0 = omega arith in
    ap (converted of_json) (ap₂ value none (first ∙ ap (λ k. token_of k ∷ c.next.new.self) c.in-BeginArray.is))

pub read-returns-then-depth-eq0-2-clause-err : goal.read-returns-then-depth-eq0-2-clause-err
unfolding value
read-returns-then-depth-eq0-2-clause-err t c never =
    let first : c.args.reader.now ≡ token_of c.in_ok-token.token ∷ c.next.new.self = grind arith in
    let none : c.args.depth ≡ 0 = omega arith in
    ap (converted of_json) (ap₂ value none (first ∙ ap (λ k. token_of k ∷ c.next.new.self) c.in-BeginObject.is))

pub read-returns-in_ok-push_text-in-String-clause-ok : goal.read-returns-in_ok-push_text-in-String-clause-ok
read-returns-in_ok-push_text-in-String-clause-ok t c =
    let first : c.args.reader.now ≡ token_of c.in_ok-token.token ∷ c.next.new.self = grind arith in
    let is : c.args.reader.now ≡ Token.string c.in-String.text.now ∷ c.next.new.self = grind (arith, first) in
    let d = string c.in-String.text.now in
    let own = seen.string c.in-String.text.now in
    (d, ap (converted of_json) (ap (value c.args.depth) is ∙ value_is c.args.depth _), record { own = own ∷ []; inner = 0; added = c.in_ok-push_text-in-String.ensures; run = leaf_run own d (λ ws. refl) })

pub read-returns-in_ok-push_bool-in-Bool-clause-ok : goal.read-returns-in_ok-push_bool-in-Bool-clause-ok
read-returns-in_ok-push_bool-in-Bool-clause-ok t c =
    let first : c.args.reader.now ≡ token_of c.in_ok-token.token ∷ c.next.new.self = grind arith in
    let is : c.args.reader.now ≡ Token.boolean c.in-Bool.b ∷ c.next.new.self = grind (arith, first) in
    let d = boolean c.in-Bool.b in
    let own = seen.boolean c.in-Bool.b in
    (d, ap (converted of_json) (ap (value c.args.depth) is ∙ value_is c.args.depth _), record { own = own ∷ []; inner = 0; added = c.in_ok-push_bool-in-Bool.ensures; run = leaf_run own d (λ ws. refl) })

pub read-returns-in_ok-push_null-in-Null-clause-ok : goal.read-returns-in_ok-push_null-in-Null-clause-ok
read-returns-in_ok-push_null-in-Null-clause-ok t c =
    let first : c.args.reader.now ≡ token_of c.in_ok-token.token ∷ c.next.new.self = grind arith in
    let is : c.args.reader.now ≡ Token.null ∷ c.next.new.self = grind (arith, first) in
    (null, ap (converted of_json) (ap (value c.args.depth) is ∙ value_is c.args.depth _), record { own = seen.null ∷ []; inner = 0; added = c.in_ok-push_null-in-Null.ensures; run = leaf_run seen.null null (λ ws. refl) })

pub read-returns-in_ok-push_number-in-Some-clause-ok : goal.read-returns-in_ok-push_number-in-Some-clause-ok
read-returns-in_ok-push_number-in-Some-clause-ok t c =
    let first : c.args.reader.now ≡ token_of c.in_ok-token.token ∷ c.next.new.self = grind arith in
    let is : c.args.reader.now ≡ Token.number c.in-Number.text.now ∷ c.next.new.self = grind (arith, first) in
    let x = number_view c.in-Some.number in
    let own = seen.number x in (
      number x,
      ap (converted of_json) (ap (value c.args.depth) is ∙ value_is c.args.depth _) ∙ rw (← c.in-Some.ensures),
      record { own = own ∷ []; inner = 0; added = c.in_ok-push_number-in-Some.ensures; run = leaf_run own (number x) (λ ws. refl) },
    )

pub read-returns-in-None-clause-err : goal.read-returns-in-None-clause-err
read-returns-in-None-clause-err t c refused =
    let first : c.args.reader.now ≡ token_of c.in_ok-token.token ∷ c.next.new.self = grind arith in
    let is : c.args.reader.now ≡ Token.number c.in-Number.text.now ∷ c.next.new.self = grind (arith, first) in
    ap (converted of_json) (ap (value c.args.depth) is ∙ value_is c.args.depth _) ∙ rw (← c.in-None.ensures)

pub read-returns-in-EndObject-clause-err : goal.read-returns-in-EndObject-clause-err
read-returns-in-EndObject-clause-err t c refused =
    let first : c.args.reader.now ≡ token_of c.in_ok-token.token ∷ c.next.new.self = grind arith in
    let none : value c.args.depth c.args.reader.now ≡ None = rw (value_is c.args.depth c.args.reader.now, first) (grind arith) in
    ap (converted of_json) none

pub read-returns-else-depth-eq0-clause-ok : goal.read-returns-else-depth-eq0-clause-ok
read-returns-else-depth-eq0-clause-ok t c =
    let first : c.args.reader.now ≡ token_of c.in_ok-token.token ∷ c.next.new.self = grind arith in
    let opened = ap (converted of_json) (ap (value c.args.depth) (first ∙ ap (λ k. token_of k ∷ c.next.new.self) c.in-BeginArray.is) ∙ value-begin_array c.args.depth c.next.new.self (omega arith)) ∙ converted-array (items (value (c.args.depth - 1)) (length c.next.new.self) c.next.new.self) in
    on_ok c.read_array.result c.read_array.ensures.ok (λ found. (array found.0, opened ∙ ap (parse_map array) found.1, found.2))

pub read-returns-else-depth-eq0-clause-err : goal.read-returns-else-depth-eq0-clause-err
read-returns-else-depth-eq0-clause-err t c refused =
    let first : c.args.reader.now ≡ token_of c.in_ok-token.token ∷ c.next.new.self = grind arith in
    let opened = ap (converted of_json) (ap (value c.args.depth) (first ∙ ap (λ k. token_of k ∷ c.next.new.self) c.in-BeginArray.is) ∙ value-begin_array c.args.depth c.next.new.self (omega arith)) ∙ converted-array (items (value (c.args.depth - 1)) (length c.next.new.self) c.next.new.self) in
    opened ∙ ap (parse_map array) (c.read_array.ensures.err refused)

pub read-returns-else-depth-eq0-2-clause-ok : goal.read-returns-else-depth-eq0-2-clause-ok
read-returns-else-depth-eq0-2-clause-ok t c =
    let first : c.args.reader.now ≡ token_of c.in_ok-token.token ∷ c.next.new.self = grind arith in
    let opened = ap (converted of_json) (ap (value c.args.depth) (first ∙ ap (λ k. token_of k ∷ c.next.new.self) c.in-BeginObject.is) ∙ value-begin_object c.args.depth c.next.new.self (omega arith)) ∙ converted-object (members (value (c.args.depth - 1)) (length c.next.new.self) c.next.new.self) in
    on_ok c.read_object.result c.read_object.ensures.ok (λ found. (object found.0, opened ∙ ap (parse_map object) found.1, found.2))

pub read-returns-else-depth-eq0-2-clause-err : goal.read-returns-else-depth-eq0-2-clause-err
read-returns-else-depth-eq0-2-clause-err t c refused =
    let first : c.args.reader.now ≡ token_of c.in_ok-token.token ∷ c.next.new.self = grind arith in
    let opened = ap (converted of_json) (ap (value c.args.depth) (first ∙ ap (λ k. token_of k ∷ c.next.new.self) c.in-BeginObject.is) ∙ value-begin_object c.args.depth c.next.new.self (omega arith)) ∙ converted-object (members (value (c.args.depth - 1)) (length c.next.new.self) c.next.new.self) in
    opened ∙ ap (parse_map object) (c.read_object.ensures.err refused)

pub read_array-items-init : goal.read_array-items-init
read_array-items-init t c =
    let all = converted of_items (items (value c.args.depth) (length c.args.reader.now) c.args.reader.now) in
    ([], [], length c.args.reader.now, sym (append-nil c.push_null.new.self), no_run, omega arith, none_before all, omega arith)

pub read_array-items-preserved : goal.read_array-items-preserved
read_array-items-preserved t c =
    let p = value c.args.depth in
    let i = c.items.invariant in
    let ts = c.items.reader in
    let going : (after_end_array ts ≡ None) × (c.take_end_array.new.self ≡ ts) = grind arith in
    let done = c.in_ok-read.ensures in
    let r = c.read.new.reader in
    let d = done.ok.0 in
    let one = done.ok.2 in
    let less : length r < length ts = rw (← going.1) done.shorter in
    let turn = item_read p i.2 ts r d (omega (arith, i.5)) going.0 (rw (← going.1) done.ok.1) in (
      i.0 ++ one.own,
      i.1 ++ (one.inner, d) ∷ [],
      i.2 - 1,
      one.added ∙ ap (λ (cs : List Content). cs ++ one.own) i.3 ∙ append_assoc c.push_null.new.self i.0 one.own,
      run_append i.0 one.own i.1 ((one.inner, d) ∷ []) i.4 one.run,
      omega (arith, i.5),
      i.6 ∙ ap (parse_map (items_before (datas i.1))) turn ∙ one_more_item (datas i.1) d _ ∙ ap (λ (ds : List Data). parse_map (items_before ds) (converted of_items (items p (i.2 - 1) r))) (sym (datas-push i.1 (one.inner, d))),
      omega (arith, i.7),
    )

pub read_array-returns-in_err-read-clause-err : goal.read_array-returns-in_err-read-clause-err
read_array-returns-in_err-read-clause-err t c refused =
    let p = value c.args.depth in
    let i = c.items.invariant in
    let going : (after_end_array c.items.reader ≡ None) × (c.take_end_array.new.self ≡ c.items.reader) = grind arith in
    i.6 ∙ ap (parse_map (items_before (datas i.1))) (item_refused p i.2 c.items.reader going.0 (rw (← going.1) (c.read.ensures.err (grind arith))))

pub read_array-returns-clause-ok : goal.read_array-returns-clause-ok
read_array-returns-clause-ok t c =
    let p = value c.args.depth in
    let i = c.items.invariant in
    let r = c.take_end_array.new.self in
    let ended : after_end_array c.items.reader ≡ Some r = grind arith in
    let nodes = c.push_null.new.self in
    let base : nodes ≡ c.args.nodes.now ++ seen.null ∷ [] = c.in_ok-push_null.ensures in
    let all : c.items.nodes ≡ (c.args.nodes.now ++ seen.null ∷ []) ++ i.0 = i.3 ∙ ap (λ (cs : List Content). cs ++ i.0) base in
    let there = closed_at c.args.nodes.now i.0 c.items.nodes seen.null seen.array all c.len-place.result c.len-place.ensures in (
      items_of (datas i.1),
      i.6 ∙ ap (parse_map (items_before (datas i.1))) (items_over p i.2 c.items.reader r i.5 ended) ∙ ap (λ ds. Some (ds, r)) (items_before-no_items (datas i.1)),
      record { own = seen.array (length i.0) ∷ i.0; inner = length i.0; added = c.in_ok-close_array.ensures ∙ there; run = array_run i.0 i.1 i.4 },
    )

pub read_object-members-init : goal.read_object-members-init
read_object-members-init t c = ([], [], [], length c.args.reader.now, sym (append-nil c.push_null.new.self), no_run, refl, omega arith, refl, omega arith)

pub read_object-returns-in_err-key-clause-err : goal.read_object-returns-in_err-key-clause-err
read_object-returns-in_err-key-clause-err t c refused =
    let i = c.members.invariant in
    i.8 ∙ key_refused (value c.args.depth) (members_of i.2) i.3 c.members.reader c.in_err-key.ensures.value

pub read_object-returns-in_err-read-clause-err : goal.read_object-returns-in_err-read-clause-err
read_object-returns-in_err-read-clause-err t c refused =
    let i = c.members.invariant in
    let k = c.in-Some.key.now in
    let s = c.next_key.new.self in
    let named : read_key c.members.reader ≡ Some (Some k, s) = grind arith in
    i.8 ∙ member_refused (value c.args.depth) (members_of i.2) i.3 k c.members.reader s named (c.read.ensures.err (grind arith))

pub read_object-members-preserved : goal.read_object-members-preserved
read_object-members-preserved t c =
    let p = value c.args.depth in
    let i = c.members.invariant in
    let k = c.in-Some.key.now in
    let s = c.next_key.new.self in
    let named : read_key c.members.reader ≡ Some (Some k, s) = grind arith in
    let done = c.in_ok-read.ensures in
    let r = c.read.new.reader in
    let d = done.ok.0 in
    let one = done.ok.2 in
    let less = read_key-shorter c.members.reader (Some k) s named in
    let lesser = done.shorter in
    let key : Value = (0, string k) in
    let pair = run_append (seen.string k ∷ []) one.own (key ∷ []) ((one.inner, d) ∷ []) (leaf_run (seen.string k) (string k) (λ ws. refl)) one.run in
    let pushed : c.push_text.new.self ≡ c.members.nodes ++ seen.string k ∷ [] = c.in_ok-push_text.ensures in
    let nodes : c.read.new.nodes ≡ c.push_null.new.self ++ (i.0 ++ seen.string k ∷ one.own) =
    one.added ∙ ap (λ (cs : List Content). cs ++ one.own) (pushed ∙ ap (λ (cs : List Content). cs ++ seen.string k ∷ []) i.4) ∙ two_more c.push_null.new.self i.0 (seen.string k) one.own in
    let inserted = members_of-push i.2 (k, d) in (
      i.0 ++ seen.string k ∷ one.own,
      i.1 ++ key ∷ (one.inner, d) ∷ [],
      i.2 ++ (k, d) ∷ [],
      i.3 - 1,
      nodes,
      run_append i.0 (seen.string k ∷ one.own) i.1 (key ∷ (one.inner, d) ∷ []) i.5 pair,
      ap paired (datas-push_two i.1 key (one.inner, d)) ∙ paired-push (datas i.1) i.2 k d i.6,
      omega (arith, i.7),
      i.8 ∙ member_read p (members_of i.2) i.3 k c.members.reader s r d (omega (arith, i.7)) named done.ok.1 ∙ ap (λ found. converted (λ ms. of_members ms found) (members p (i.3 - 1) r)) (sym inserted),
      omega (arith, i.9),
    )

pub read_object-returns-clause-ok : goal.read_object-returns-clause-ok
read_object-returns-clause-ok t c =
    let p = value c.args.depth in
    let i = c.members.invariant in
    let r = c.next_key.new.self in
    let ended : read_key c.members.reader ≡ Some (None, r) = grind arith in
    let nodes = c.push_null.new.self in
    let base : nodes ≡ c.args.nodes.now ++ seen.null ∷ [] = c.in_ok-push_null.ensures in
    let all : c.members.nodes ≡ (c.args.nodes.now ++ seen.null ∷ []) ++ i.0 = i.4 ∙ ap (λ (cs : List Content). cs ++ i.0) base in
    let there = closed_at c.args.nodes.now i.0 c.members.nodes seen.null seen.object all c.len-place.result c.len-place.ensures in (
      members_of i.2,
      i.8 ∙ members_over p (members_of i.2) i.3 c.members.reader r i.7 ended,
      record { own = seen.object (length i.0) ∷ i.0; inner = length i.0; added = c.in_ok-close_object.ensures ∙ there; run = object_run i.0 i.1 i.2 i.5 i.6 },
    )
