use Rattle.std.proofs.Common.{◌++◌, ◌∙◌, ap, arith, rules, string_bytes}
use Rattle.spv_lines.proofs.Quoting.{no_quote, within_cut, escape_step, escape_ascii, within_end, within_wrong}
use Rattle.spv_lines.proofs.Quoting.{within_none, mark_at}
use Rattle.spv_lines.proofs.quoted.read_quoted.Goals as goal

pub returns-in_default : goal.returns-in_default
returns-in_default c = λ t v. no_quote c.args.text.now t v c.in_default.ensures

pub returns-in-End : goal.returns-in-End
returns-in-End c =
    let u = c.in-Some.inside.now in
    let rest = c.loop-at.rest.now in
    let v = c.as_bytes.ensures.value in
    let m = rw v at c.in-Some-memchr3.ensures in
    let out = string_bytes c.push_str.new.self in
    let back = c.split_before.result.1.now in
    let w = within_cut u (string_bytes c.loop-at.out) out rest c.split_before.result.0.now back c.in-Some-memchr3.at
    c.loop-at.invariant.1 c.split_before.ensures.front c.split_before.ensures.back
    (λ k l. m.0.before k (omega arith) l)
    c.in_ok-push_str.ensures.bytes in
    within_end u out back c.in-End.behind.now c.args.text.now w c.in-End.ensures c.in-Some.ensures

pub loop-at-preserved : goal.loop-at-preserved
loop-at-preserved c =
    let u = c.in-Some.inside.now in
    let rest = c.loop-at.rest.now in
    let v = c.as_bytes.ensures.value in
    let m = rw v at c.in-Some-memchr3.ensures in
    let out = string_bytes c.push_str.new.self in
    let back = c.split_before.result.1.now in
    let w = within_cut u (string_bytes c.loop-at.out) out rest c.split_before.result.0.now back c.in-Some-memchr3.at
    c.loop-at.invariant.1 c.split_before.ensures.front c.split_before.ensures.back
    (λ k l. m.0.before k (omega arith) l)
    c.in_ok-push_str.ensures.bytes in
    let e = c.in-Escape.ensures in (
      search rules,
      escape_step u out back c.in-Escape.behind.now
          (string_bytes c.push.new.self) e.0 c.in-Escape.character w e.1 e.2
          (c.in_ok-push-in-Escape.ensures.bytes
          ∙ ap (λ z. out ++ z) (c.in_ok-push-in-Escape.ensures.ascii (escape_ascii e.0 c.in-Escape.character e.1))),
    )

pub returns-in-Wrong : goal.returns-in-Wrong
returns-in-Wrong c =
    let u = c.in-Some.inside.now in
    let rest = c.loop-at.rest.now in
    let v = c.as_bytes.ensures.value in
    let m = rw v at c.in-Some-memchr3.ensures in
    let out = string_bytes c.push_str.new.self in
    let back = c.split_before.result.1.now in
    let w = within_cut u (string_bytes c.loop-at.out) out rest c.split_before.result.0.now back c.in-Some-memchr3.at
    c.loop-at.invariant.1 c.split_before.ensures.front c.split_before.ensures.back
    (λ k l. m.0.before k (omega arith) l)
    c.in_ok-push_str.ensures.bytes in
    let a = mark_at rest back c.in-Some-memchr3.at m.0.high c.split_before.ensures.back m.1 in
    λ t z. within_wrong u out back c.args.text.now w c.in-Some.ensures a.0 a.1 c.in-Wrong.ensures.0 c.in-Wrong.ensures.1
    t z

pub returns : goal.returns
returns c =
    let m = rw c.as_bytes.ensures.value at c.in_default-memchr3.ensures in
    λ t z. within_none c.in-Some.inside.now
    (string_bytes c.loop-at.out) c.loop-at.rest.now c.args.text.now c.loop-at.invariant.1 c.in-Some.ensures
    (λ k l. m k (omega arith) l) t z
