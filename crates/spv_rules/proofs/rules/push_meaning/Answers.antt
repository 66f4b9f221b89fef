use Rattle.std.proofs.Common.{rules, ◌++◌, ◌∙◌, ap, append_assoc, arith, string_bytes, sym}
use Rattle.spv_rules.specs.Codes.{indented}
use Rattle.spv_rules.specs.inner.Lines.{indented_line}
use Rattle.spv_rules.proofs.Indented.{last_line, one_line}
use Rattle.spv_rules.proofs.rules.push_meaning.Goals as goal

pub loop-line-preserved : goal.loop-line-preserved
loop-line-preserved c =
    let s = c.in-Some.ensures.byte (omega arith) (λ w o h. h) in
    let e = one_line c.loop-line.rest.now c.in-Some.line.now c.in-Some.more.now s.0 s.1 s.2 in
    record {
      utf8 = search rules;
      told = ap (λ z. z ++ indented c.in-Some.more.now) c.in_ok-push_indented.ensures
          ∙ (append_assoc (string_bytes c.loop-line.out) (indented_line c.in-Some.line.now) (indented c.in-Some.more.now)
          ∙ (ap (λ z. string_bytes c.loop-line.out ++ z) (sym e) ∙ c.loop-line.invariant.told));
    }

pub loop-line-smaller : goal.loop-line-smaller
loop-line-smaller c = search rules

pub returns : goal.returns
returns c =
    let e = last_line c.loop-line.rest.now (c.in_default.ensures.byte (omega arith) (λ w o h. h)) in
    rw (sym c.loop-line.invariant.told, e) c.push_indented-2.ensures
