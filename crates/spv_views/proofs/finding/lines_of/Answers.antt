use Rattle.std.proofs.Common.{◌≡◌, false, true, IsUtf8, arith, string_bytes, subst, sym}
use Rattle.std.proofs.lemmas.Str.{IsUtf8-append, IsUtf8-string_bytes}
use Rattle.spv_check.specs.Verdict.{fault_line}
use Rattle.spv_views.proofs.Verdicts.{fault_utf8}
use Rattle.spv_views.proofs.finding.lines_of.Goals as goal

pub unreachable-requires : goal.unreachable-requires
unreachable-requires c =
    let f = c.args.fault in
    let lines = c.args.explanation.now.lines in
    let e = rw c.requires at c.in_ok-bytes.ensures in
    let text = subst IsUtf8 (sym e) (IsUtf8-append (fault_line f.rule f.inst f.word) (string_bytes lines)
    (fault_utf8 f.rule f.inst f.word (omega arith) (omega arith)) (IsUtf8-string_bytes lines)) in
    let never : false ≡ true = c.in-Err.ensures.succeeds text in
    cc
