use Rattle.std.proofs.Common.{◌∙◌, ap, Some, None}
use Rattle.std.specs.Prelude.{option_map, Ok, Err}
use Rattle.spv_table.specs.Table.{entry_of, pattern_of}
use Rattle.spv_lines.specs.declared.asm_error.AsmCode.TheVariants.{S3, S4}
use Rattle.spv_parser.specs.declared.text_reason.Wanted.TheVariants as wanted
use Rattle.spv_parser.proofs.Headed.{front_none, front_some}
use Rattle.spv_parser.proofs.Halting.{has_so, lacks_missing, lacks_none, lacks_ill, lacks_large}
use Rattle.spv_parser.proofs.Patterns.{may_have, must_have}
use Rattle.spv_parser.proofs.stops.result_or_lack.Goals as goal

pub returns-then-has_result : goal.returns-then-has_result
returns-then-has_result c = λ d e k.
    let G = c.args.table.now in
    let has = must_have G d (entry_of G c.args.opcode) e c.has_result.result c.has_result.ensures k in
    has_so (λ t. t.now) G d (pattern_of e) c.args.front None (Err (record { code = S3; wanted = wanted.Result }))
    (ap (option_map (λ t. t.now)) c.in_default.is) (lacks_missing G d (pattern_of e) (has ∙ c.if-has_result.true))

pub returns-in_default : goal.returns-in_default
returns-in_default c = λ d e k.
    let G = c.args.table.now in
    let has = must_have G d (entry_of G c.args.opcode) e c.has_result.result c.has_result.ensures k in
    has_so (λ t. t.now) G d (pattern_of e) c.args.front None (Ok None) (ap (option_map (λ t. t.now)) c.in_default.is)
    (front_none G d (pattern_of e) (has ∙ c.if-has_result.false))

pub returns-then-not-has_result : goal.returns-then-not-has_result
returns-then-not-has_result c = λ d e k.
    let G = c.args.table.now in
    let has = may_have G d (entry_of G c.args.opcode) e c.has_result-2.result c.has_result-2.ensures k in
    has_so (λ t. t.now) G d (pattern_of e) c.args.front (Some c.in-Some.text.now)
    (Err (record { code = S3; wanted = wanted.NoResult })) (ap (option_map (λ t. t.now)) c.in-Some.is)
    (lacks_none G d (pattern_of e) c.in-Some.text.now (has ∙ c.if-not-has_result.true))

pub returns-in-Ok : goal.returns-in-Ok
returns-in-Ok c = λ d e k.
    let G = c.args.table.now in
    let has = may_have G d (entry_of G c.args.opcode) e c.has_result-2.result c.has_result-2.ensures k in
    has_so (λ t. t.now) G d (pattern_of e) c.args.front (Some c.in-Some.text.now) (Ok (Some c.in-Ok.id))
    (ap (option_map (λ t. t.now)) c.in-Some.is)
    (front_some G d (pattern_of e) c.in-Some.text.now c.in-Ok.id (has ∙ c.if-not-has_result.false)
    (rw c.as_bytes.ensures.value at c.in-Ok.ensures))

pub returns-in-Err-IllFormed : goal.returns-in-Err-IllFormed
returns-in-Err-IllFormed c = λ d e k.
    let G = c.args.table.now in
    let has = may_have G d (entry_of G c.args.opcode) e c.has_result-2.result c.has_result-2.ensures k in
    has_so (λ t. t.now) G d (pattern_of e) c.args.front (Some c.in-Some.text.now)
    (Err (record { code = S3; wanted = wanted.ResultId })) (ap (option_map (λ t. t.now)) c.in-Some.is)
    (lacks_ill G d (pattern_of e) c.in-Some.text.now (has ∙ c.if-not-has_result.false)
    (rw (c.in-Err-IllFormed.is, c.in-Err-IllFormed.field-0-is, c.as_bytes.ensures.value) at c.read_behind.ensures))

pub returns-in-Err-TooLarge : goal.returns-in-Err-TooLarge
returns-in-Err-TooLarge c = λ d e k.
    let G = c.args.table.now in
    let has = may_have G d (entry_of G c.args.opcode) e c.has_result-2.result c.has_result-2.ensures k in
    has_so (λ t. t.now) G d (pattern_of e) c.args.front (Some c.in-Some.text.now)
    (Err (record { code = S4; wanted = wanted.ResultId })) (ap (option_map (λ t. t.now)) c.in-Some.is)
    (lacks_large G d (pattern_of e) c.in-Some.text.now (has ∙ c.if-not-has_result.false)
    (rw (c.in-Err-TooLarge.is, c.in-Err-TooLarge.field-0-is, c.as_bytes.ensures.value) at c.read_behind.ensures))
