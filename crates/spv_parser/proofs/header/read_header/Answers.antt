use Rattle.std.proofs.Common.{◌∙◌, ◌++◌, ◌∷◌, ap, arith}
use Rattle.std.specs.Prelude.{codes, decimal}
use Rattle.spv_lines.specs.Text.{lines_of}
use Rattle.spv_parser.proofs.Headed.{generator_ill, generator_large, bound_ill, bound_out, schema_fails}
use Rattle.spv_parser.proofs.header.read_header.Goals as goal
use Rattle.spv_parser.proofs.header.read_header.Goals.{then-bound-lt1-via-then-bound-lt1}
use Rattle.spv_parser.proofs.header.read_header.Goals.{then-bound-lt1-via-else-bound-lt1+then-bound-gt-GREATEST_BOUND}

pub returns-in-IllFormed-clause-failed : goal.returns-in-IllFormed-clause-failed
returns-in-IllFormed-clause-failed c =
    let n = rw c.in-IllFormed.is at c.in-Err.ensures.none in
    rw c.header_error-in-IllFormed.ensures
    (generator_ill (lines_of c.args.text.now) c.in-Some-behind_line.text.now
    (c.in-Some.ensures ∙ ap (λ z. codes "; SPIR-V" ∷ z) c.in-Some-behind_line.ensures) n)

pub returns-in-TooLarge-clause-failed : goal.returns-in-TooLarge-clause-failed
returns-in-TooLarge-clause-failed c =
    let n = rw c.in-TooLarge.is at c.in-Err.ensures.none in
    rw c.header_error-in-TooLarge.ensures (generator_large (lines_of c.args.text.now) c.in-Some-behind_line.text.now
    (c.in-Some.ensures ∙ ap (λ z. codes "; SPIR-V" ∷ z) c.in-Some-behind_line.ensures) n)

pub returns-in-Err-numbered_line-clause-failed : goal.returns-in-Err-numbered_line-clause-failed
returns-in-Err-numbered_line-clause-failed c =
    let f = c.in-Ok.ensures.found in
    let e = c.in-Some.ensures ∙ ap (λ z. codes "; SPIR-V" ∷ z)
    (c.in-Some-behind_line.ensures ∙ ap (λ z. codes "; Version: 1.6" ∷ z) f.1) in
    rw c.header_error-in-Err-numbered_line.ensures
    (bound_ill (lines_of c.args.text.now) c.in-Ok.found.1.now c.in-Ok.found.0 c.in-Err-numbered_line.field-0 f.0 e
    c.in-Err-numbered_line.ensures.none)

pub returns-then-bound-lt1-clause-failed : goal.returns-then-bound-lt1-clause-failed
returns-then-bound-lt1-clause-failed c =
    let f = c.in-Ok.ensures.found in
    let g = c.in-Ok-numbered_line.ensures.found in
    let e = c.in-Some.ensures ∙ ap (λ z. codes "; SPIR-V" ∷ z)
    (c.in-Some-behind_line.ensures ∙ ap (λ z. codes "; Version: 1.6" ∷ z) f.1) in
    rw c.header_error-then-bound-lt1.ensures
    (bound_out (lines_of c.args.text.now) (lines_of c.in-Ok.found.1.now)
    (lines_of c.in-Ok-numbered_line.found.1.now) c.in-Ok.found.0 c.in-Ok-numbered_line.found.0 f.0 g.0 e g.1
    (λ l m. elim c.then-bound-lt1.branch [
      | then-bound-lt1-via-then-bound-lt1 w ↦ omega arith
      | then-bound-lt1-via-else-bound-lt1+then-bound-gt-GREATEST_BOUND w ↦ omega arith
    ]))

pub returns-in_default-behind_line-2-clause-failed : goal.returns-in_default-behind_line-2-clause-failed
returns-in_default-behind_line-2-clause-failed c =
    let f = c.in-Ok.ensures.found in
    let g = c.in-Ok-numbered_line.ensures.found in
    let e = c.in-Some.ensures ∙ ap (λ z. codes "; SPIR-V" ∷ z)
    (c.in-Some-behind_line.ensures ∙ ap (λ z. codes "; Version: 1.6" ∷ z)
    (f.1 ∙ ap (λ z. (codes "; Generator: " ++ decimal c.in-Ok.found.0) ∷ z) g.1)) in
    rw c.header_error-in_default-behind_line-2.ensures
    (schema_fails (lines_of c.args.text.now)
    (lines_of c.in-Ok-numbered_line.found.1.now) c.in-Ok.found.0 c.in-Ok-numbered_line.found.0 f.0 (omega arith)
    (omega arith) e c.in_default-behind_line-2.ensures)
