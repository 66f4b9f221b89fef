-- A line is read, or fails, by its parts.
use Rattle.std.proofs.Common.{◌≡◌, ◌∙◌, ℕ, List, Option, Some, None, map, option_map, ap}
use Rattle.spv_table.specs.declared.table.Entry.{Entry}
use Rattle.spv_table.specs.Table.{Table, pattern_of}
use Rattle.spv_module.specs.Operand.{PlainInst, start, result_in}
use Rattle.spv_inst.specs.Flat.{due}
use Rattle.spv_lines.specs.declared.asm_error.AsmCode.{AsmCode}
use Rattle.spv_lines.specs.declared.asm_error.AsmCode.TheVariants.{S1, S2, S3, S4, S5, S6}
use Rattle.spv_lines.specs.Operand.{IsRead, id_text}
use Rattle.spv_lines.specs.Written.{Written}
use Rattle.spv_lines.specs.Line.{Parts, parts_of, IsInstName}
use Rattle.spv_lines.specs.Refusal.{IsBreak}
use Rattle.spv_lines.specs.Fault.{IsResult, ResultFails, LineFails}
use Rattle.spv_lines.proofs.Failing.{is_result_id}
use Rattle.spv_lines.proofs.Whole.{parts_break}
use Rattle.spv_parser.specs.declared.operands.Line.{Line}
use Rattle.spv_parser.specs.inner.Reading.{AreRead, IsLine, LineFailsOr, OperandsFailOr}

pub line_undivided : (G : Table) (before : List PlainInst) (written : ℕ) (line : List ℕ) → parts_of line ≡ None
    → LineFailsOr G before written line S2
line_undivided G before written line e = LineFails.undivided e

pub line_unnamed : (G : Table) (before : List PlainInst) (written : ℕ) (line : List ℕ) (P : Parts)
    → parts_of line ≡ Some P → ((opcode : ℕ) (entry : Entry) → IsInstName G P.name opcode entry → ⊥)
    → LineFailsOr G before written line S2
line_unnamed G before written line P e n = LineFails.name P e n

pub line_result_failed : (G : Table) (before : List PlainInst) (written : ℕ) (line : List ℕ) (P : Parts) (opcode : ℕ)
    (entry : Entry) (code : AsmCode) → parts_of line ≡ Some P → IsInstName G P.name opcode entry
    → ResultFails G (start before opcode) (pattern_of entry) P.result code → LineFailsOr G before written line code
line_result_failed G before written line P opcode entry S1 e n f = LineFails.result P opcode entry S1 e n f
line_result_failed G before written line P opcode entry S2 e n f = LineFails.result P opcode entry S2 e n f
line_result_failed G before written line P opcode entry S3 e n f = LineFails.result P opcode entry S3 e n f
line_result_failed G before written line P opcode entry S4 e n f = LineFails.result P opcode entry S4 e n f
line_result_failed G before written line P opcode entry S5 e n f = LineFails.result P opcode entry S5 e n f
line_result_failed G before written line P opcode entry S6 e n f = tt

pub line_operands_failed : (G : Table) (before : List PlainInst) (written : ℕ) (line : List ℕ) (P : Parts) (opcode : ℕ)
    (entry : Entry) (r : Option ℕ) (code : AsmCode) → parts_of line ≡ Some P → IsInstName G P.name opcode entry
    → IsResult P.result r × ((wrong : AsmCode)
    → ¬ (ResultFails G (start before opcode) (pattern_of entry) P.result wrong))
    → OperandsFailOr G r (start before opcode) (map due (pattern_of entry)) P.operands code
    → LineFailsOr G before written line code
line_operands_failed G before written line P opcode entry r S1 e n f h =
    LineFails.operands P opcode entry r S1 e n f.1 f.0 h
line_operands_failed G before written line P opcode entry r S2 e n f h =
    LineFails.operands P opcode entry r S2 e n f.1 f.0 h
line_operands_failed G before written line P opcode entry r S3 e n f h =
    LineFails.operands P opcode entry r S3 e n f.1 f.0 h
line_operands_failed G before written line P opcode entry r S4 e n f h =
    LineFails.operands P opcode entry r S4 e n f.1 f.0 h
line_operands_failed G before written line P opcode entry r S5 e n f h =
    LineFails.operands P opcode entry r S5 e n f.1 f.0 h
line_operands_failed G before written line P opcode entry r S6 e n f h = tt

pub line_read : (G : Table) (before : List PlainInst) (octets words : List ℕ) (P : Parts) (opcode : ℕ) (entry : Entry)
    (r : Option ℕ) (line : Line) → parts_of octets ≡ Some P → IsInstName G P.name opcode entry
    → P.result ≡ option_map id_text r
    → AreRead G r before opcode (map due (pattern_of entry)) P.operands words line → IsLine G before octets words line
line_read G before octets words P opcode entry r line e n f a =
    let m = a.written in
    let m' : Written (IsRead G) G (result_in a.operands) (start before opcode)
    (map due (pattern_of entry)) a.operands words P.operands = rw a.result at m in
    record {
      inst = record { opcode = opcode; operands = a.operands };
      read = record {
        parts = P;
        entry = entry;
        divided = e;
        name = n;
        result = f ∙ ap (option_map id_text) a.result;
        written = m';
        small = a.small;
      };
      kept = a.kept;
    }

-- what stands in front of ` = `
pub result_text : (t : Option (List ℕ)) (r : Option ℕ) → IsResult t r → t ≡ option_map id_text r
result_text t r f = (is_result_id t r f).first

pub divided_break : (line : List ℕ) (P : Parts) → parts_of line ≡ Some P → IsBreak P.operands
divided_break line P e = parts_break line P e
