-- The texts of the worked examples of JSON.
use Rattle.std.proofs.Common.{◌≡◌, ◌≤◌, ◌-◌, ◌∙◌, ◌++◌, ℕ, List, [], ◌∷◌, Some, None, ap, codes, drop, refl, sym, arith}
use Rattle.std.proofs.Common.{inl, inr, slice_index}
use Rattle.std.specs.Prelude.{◌≢◌, ◌⊎◌, false, true}
use Rattle.std.proofs.lemmas.Fmt.{decimal_digit}
use Rattle.json.specs.Print.{escape_byte, print_from}
use Rattle.json.specs.Token.{Token, key as name, string}
use Rattle.spv_words.specs.Header.{IsModule}
use Rattle.spv_words.specs.declared.words.Order.{Order}
use Rattle.spv_words.specs.declared.words.WordError.TheVariants as word
use Rattle.spv_table.specs.Table.{Table}
use Rattle.spv_module.specs.Instruction.{IsListing}
use Rattle.spv_module.specs.Operand.{PlainInst}
use Rattle.spv_module.specs.declared.fault.Fault.{Fault}
use Rattle.spv_extended.specs.declared.reach.Reach.{Reach}
use Rattle.spv_extended.specs.Reach.{looked_at}
use Rattle.spv_layout.specs.First.{stage_of}
use Rattle.spv_layout.specs.Stage.{of_profile}
use Rattle.spv_evidence.specs.declared.evidence.Evidence.{Evidence}
use Rattle.spv_form_evidence.specs.words.Evidence as instructions
use Rattle.spv_rules.specs.declared.errors.AnyCode.TheVariants.{Error}
use Rattle.spv_rules.specs.declared.errors.ErrorCode.TheVariants.{J5}
use Rattle.spv_check.specs.Broken.{Broken}
use Rattle.spv_check.specs.Verdict.{line_end}
use Rattle.spv_check.specs.declared.verdict_line.Judgment.TheVariants as verdicts
use Rattle.spv_facts.specs.Refused.{front_of}
use Rattle.spv_fault_json.specs.Members.{refused_members}
use Rattle.spv_explain.specs.Json.{AreMembers, code_line, error_object, json_line, object_of}
use Rattle.spv_explain.specs.declared.answers.Unread.TheVariants as unread
use Rattle.spv_extended.specs.declared.reach.Reach.TheVariants as reaches
use Rattle.spv_explain.proofs.Sufficing.{suffices}

pub valid_told : json_line (object_of reaches.Profile (Some (codes "a.spv"))
    verdicts.Valid []) ≡ codes "{\"file\":\"a.spv\",\"verdict\":\"valid\",\"profile\":\"own\"}" ++ line_end
unfolding print_from escape_byte
valid_told = refl

pub unnamed_told : json_line (object_of (reaches.OpenCl 4) None verdicts.Valid []) ≡ codes "{\"verdict\":\"valid\",\"profile\":\"opencl\"}" ++ line_end
unfolding print_from escape_byte
unnamed_told = refl

pub not_named_told : ¬ (json_line (object_of (reaches.OpenCl 4) None verdicts.Valid []) ≡ codes "{\"file\":\"\",\"verdict\":\"valid\",\"profile\":\"opencl\"}"
    ++ line_end)
not_named_told h = (let f : 118 ≡ 102 = ap (λ (t : List ℕ). slice_index t 2) (sym unnamed_told ∙ h) in
    absurd (omega (arith, f)))

pub escaped_told : json_line (object_of reaches.Profile (Some (34 ∷ 27 ∷ []))
    verdicts.Valid []) ≡ codes "{\"file\":\"\\\"\\u001b\",\"verdict\":\"valid\",\"profile\":\"own\"}" ++ line_end
unfolding print_from escape_byte
escaped_told = refl

pub late_told : json_line (object_of reaches.Profile (Some (127 ∷ 194 ∷ 155 ∷ []))
    verdicts.Valid []) ≡ codes "{\"file\":\"\\u007f\\u009b\",\"verdict\":\"valid\",\"profile\":\"own\"}" ++ line_end
unfolding print_from escape_byte
late_told = refl

pub unread_told : json_line (error_object (Some (codes "a.spv")) unread.File)
    ≡ codes "{\"file\":\"a.spv\",\"verdict\":\"error\",\"error\":\"file\"}" ++ line_end
unfolding print_from escape_byte
unread_told = refl

pub code_told : code_line false (Error J5) ≡ codes "{\"code\":\"J5\",\"rule\":\"Each category and each quantifier is a known one. [own]\",\"section\":\"own\"}" ++ line_end
unfolding print_from escape_byte
code_told = refl

pub full_told : code_line true (Error J5) ≡ codes "{\"code\":\"J5\",\"rule\":\"Each category and each quantifier is a known one. [own]\",\"section\":\"own\",\"meaning\":\"an unknown category or quantifier\"}" ++ line_end
unfolding print_from escape_byte
full_told = refl

pub not_full_told : code_line true (Error J5) ≢ code_line false (Error J5)
not_full_told h = (let f : 44 ≡ 125 = ap (λ (t : List ℕ). slice_index t 93) (sym full_told ∙ h ∙ code_told) in
    absurd (omega (arith, f)))

pub found_told : refused_members word.W2 (front_of (1 ∷ 2 ∷ 3 ∷ [])) ≡ name (codes "found") ∷ string (codes "3 bytes")
    ∷ []
found_told = rw (decimal_digit 3 (omega arith)) refl

pub none_of_valid : (G : Table) (reach : Reach) (bytes : List ℕ) (members : List Token)
    → AreMembers G reach bytes verdicts.Valid members → members ≡ []
none_of_valid G reach bytes members AreMembers.valid = refl

pub fault_shown : (G : Table) (reach : Reach) (bytes : List ℕ) (f : Fault) (members : List Token)
    → AreMembers G reach bytes (verdicts.Broken f) members
    → ((words : List ℕ) × (order : Order) × (is : List PlainInst) × IsModule order bytes words
    × IsListing G is (drop 5 words) × (of_profile ≤ stage_of f.rule
    → Broken G reach (slice_index words 3) (looked_at reach is) f.rule f.inst))
    ⊎ ((words : List ℕ) × (order : Order) × (e : Evidence) × IsModule order bytes words
    × instructions.IsEvidence G (drop 5 words) f.rule f.inst (f.word - 5) e)
fault_shown G reach bytes f members (AreMembers.broken words order is g e shown m l s are) =
    inl (
      words,
      order,
      is,
      m,
      l,
      (λ late. suffices G reach (slice_index words 3) (looked_at reach is) f.rule f.inst e
          (s late)),
    )
fault_shown G reach bytes f members (AreMembers.dead words order g e m s) = inr (words, order, e, m, s)
